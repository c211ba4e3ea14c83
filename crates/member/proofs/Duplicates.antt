-- The search for a duplicate is one over pairs of slots. Assumes nothing.
use mathlib.Core.Path.{◌≡◌, refl, ap}
use mathlib.Core.Bool.{Bool, true, ◌&&◌}
use mathlib.Core.List.{List, [], ◌∷◌}
use Prim.Native.Nat.{ℕ}
use Rattle.std.specs.List.{list_any, zip}
use Rattle.text.proofs.Names.{decides}
use Rattle.pool.specs.Pool.{Pool}
use Rattle.slot.specs.Slots.{bytes_of}
use Rattle.member.specs.Member.{alike, twice}

-- one slot has the same bytes as itself
pub alike_self : (p : Pool) (m n : ℕ) → m ≡ n → true ≡ alike p m n
unfolding alike
alike_self p m n e = decides true (bytes_of p m) (bytes_of p n) (λ _. ap (bytes_of p) e, λ _. refl)

module _ (p : Pool) (name type : ℕ) where
  -- whether a pair of slots says that name and that descriptor
  abbrev pub is_same : ℕ × ℕ → Bool
  is_same q = alike p name q.0 && alike p type q.1

  pub twice_zip : (names types : List ℕ) → list_any is_same (zip names types) ≡ twice p name type names types
  unfolding twice
  twice_zip [] types = refl
  twice_zip (m ∷ names) [] = refl
  twice_zip (m ∷ names) (t ∷ types) = rw (twice_zip names types)
