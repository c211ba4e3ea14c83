-- A lookup that answers at each slot of a kind never refuses there, on a table that is accepted. Assumes nothing.
use mathlib.Core.Path.{◌≡◌, refl, ◌∙◌}
use mathlib.Core.Bool.{true}
use mathlib.Core.List.{List}
use Prim.Native.Nat.{ℕ, ◌<◌}
use Rattle.reads.specs.Answer.{Answer, accept, ◌>>=◌}
use Rattle.pool.specs.Kinds as kind
use Rattle.pool.specs.Pool.{Pool, Whole, slots}
use Rattle.slot.specs.Slots.{tag_of}
use Rattle.handed.specs.Handed.{handed, lookup, asked}
use Rattle.handed.proofs.Own.{on_own, asked_fine}

module _ (s table : List ℕ) (w : Whole) (o : accept w ≡ handed s table) (n : ℕ) (h : n < slots w.pool) where
  module _ (allowed t : ℕ) (k : tag_of w.pool n ≡ t) (i : kind.has allowed t ≡ true) where
    pub asks : {A : Type 0} (f : Pool → Answer A) → lookup s table (λ p. asked p allowed n >>= λ _. f p) ≡ f w.pool
    asks f = on_own s table w o (λ p. asked p allowed n >>= λ _. f p) ∙ rw (← asked_fine w.pool allowed n h (rw k i)) refl
