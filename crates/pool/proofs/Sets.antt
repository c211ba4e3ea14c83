-- What every kind of a set passes, by computing. Assumes nothing.
use mathlib.Core.Path.{◌≡◌, refl}
use mathlib.Core.Bool.{Bool, true, false, not, ◌&&◌, ◌||◌, and-eq-true_iff}
use Prim.Native.Nat.{ℕ, zero, suc, ◌^◌, ◌<◌}
use native.Mathlib.Omega.{arith}
use lib.Bits.{bit_and}
use lib.Dec.{ltb, eqb}
use borrow.Author.Tests.{eqb-true, eqb-false, ltb-true}
use Rattle.pool.specs.Kinds as kind

-- a test of each number below n
abbrev pub every : ℕ → (ℕ → Bool) → Bool
every zero f = true
every (suc n) f = f n && every n f

every_at : (n : ℕ) (f : ℕ → Bool) → every n f ≡ true → (t : ℕ) → t < n → f t ≡ true
every_at zero f e t h = absurd (omega arith)
every_at (suc n) f e t h = go (eqb t n) refl ((and-eq-true_iff (f n) (every n f)).0 e) (λ q. every_at n f q t)
  where
    go : (b : Bool) → eqb t n ≡ b → (f n ≡ true) × (every n f ≡ true) → (every n f ≡ true → t < n → f t ≡ true) → f t ≡ true
    go true q both more = let z = eqb-true t n q in rw z both.0
    go false q both more = let d = eqb-false t n q in more both.1 (omega arith)

-- a test of each kind of a set
abbrev pub all : ℕ → (ℕ → Bool) → Bool
all set test = every 32 (λ t. not (kind.has set t) || test t)

has_tag : (set t : ℕ) → kind.has set t ≡ true → t < 32
unfolding kind.has
has_tag set t e = ltb-true t 32 ((and-eq-true_iff (ltb t 32) (not (eqb (bit_and set (2 ^ t)) 0))).0 e).0

pub all_at : (set : ℕ) (test : ℕ → Bool) → all set test ≡ true → (t : ℕ) → kind.has set t ≡ true → test t ≡ true
all_at set test a t e = rw e at (every_at 32 (λ t. not (kind.has set t) || test t) a t (has_tag set t e))
