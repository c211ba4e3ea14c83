-- The test of one slot, reference by reference. Assumes nothing.
use Prim.Native.Nat.{ℕ, suc, ◌-◌}
use native.Mathlib.Omega.{arith}
use mathlib.Core.Path.{◌≡◌, refl, ◌∙◌, ap}
use mathlib.Core.List.{List, [], ◌∷◌, ◌++◌}
use mathlib.Core.Bool.{Bool, true, false, ◌||◌}
use lib.Dec.{eqb}
use borrow.Author.Tests.{eq-eqb, ne_eqb}
use Rattle.pool.specs.Rows.{one, other, row_of}
use Rattle.pool.specs.Pool.{Pool}
use Rattle.slot.specs.Slots.{tag_of, field}
use Rattle.reach.specs.Reach.{named, refers_to, any_of, reaches}

-- ---- one reference of slot a: none, slot b itself, or on from there

module _ (p : Pool) (a k b : ℕ) (on : ℕ → Bool) where
  pub no_reference : k ≡ 0 → false ≡ any_of (λ x. eqb x b || on x) (named p a k)
  unfolding named any_of
  no_reference e = rw (eq-eqb k 0 e) refl

  pub itself : (k ≡ 0 → ⊥) → field p a k ≡ b → true ≡ any_of (λ x. eqb x b || on x) (named p a k)
  unfolding named any_of
  itself h e = rw (ne_eqb k 0 h, eq-eqb (field p a k) b e) refl

  pub goes_on : (k ≡ 0 → ⊥) → (field p a k ≡ b → ⊥) → on (field p a k) ≡ any_of (λ x. eqb x b || on x) (named p a k)
  unfolding named any_of
  goes_on h e = rw (ne_eqb k 0 h, ne_eqb (field p a k) b e) (or_none (on (field p a k)))
    where
      or_none : (t : Bool) → t ≡ t || false
      or_none true = refl
      or_none false = refl

-- ---- both references

any_append : (test : ℕ → Bool) (xs ys : List ℕ) → any_of test (xs ++ ys) ≡ any_of test xs || any_of test ys
unfolding any_of
any_append test [] ys = refl
any_append test (x ∷ xs) ys = go (test x) (any_append test xs ys)
  where
    go : (t : Bool) → any_of test (xs ++ ys) ≡ any_of test xs || any_of test ys → t || any_of test (xs ++ ys) ≡ (t || any_of test xs) || any_of test ys
    go true e = refl
    go false e = e

module _ (p : Pool) (d a b : ℕ) where
  pub no_depth : d ≡ 0 → false ≡ reaches d p a b
  unfolding reaches
  no_depth e = rw e refl

  module _ (h : d ≡ 0 → ⊥) where
    abbrev By : ℕ → Bool
    By k = any_of (λ x. eqb x b || reaches (d - 1) p x b) (named p a k)

    both : reaches d p a b ≡ By (one (row_of (tag_of p a))) || By (other (row_of (tag_of p a)))
    unfolding reaches refers_to
    both =
        let e : d ≡ suc (d - 1) = omega arith in
        ap (λ (n : ℕ). reaches n p a b) e ∙ any_append (λ x. eqb x b || reaches (d - 1) p x b) (named p a (one (row_of (tag_of p a)))) (named p a (other (row_of (tag_of p a))))

    pub by_one : true ≡ By (one (row_of (tag_of p a))) → true ≡ reaches d p a b
    by_one e = rw (both, ← e) refl

    pub by_other : false ≡ By (one (row_of (tag_of p a))) → By (other (row_of (tag_of p a))) ≡ reaches d p a b
    by_other e = rw (both, ← e) refl
