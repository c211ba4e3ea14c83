-- A table of records that is filled from the front, one store a turn: f says each. Assumes nothing.
use mathlib.Core.Path.{◌≡◌, refl, sym, ap, subst, ◌∙◌}
use Prim.Native.Nat.{ℕ, zero, suc, ◌+◌, ◌≤◌}
use native.Mathlib.Nat.{le_of_lt, le_refl, le_antisymm, add-zero, zero-add, add-suc, suc-add}
use mathlib.Core.List.{List, ◌∷◌, ◌++◌, append-nil}
use Rattle.std.proofs.Common.{add-one}
use lib.ListN.{length, get_or, set, drop, length-set, drop_of_length-le}
use lib.Seq.{drop-cons, set_at}
use Rattle.records.specs.Records.{records_from}

module _ {A : Type 0} (f : ℕ → A) where
  module _ (xs : List A) where
    -- xs after i turns
    unfoldable pub fill : ℕ → List A
    fill zero = xs
    fill (suc i) = set (fill i) i (f i)

    pub length_fill : (i : ℕ) → length (fill i) ≡ length xs
    unfolding fill
    length_fill zero = refl
    length_fill (suc i) = length-set (fill i) i (f i) ∙ length_fill i

    -- one turn more
    pub fill_more : (i : ℕ) (ys : List A) (y : A) → ys ≡ fill i → y ≡ f i → set ys i y ≡ fill (i + 1)
    unfolding fill
    fill_more i ys y e h = ap (λ (l : List A). set l i y) e ∙ ap (λ (v : A). set (fill i) i v) h ∙ sym (ap fill (add-one i))

  length_from : (k i : ℕ) → length (records_from f k i) ≡ i
  unfolding records_from
  length_from k zero = refl
  length_from k (suc i) = ap suc (length_from (suc k) i)

  -- one record more, at the end
  from_snoc : (k i : ℕ) (ys : List A) → records_from f k i ++ (f (k + i) ∷ ys) ≡ records_from f k (suc i) ++ ys
  unfolding records_from
  from_snoc k zero ys = ap (λ (j : ℕ). f j ∷ ys) (add-zero k)
  from_snoc k (suc i) ys = ap (λ (l : List A). f k ∷ l) (ap (λ (j : ℕ). records_from f (suc k) i ++ (f j ∷ ys)) (add-suc k i ∙ sym (suc-add k i)) ∙ from_snoc (suc k) i ys)

  module _ (xs : List A) where
    filled_to : (i : ℕ) → i ≤ length xs → fill xs i ≡ records_from f 0 i ++ drop i xs
    unfolding fill records_from
    filled_to zero h = refl
    filled_to (suc i) h =
        ap (λ (l : List A). set l i (f i)) (filled_to i (le_of_lt h) ∙ ap (λ (l : List A). records_from f 0 i ++ l) (drop-cons xs i (f i) h))
        ∙ set_at (records_from f 0 i) (get_or xs i (f i)) (drop (suc i) xs) (f i) i (length_from 0 i)
        ∙ ap (λ (j : ℕ). records_from f 0 i ++ (f j ∷ drop (suc i) xs)) (sym (zero-add i))
        ∙ from_snoc 0 i (drop (suc i) xs)

    pub filled : fill xs (length xs) ≡ records_from f 0 (length xs)
    filled = filled_to (length xs) (le_refl (length xs)) ∙ ap (λ (l : List A). records_from f 0 (length xs) ++ l) (drop_of_length-le xs (le_refl (length xs))) ∙ append-nil (records_from f 0 (length xs))

    -- after so many turns that no store is left
    pub filled_at : (i : ℕ) (ys : List A) → ys ≡ fill xs i → i ≤ length xs → length ys ≤ i → ys ≡ records_from f 0 (length xs)
    filled_at i ys e h k = let n : length xs ≤ i = subst (λ (j : ℕ). j ≤ i) (ap length e ∙ length_fill xs i) k in e ∙ ap (fill xs) (le_antisymm h n) ∙ filled
