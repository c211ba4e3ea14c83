-- Cells placed one after the other into a table of zeros. Assumes nothing.
use mathlib.Core.Path.{◌≡◌, refl, ap, sym, ◌∙◌}
use mathlib.Core.List.{List, [], ◌∷◌, ◌++◌, append_assoc, append-nil}
use Prim.Native.Nat.{ℕ, suc, ◌+◌, ◌≤◌}
use native.Mathlib.Omega.{arith}
use native.Mathlib.Nat.{add-zero}
use lib.ListN.{length, set, replicate, length-replicate}
use Rattle.reads.specs.Answer.{Answer, accept, refuse}
use Rattle.reads.specs.Tables.{padded, after}
use Rattle.reads.proofs.Tables.{padded_none, padded_set, longer}
use Rattle.reads.specs.Records.{placed, stored}

pub placed_append : (t : List ℕ) (n : ℕ) (xs ys : List ℕ) → placed t n (xs ++ ys) ≡ placed (placed t n xs) (n + length xs) ys
unfolding placed
placed_append t n [] ys = simp add-zero
placed_append t n (x ∷ xs) ys =
    let e : n + 1 + length xs ≡ n + suc (length xs) = omega arith in
    placed_append (set t n x) (n + 1) xs ys ∙ rw e

-- after the cells that are there
pub placed_padded : (len : ℕ) (cells xs : List ℕ) → length cells + length xs ≤ len → placed (padded 0 len cells) (length cells) xs ≡ padded 0 len (cells ++ xs)
unfolding placed
placed_padded len cells [] h = simp append-nil
placed_padded len cells (x ∷ xs) h =
    let s = padded_set 0 len cells x (omega arith) in
    let l = longer cells x in
    let g : length (cells ++ x ∷ []) + length xs ≤ len = omega arith in
    ap (λ (t : List ℕ). placed t (length cells + 1) xs) s ∙ ap (λ (n : ℕ). placed (padded 0 len (cells ++ x ∷ [])) n xs) (sym l) ∙ placed_padded len (cells ++ x ∷ []) xs g ∙ simp append_assoc

-- a table of zeros, after a call
pub stored_zero : {X : Type 0} (holds : X → List ℕ) (len : ℕ) (x : Answer X) → ((a : X) → accept a ≡ x → length (holds a) ≤ len) → stored holds (replicate len 0) 0 x ≡ after 0 holds len x
stored_zero holds len (accept a) h =
    let g = h a refl in
    ap (λ (t : List ℕ). placed t 0 (holds a)) (padded_none 0 len) ∙ placed_padded len [] (holds a) (omega arith)
stored_zero holds len (refuse nr place) h = simp length-replicate
