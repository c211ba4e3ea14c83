-- Pieces written one after the other. Assumes nothing.
use mathlib.Core.Path.{◌≡◌, refl, ap, sym, ◌∙◌}
use Prim.Native.Nat.{ℕ, ◌+◌, ◌≤◌}
use native.Mathlib.Omega.{arith}
use mathlib.Core.List.{List, [], ◌++◌, append_assoc, append-nil}
use lib.ListN.{length, take, drop, length-append, length-take, length-drop, drop_of_length-le}
use lib.Seq.{take_at, drop-append-add, drop-drop, length-take-le}
use borrow.Rule.Slice.PartMut.{put_mid}
use Rattle.cells.specs.Cells.{written}

-- what was written over the k bytes from `at` on
put_here : (xs : List ℕ) (at k : ℕ) (ys : List ℕ) → k ≡ length ys → put_mid at k xs ys ≡ written xs at ys
unfolding written
put_here xs at k ys e = ap (λ (l : List ℕ). take at xs ++ (ys ++ l)) (drop-drop k at xs ∙ ap (λ (m : ℕ). drop (at + m) xs) e)

pub length_written : (xs : List ℕ) (at : ℕ) (p : List ℕ) → at + length p ≤ length xs → length (written xs at p) ≡ length xs
unfolding written
length_written xs at p h = simp (length-append, length-take, length-drop) (omega arith)

-- one piece after the other is one piece
pub written_more : (xs : List ℕ) (at n : ℕ) (p q : List ℕ) → n ≡ at + length p → at + length p ≤ length xs → written (written xs at p) n q ≡ written xs at (p ++ q)
unfolding written
written_more xs at n p q m h =
    let a = take at xs ++ p in
    let b = drop (at + length p) xs in
    let la : length a ≡ n = length-append (take at xs) p ∙ ap (λ (k : ℕ). k + length p) (length-take-le at xs (omega arith)) ∙ sym m in
    let e0 : take at xs ++ (p ++ b) ≡ a ++ b = sym (append_assoc (take at xs) p b) in
    let e1 : take n (a ++ b) ≡ a = take_at a b n la in
    let l2 : at + length p + length q ≡ at + length (p ++ q) = let l = length-append p q in omega arith in
    let e2 : drop (n + length q) (a ++ b) ≡ drop (at + length (p ++ q)) xs =
    ap (λ (k : ℕ). drop (k + length q) (a ++ b)) (sym la) ∙ drop-append-add a b (length q) ∙ drop-drop (length q) (at + length p) xs
    ∙ ap (λ (k : ℕ). drop k xs) l2
    in
    rw (e0, e1, e2, append_assoc, append_assoc)

-- the next piece, after p: what was written over the k bytes from m on
pub next : (xs : List ℕ) (at : ℕ) (p q x1 : List ℕ) (m k : ℕ) → x1 ≡ written xs at p → m ≡ at + length p → at + length p ≤ length xs → k ≡ length q → put_mid m k x1 q ≡ written xs at (p ++ q)
next xs at p q x1 m k e d h c = put_here x1 m k q c ∙ ap (λ (z : List ℕ). written z m q) e ∙ written_more xs at m p q d h

pub written_none : (xs : List ℕ) → xs ≡ written xs 0 []
unfolding written
written_none xs = refl

-- a piece as long as the output is the output
pub written_whole : (xs p : List ℕ) → length p ≡ length xs → p ≡ written xs 0 p
unfolding written
written_whole xs p e = sym (ap (λ (l : List ℕ). p ++ l) (drop_of_length-le xs {i = 0 + length p} (omega arith)) ∙ append-nil p)
