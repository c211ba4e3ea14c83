-- Cells written one after the other: one turn of the loop, and its end. Assumes nothing.
use mathlib.Core.Path.{◌≡◌, refl, ap, sym, ◌∙◌}
use Prim.Native.Nat.{ℕ, ◌+◌, ◌-◌, ◌*◌, ◌≤◌, ◌<◌}
use native.Mathlib.Omega.{arith}
use mathlib.Core.List.{List, ◌++◌}
use lib.ListN.{length, get_or, take, drop, replicate, length-append, length-drop, length-replicate}
use lib.Seq.{length-take-le, take_all}
use borrow.Rule.Slice.PartMut.{put_mid, mid_of}
use Rattle.cells.specs.Cells.{cell_bytes, bytes_for, as_bytes, written}
use Rattle.cells.proofs.Written.{next, length_written, written_none, written_whole}
use Rattle.cells.proofs.Cells.{length_bytes, bytes_more}

-- the first i cells stand in the table
abbrev pub Sofar : List ℕ → List ℕ → List ℕ → ℕ → Type 0
Sofar xs ts t i = (i ≤ length xs) × (length t ≡ length ts) × (t ≡ written ts 0 (bytes_for (take i xs)))

pub begin : (xs ts : List ℕ) → Sofar xs ts ts 0
unfolding bytes_for
begin xs ts = (omega arith, refl, written_none ts)

module _ (xs ts : List ℕ) (fits : 4 * length xs ≤ length ts) where
  module _ (t ys : List ℕ) (i : ℕ) (v : Sofar xs ts t i) where
    size : (k : ℕ) → k ≤ length xs → length (bytes_for (take k xs)) ≡ 4 * k
    size k h = length_bytes (take k xs) ∙ ap (λ (m : ℕ). 4 * m) (length-take-le k xs h)

    pub turn : (k : ℕ) → i < length xs → k ≡ 4 → ys ≡ cell_bytes (get_or xs i 0) → Sofar xs ts (put_mid (i * 4) k t ys) (i + 1)
    turn k h f w =
        let p = size i v.0 in
        let q = size (i + 1) (omega arith) in
        let e = next ts 0 (bytes_for (take i xs)) ys t (i * 4) k v.2 (omega arith) (omega arith) (f ∙ sym (ap length w)) ∙ ap (λ (z : List ℕ). written ts 0 (bytes_for (take i xs) ++ z)) w ∙ ap (written ts 0) (bytes_more xs i h) in
        (omega arith, ap length e ∙ length_written ts 0 (bytes_for (take (i + 1) xs)) (omega arith), e)

    pub end : (m : ℕ) → m ≡ length xs * 4 → length xs ≤ i → ys ≡ replicate (length (mid_of m (length t - m) t)) 0 → put_mid m (length t - m) t ys ≡ as_bytes (length ts) xs
    unfolding as_bytes
    end m d h w =
        let e : t ≡ written ts 0 (bytes_for xs) = v.2 ∙ ap (λ (z : List ℕ). written ts 0 (bytes_for z)) (take_all i xs h) in
        let b = length_bytes xs in
        let l = v.1 in
        let n = length t - m in
        let k = length ts - 4 * length xs in
        let o : length (mid_of m n t) ≡ k = length-take-le n (drop m t) (omega (arith, length-drop m t)) ∙ omega arith in
        let z = replicate {A = ℕ} k 0 in
        let u : ys ≡ z = w ∙ ap (λ (j : ℕ). replicate {A = ℕ} j 0) o in
        let c = length-replicate {A = ℕ} k 0 in
        let a = length-append (bytes_for xs) z in
        ap (put_mid m n t) u ∙ next ts 0 (bytes_for xs) z t m n e (omega arith) (omega arith) (omega arith) ∙ sym (written_whole ts (bytes_for xs ++ z) (omega arith))
