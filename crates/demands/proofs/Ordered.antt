-- A rising list is known by its members. Assumes nothing.
use Prim.Native.Nat.{ℕ, suc, ◌<◌}
use native.Mathlib.Omega.{arith}
use mathlib.Core.Path.{◌≡◌, refl, sym}
use mathlib.Core.List.Memᴰ
use mathlib.Core.List.{List, [], ◌∷◌}
use mathlib.Core.Logic.{⊎_elim, ◌↔◌}
use lib.ListN.{length, get_or}
use Rattle.reach.specs.Reach.{◌∈◌}
use Rattle.reach.proofs.Sieve.{Rising}

place_of : (a : ℕ) (xs : List ℕ) → a ∈ xs → (j : ℕ) × (j < length xs) × (get_or xs j 0 ≡ a)
place_of a [] m = absurd (Memᴰ.not-nil m)
place_of a (x ∷ xs) m = ⊎_elim (λ e. (0, omega arith, sym e)) (λ k. let j = place_of a xs k in let h = j.1 in (suc j.0, omega arith, j.2)) (Memᴰ.cases_cons m)

module _ (x : ℕ) (xs : List ℕ) (r : Rising (x ∷ xs)) where
  least : (a : ℕ) → a ∈ xs → x < a
  least a m =
      let j = place_of a xs m in
      let h = j.1 in
      let e = j.2 in
      let l = r 0 (suc j.0) (omega arith) (omega arith) in
      omega arith

  rest_rises : Rising xs
  rest_rises i j h l = r (suc i) (suc j) (omega arith) (omega arith)

same_first : (x y : ℕ) (xs ys : List ℕ) → Rising (x ∷ xs) → Rising (y ∷ ys) → x ∈ y ∷ ys → y ∈ x ∷ xs → x ≡ y
same_first x y xs ys r q a b =
    ⊎_elim (λ e. e) (λ k. let l = least y ys q x k in ⊎_elim (λ e. sym e) (λ m. let n = least x xs r y m in absurd (omega arith)) (Memᴰ.cases_cons b)) (Memᴰ.cases_cons a)

-- a member of the tail is one of the other tail, where the heads are the same
tail_in : (x y : ℕ) (xs ys : List ℕ) → Rising (x ∷ xs) → x ≡ y → (a : ℕ) → a ∈ xs → a ∈ y ∷ ys → a ∈ ys
tail_in x y xs ys r e a m k = ⊎_elim (λ z. let l = least x xs r a m in absurd (omega arith)) (λ t. t) (Memᴰ.cases_cons k)

pub same_list : (xs ys : List ℕ) → Rising xs → Rising ys → ((a : ℕ) → (a ∈ xs) ↔ (a ∈ ys)) → xs ≡ ys
same_list [] [] r q h = refl
same_list [] (y ∷ ys) r q h = absurd (Memᴰ.not-nil ((h y).1 (Memᴰ.head refl)))
same_list (x ∷ xs) [] r q h = absurd (Memᴰ.not-nil ((h x).0 (Memᴰ.head refl)))
same_list (x ∷ xs) (y ∷ ys) r q h =
    let e = same_first x y xs ys r q ((h x).0 (Memᴰ.head refl)) ((h y).1 (Memᴰ.head refl)) in
    let t = same_list xs ys (rest_rises x xs r) (rest_rises y ys q) (λ a. (λ m. tail_in x y xs ys r e a m ((h a).0 (Memᴰ.tail m)), λ m. tail_in y x ys xs q (sym e) a m ((h a).1 (Memᴰ.tail m)))) in
    λ i. e i ∷ t i
