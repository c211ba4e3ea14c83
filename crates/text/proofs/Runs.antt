-- Laws of runs, for a loop that goes from piece to piece by an index. Assumes nothing.
use Prim.Native.Nat.{ℕ, zero, suc, ◌+◌, ◌-◌, ◌≤◌}
use native.Mathlib.Omega.{arith}
use native.Mathlib.Nat.{zero-add}
use mathlib.Core.Path.{◌≡◌, refl, sym}
use mathlib.Core.List.{List, [], ◌∷◌}
use lib.ListN.{length, take, drop, length-drop, drop_of_length-le}
use lib.Seq.{take_all, drop-drop}
use Rattle.text.specs.Text.{covered, run}

-- the part of a slice from an index on is what is left when as many are dropped
pub part : (i : ℕ) (s : List ℕ) → take (length s - i) (drop i s) ≡ drop i s
part i s = take_all (length s - i) (drop i s) (rw length-drop (omega arith))

module _ (piece : List ℕ → ℕ) where
  covered_unseen : (k : ℕ) (bs : List ℕ) → k ≤ length bs → covered piece k bs ≡ k + run piece (drop k bs)
  unfolding covered
  covered_unseen zero bs h = sym (zero-add _)
  covered_unseen (suc k) [] h = omega arith
  covered_unseen (suc k) (b ∷ bs) h = let e = covered_unseen k bs (omega arith) in omega arith

  pub run_step : (n : ℕ) (bs : List ℕ) → piece bs ≡ n → n ≤ length bs → run piece bs ≡ n + run piece (drop n bs)
  unfolding covered
  run_step zero bs e h = sym (zero-add _)
  run_step (suc n) [] e h = omega arith
  run_step (suc n) (b ∷ bs) e h = rw (e, covered) (let u = covered_unseen n bs (omega arith) in omega arith)

  pub run_stop : (bs : List ℕ) → piece bs ≡ 0 → run piece bs ≡ 0
  unfolding covered
  run_stop [] e = refl
  run_stop (b ∷ bs) e = rw (e, covered)

  covered_in : (k : ℕ) (bs : List ℕ) → covered piece k bs ≤ length bs
  unfolding covered
  covered_in k [] = omega arith
  covered_in (suc k) (b ∷ bs) = let h = covered_in k bs in omega arith
  covered_in zero (b ∷ bs) = go (piece (b ∷ bs)) (λ k. covered_in k bs)
    where
      go : (n : ℕ) → ((k : ℕ) → covered piece k bs ≤ length bs) → (elim n [ zero ↦ 0 | suc m ↦ suc (covered piece m bs) ]) ≤ suc (length bs)
      go zero h = omega arith
      go (suc m) h = omega (arith, h m)

  pub run_in : (bs : List ℕ) → run piece bs ≤ length bs
  run_in bs = covered_in 0 bs

  -- the loop's invariant: the run from i on ends where the whole run does
  abbrev pub Runs : List ℕ → ℕ → Type 0
  Runs s i = (i ≤ length s) × (i + run piece (drop i s) ≡ run piece s)

  module _ (s : List ℕ) where
    pub start : Runs s 0
    start = (omega arith, zero-add _)

    pub turn : (i n : ℕ) → Runs s i → n ≡ piece (drop i s) → n ≤ length (drop i s) → Runs s (i + n)
    turn i n r e h =
        let u = run_step n (drop i s) (sym e) h in
        (omega (arith, length-drop i s), rw (← drop-drop) (omega arith))

    pub stop : (i : ℕ) → Runs s i → 0 ≡ piece (drop i s) → i ≡ run piece s
    stop i r e = let u = run_stop (drop i s) (sym e) in omega arith

    pub done : (i : ℕ) → Runs s i → length s ≤ i → i ≡ run piece s
    unfolding covered
    done i r h = let u : run piece (drop i s) ≡ 0 = rw (drop_of_length-le s h) in omega arith
