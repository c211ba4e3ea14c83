-- The numbers below a bound that pass a test: which they are, and that they rise. Assumes nothing.
use Prim.Native.Nat.{ℕ, zero, suc, ◌+◌, ◌<◌}
use native.Mathlib.Omega.{arith}
use mathlib.Core.Path.{◌≡◌, refl}
use mathlib.Core.List.Memᴰ
use mathlib.Core.List.{List, [], ◌∷◌, ◌++◌, append-nil}
use mathlib.Core.Bool.{Bool, true, false, cond}
use mathlib.Core.Logic.{⊎_elim}
use native.Mathlib.Numerals.{add-one}
use lib.ListN.{length, get_or, length-append, get_or-append}
use lib.Seq.{get_or-append_seam}
use lib.Dec.{eqb, ltb}
use borrow.Author.Tests.{eqb-true, eqb-false, ltb-true, ltb-false}
use Rattle.reach.specs.Reach.{◌∈◌, sieve}

module _ (test : ℕ → Bool) where
  -- one number more
  pub sieve_more : (k : ℕ) → sieve test (k + 1) ≡ sieve test k ++ cond (test k) (k ∷ []) []
  unfolding sieve
  sieve_more k = rw add-one refl

  pub sieve_out : (k n : ℕ) → n ∈ sieve test k → (n < k) × (test n ≡ true)
  unfolding sieve
  sieve_out zero n m = absurd (Memᴰ.not-nil m)
  sieve_out (suc k) n m = ⊎_elim (λ l. earlier (sieve_out k n l)) (last (test k) refl) (Memᴰ.append_cases (sieve test k) m)
    where
      earlier : (n < k) × (test n ≡ true) → (n < suc k) × (test n ≡ true)
      earlier r = let h = r.0 in (omega arith, r.1)

      last : (b : Bool) → test k ≡ b → n ∈ cond b (k ∷ []) [] → (n < suc k) × (test n ≡ true)
      last true q m = let z = Memᴰ.eq_of_singleton m in (omega arith, rw z q)
      last false q m = absurd (Memᴰ.not-nil m)

  pub sieve_in : (k n : ℕ) → n < k → test n ≡ true → n ∈ sieve test k
  unfolding sieve
  sieve_in zero n h t = absurd (omega arith)
  sieve_in (suc k) n h t = go (eqb n k) refl (λ l. sieve_in k n l t)
    where
      go : (b : Bool) → eqb n k ≡ b → (n < k → n ∈ sieve test k) → n ∈ sieve test k ++ cond (test k) (k ∷ []) []
      go true q below =
          let z = eqb-true n k q in
          let e : test k ≡ true = rw z at t in
          Memᴰ.append_right (sieve test k) (rw e (Memᴰ.head z))
      go false q below = let d = eqb-false n k q in Memᴰ.append_left _ (below (omega arith))

-- ---- rising: each number is larger than those before it, so each stands there once

abbrev pub Rising : List ℕ → Type 0
Rising xs = (i j : ℕ) → i < j → j < length xs → get_or xs i 0 < get_or xs j 0

-- what stands at a place stands in the list
pub at_place : (xs : List ℕ) (i : ℕ) → i < length xs → get_or xs i 0 ∈ xs
at_place [] i h = absurd (omega arith)
at_place (x ∷ xs) zero h = Memᴰ.head refl
at_place (x ∷ xs) (suc i) h = Memᴰ.tail (at_place xs i (omega arith))

-- a larger number at the end
rising_more : (xs : List ℕ) (k : ℕ) → Rising xs → ((n : ℕ) → n ∈ xs → n < k) → Rising (xs ++ k ∷ [])
rising_more xs k r below i j h l = go (ltb j (length xs)) refl
  where
    go : (b : Bool) → ltb j (length xs) ≡ b → get_or (xs ++ k ∷ []) i 0 < get_or (xs ++ k ∷ []) j 0
    go true q =
        let m = ltb-true j (length xs) q in
        let n : i < length xs = omega arith in
        rw (get_or-append xs (k ∷ []) 0 i n, get_or-append xs (k ∷ []) 0 j m) (r i j h m)
    go false q =
        let m = ltb-false j (length xs) q in
        let z : j ≡ length xs = omega (arith, length-append xs (k ∷ [])) in
        let n : i < length xs = omega arith in
        rw (z, get_or-append_seam xs k [] 0, get_or-append xs (k ∷ []) 0 i n) (below _ (at_place xs i n))

module _ (test : ℕ → Bool) where
  pub sieve_rising : (k : ℕ) → Rising (sieve test k)
  unfolding sieve
  sieve_rising zero = λ i j h l. absurd (omega arith)
  sieve_rising (suc k) = go (test k) (sieve_rising k)
    where
      go : (b : Bool) → Rising (sieve test k) → Rising (sieve test k ++ cond b (k ∷ []) [])
      go true r = rising_more (sieve test k) k r (λ n m. (sieve_out test k n m).0)
      go false r = rw append-nil r

-- no number stands twice in a rising list
pub rising_once : (xs : List ℕ) → Rising xs → (i j : ℕ) → i < length xs → j < length xs → get_or xs i 0 ≡ get_or xs j 0 → i ≡ j
rising_once xs r i j h l e = go (ltb i j) refl (ltb j i) refl
  where
    go : (b : Bool) → ltb i j ≡ b → (c : Bool) → ltb j i ≡ c → i ≡ j
    go true q c s = absurd (omega (arith, r i j (ltb-true i j q) l))
    go false q true s = absurd (omega (arith, r j i (ltb-true j i s) h))
    go false q false s = let a = ltb-false i j q in let b = ltb-false j i s in omega arith
