-- The list that is stored: the loop over the slots, and its end made zero. Assumes nothing.
use Prim.Native.Nat.{ℕ, ◌+◌, ◌-◌, ◌≤◌, ◌<◌}
use native.Mathlib.Omega.{arith}
use native.Mathlib.Numerals.{add-one}
use mathlib.Core.Path.{◌≡◌, refl, sym, ◌∙◌, ap}
use mathlib.Core.List.{List, [], ◌∷◌, ◌++◌, append-nil}
use mathlib.Core.Bool.{true, false}
use lib.ListN.{length, set, take, drop, replicate, length-set, length-append, length-drop, length-take, drop_of_length-le}
use lib.Seq.{take-suc-set, take_all, length-take-le}
use borrow.Rule.Slice.PartMut.{put_mid, mid_of}
use Rattle.reads.specs.Tables.{padded}
use Rattle.pool.specs.Pool.{Pool, slots}
use Rattle.reach.specs.Reach.{reaches, sieve, dependants_in}
use Rattle.reach.proofs.Sieve.{sieve_more}

module _ (p : Pool) (b room : ℕ) where
  abbrev found : ℕ → List ℕ
  found = sieve (λ a. reaches 3 p a b)

  -- those below n are counted, and stored where the list has room for them
  pub record Sofar (list : List ℕ) (n count : ℕ) : Type 0 where
    pub few : count ≤ n
    pub number : count ≡ length (found n)
    pub long : length list ≡ room
    pub holds : count ≤ room → take count list ≡ found n

  pub begin : (list : List ℕ) → length list ≡ room → Sofar list 0 0
  unfolding sieve
  begin list l = record { few = omega arith; number = refl; long = l; holds = λ _. refl }

  module _ (list : List ℕ) (n count : ℕ) (v : Sofar list n count) where
    pub hit : true ≡ reaches 3 p n b → Sofar (set list count n) (n + 1) (count + 1)
    hit e =
        let w = v.few in
        let l = v.long in
        let s : found (n + 1) ≡ found n ++ n ∷ [] = sieve_more _ n ∙ rw (← e) refl in
        record {
          few = omega arith;
          number = omega (arith, ap length s, length-append (found n) (n ∷ []), v.number);
          long = simp length-set l;
          holds = λ h. rw (add-one count, s, take-suc-set list count n (omega arith), v.holds (omega arith)) refl;
        }

    pub miss : false ≡ reaches 3 p n b → Sofar list (n + 1) count
    miss e =
        let w = v.few in
        let s : found (n + 1) ≡ found n = sieve_more _ n ∙ rw (← e) (append-nil (found n)) in
        record { few = omega arith; number = rw s v.number; long = v.long; holds = λ h. rw s (v.holds h) }

    pub done : n ≡ slots p → (count ≡ length (dependants_in p b)) × (count ≤ room → take count list ≡ dependants_in p b)
    unfolding dependants_in
    done e = rw (← e) (v.number, v.holds)

-- no more slots than were said
pub no_more : (n : ℕ) (l : List ℕ) → length (take n l) ≤ n
no_more n l = simp length-take (omega arith)

-- ---- zeros from a place on

module _ (l : List ℕ) (from : ℕ) where
  -- the part from there on was lent, and came back as ys
  pub zeros : (ys : List ℕ) → from < length l → ys ≡ replicate (length (mid_of from (length l - from) l)) 0 → put_mid from (length l - from) l ys ≡ padded 0 (length l) (take from l)
  unfolding padded
  zeros ys h e =
      let k : length (take from l) ≡ from = length-take-le from l (omega arith) in
      let m : length (drop from l) ≤ length l - from = omega (arith, length-drop from l) in
      simp (e, k, take_all (length l - from) (drop from l) m, drop_of_length-le (drop from l) m, append-nil, length-drop)

  pub no_zeros : length l ≤ from → l ≡ padded 0 (length l) (take from l)
  unfolding padded
  no_zeros h =
      let z : length l - length l ≡ 0 = omega arith in
      rw (take_all from l h, z) (sym (append-nil l))
