-- What one pass over the class's own attributes finds says of each index what its rule asks. Assumes nothing.
use Rattle.std.specs.Prelude.{Option, None, Some}
use mathlib.Core.Path.{◌≡◌, refl, ap, sym, ◌∙◌}
use mathlib.Core.Bool.{Bool, true, false, not, ◌&&◌, ◌||◌, cond, and-true, and_assoc}
use mathlib.Core.List.{List, [], ◌∷◌}
use Prim.Native.Nat.{ℕ, ◌+◌, ◌-◌, ◌≤◌, min}
use native.Mathlib.Omega.{arith}
use native.Mathlib.Nat.{le-min, min-le_left, min-le_right, sub-zero}
use lib.ListN.{length}
use lib.Dec.{ltb}
use borrow.Author.Tests.{lt-ltb, le-ltb, ltb-true, ltb-false}
use Rattle.reads.specs.Answer.{each}
use Rattle.reads.specs.Bytes.{num2}
use Rattle.pool.specs.Pool.{Pool, slots}
use Rattle.slot.specs.Slots.{field}
use Rattle.bootstrap.specs.declared.Found.{Found}
use Rattle.bootstrap.specs.Bootstrap.{is_bootstrap}
use Rattle.bootstrap.specs.Indices.{bootstraps, below_each, bootstrap_index, bootstrap_indices, none, lesser, joined, gathered, below, judged}

-- ---- the loop

module _ (p : Pool) (f : Found) where
  pub gather_go : (titles bodies names starts : List ℕ) (m b : ℕ) (g : Found) → titles ≡ m ∷ names → bodies ≡ b ∷ starts → g ≡ joined p f m b → gathered p names starts g ≡ gathered p titles bodies f
  unfolding gathered
  gather_go titles bodies names starts m b g h k l = rw (h, k, l)

  pub no_name : (titles bodies : List ℕ) → length titles ≡ 0 → f ≡ gathered p titles bodies f
  unfolding gathered
  no_name [] bodies h = refl
  no_name (m ∷ titles) bodies h = absurd (omega (arith, h))

  pub no_body : (titles bodies : List ℕ) → length bodies ≡ 0 → f ≡ gathered p titles bodies f
  unfolding gathered
  no_body [] bodies h = refl
  no_body (m ∷ titles) [] h = refl
  no_body (m ∷ titles) (b ∷ bodies) h = absurd (omega (arith, h))

-- one attribute more is at most one BootstrapMethods more
pub joined_one : (p : Pool) (f : Found) (m b : ℕ) → (joined p f m b).count ≤ f.count + 1
unfolding joined
joined_one p f m b = at (is_bootstrap p m)
  where
    at : (t : Bool) → (cond t (record { count = f.count + 1; least = Some (lesser f.least (num2 p.file b)) }) f).count ≤ f.count + 1
    at true = omega arith
    at false = omega arith

-- ---- what is found

ltb_min : (i a b : ℕ) → ltb i (min a b) ≡ (ltb i a && ltb i b)
ltb_min i a b = at (ltb i a) (ltb i b) refl refl
  where
    at : (x y : Bool) → ltb i a ≡ x → ltb i b ≡ y → ltb i (min a b) ≡ (x && y)
    at true true h k = lt-ltb i (min a b) (le-min (ltb-true i a h) (ltb-true i b k))
    at true false h k = le-ltb i (min a b) (omega (arith, ltb-false i b k, min-le_right a b))
    at false y h k = le-ltb i (min a b) (omega (arith, ltb-false i a h, min-le_left a b))

below_lesser : (i n : ℕ) (m : Option ℕ) → below i (Some (lesser m n)) ≡ (below i m && ltb i n)
below_lesser i n None = refl
below_lesser i n (Some m) = ltb_min i m n

module _ (p : Pool) where
  joined_count : (f : Found) (m b : ℕ) → (joined p f m b).count ≡ f.count + cond (is_bootstrap p m) 1 0
  unfolding joined
  joined_count f m b = at (is_bootstrap p m)
    where
      at : (t : Bool) → (cond t (record { count = f.count + 1; least = Some (lesser f.least (num2 p.file b)) }) f).count ≡ f.count + cond t 1 0
      at true = refl
      at false = omega arith

  joined_least : (i : ℕ) (f : Found) (m b : ℕ) → below i (joined p f m b).least ≡ (below i f.least && (not (is_bootstrap p m) || ltb i (num2 p.file b)))
  unfolding joined
  joined_least i f m b = at (is_bootstrap p m) (below i f.least) refl
    where
      at : (t s : Bool) → below i f.least ≡ s → below i (cond t (record { count = f.count + 1; least = Some (lesser f.least (num2 p.file b)) }) f).least ≡ (s && (not t || ltb i (num2 p.file b)))
      at true s e = below_lesser i (num2 p.file b) f.least ∙ rw e
      at false true e = e
      at false false e = e

  pub gathered_count : (titles bodies : List ℕ) (f : Found) → (gathered p titles bodies f).count ≡ f.count + bootstraps p titles bodies
  unfolding gathered bootstraps
  gathered_count [] bodies f = omega arith
  gathered_count (m ∷ titles) [] f = omega arith
  gathered_count (m ∷ titles) (b ∷ bodies) f = omega (arith, gathered_count titles bodies (joined p f m b), joined_count f m b)

  pub gathered_least : (i : ℕ) (titles bodies : List ℕ) (f : Found) → below i (gathered p titles bodies f).least ≡ (below i f.least && below_each p i titles bodies)
  unfolding gathered below_each
  gathered_least i [] bodies f = sym (and-true (below i f.least))
  gathered_least i (m ∷ titles) [] f = sym (and-true (below i f.least))
  gathered_least i (m ∷ titles) (b ∷ bodies) f =
      gathered_least i titles bodies (joined p f m b)
      ∙ ap (λ (t : Bool). t && below_each p i titles bodies) (joined_least i f m b)
      ∙ and_assoc (below i f.least) _ (below_each p i titles bodies)

-- ---- each slot

module _ (p : Pool) (titles bodies : List ℕ) where
  judged_alike : (n : ℕ) → judged p (gathered p titles bodies none) n ≡ bootstrap_index p titles bodies n
  unfolding judged bootstrap_index
  judged_alike n =
      let c : (gathered p titles bodies none).count ≡ bootstraps p titles bodies = omega (arith, gathered_count p titles bodies none) in
      let l : below (field p n 1) (gathered p titles bodies none).least ≡ below_each p (field p n 1) titles bodies = gathered_least p (field p n 1) titles bodies none in
      rw (c, l)

  -- all slots, from what was found
  pub begin : (found : Found) (end : ℕ) → found ≡ gathered p titles bodies none → end ≡ slots p → each (end - 0) 0 (judged p found) ≡ bootstrap_indices p titles bodies
  unfolding bootstrap_indices
  begin found end e l = rw (sub-zero, e, l) (ap (each (slots p) 0) (λ i n. judged_alike n i))
