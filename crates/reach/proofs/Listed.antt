-- The list of dependants holds exactly the slots that reach the one asked for. Assumes nothing.
use Prim.Native.Nat.{ℕ, zero, suc, ◌≤◌, ◌<◌}
use native.Mathlib.Omega.{arith}
use mathlib.Core.Path.{◌≡◌, refl}
use mathlib.Core.List.Memᴰ
use mathlib.Core.List.{List, [], ◌∷◌}
use mathlib.Core.Bool.{Bool, false≢true, true, false, not, ◌||◌}
use mathlib.Core.Logic.{◌↔◌, ⊎_elim}
use lib.Dec.{eqb, ltb}
use borrow.Author.Tests.{eqb-true, eq-eqb, ne_eqb, ltb-true}
use Rattle.reads.specs.Answer.{fine, each}
use Rattle.reads.proofs.Answers.{first, held, required, each_at}
use Rattle.pool.specs.Rows.{one, row_of}
use Rattle.pool.specs.Pool.{Pool, slots}
use Rattle.slot.specs.Slots.{tag_of, field}
use Rattle.checks.specs.Checks.{reference, references, checked}
use Rattle.reach.specs.Reach.{◌∈◌, refers_to, Refers, Reach, direct, along, any_of, reaches, dependants_in, needs_in}
use Rattle.checks.proofs.Ranks.{rank, rank≤3, not_none}
use Rattle.reach.proofs.Chains.{of_both, refers_in, leads_low, falls}
use Rattle.reach.proofs.Sieve.{sieve_out, sieve_in, Rising, sieve_rising}

-- ---- tests

or_left : (b c : Bool) → b ≡ true → b || c ≡ true
or_left b c e = rw e refl

or_right : (b c : Bool) → c ≡ true → b || c ≡ true
or_right true c e = refl
or_right false c e = e

or_cases : {P : Type 0} (b c : Bool) → b || c ≡ true → (b ≡ true → P) → (c ≡ true → P) → P
or_cases true c e f g = f refl
or_cases false c e f g = g e

any_in : (test : ℕ → Bool) (xs : List ℕ) (x : ℕ) → x ∈ xs → test x ≡ true → any_of test xs ≡ true
unfolding any_of
any_in test [] x m t = absurd (Memᴰ.not-nil m)
any_in test (y ∷ ys) x m t =
    ⊎_elim (λ z. or_left (test y) (any_of test ys) (rw z at t)) (λ l. or_right (test y) (any_of test ys) (any_in test ys x l t)) (Memᴰ.cases_cons m)

any_out : (test : ℕ → Bool) (xs : List ℕ) → any_of test xs ≡ true → (x : ℕ) × (x ∈ xs) × (test x ≡ true)
unfolding any_of
any_out test [] e = absurd (false≢true e)
any_out test (y ∷ ys) e =
    or_cases (test y) (any_of test ys) e
    (λ q. (y, Memᴰ.head refl, q))
    (λ q. let r = any_out test ys q in (r.0, Memᴰ.tail r.1, r.2))

-- ---- the test is the relation

module _ (p : Pool) where
  -- one reference on, and there or further
  goes_on : (k a b c : ℕ) → Refers p a b → eqb b c || reaches k p b c ≡ true → reaches (suc k) p a c ≡ true
  unfolding reaches
  goes_on k a b c m t = any_in (λ x. eqb x c || reaches k p x c) (refers_to p a) b m t

  went_on : (k a c : ℕ) → reaches (suc k) p a c ≡ true → (b : ℕ) × (Refers p a b) × (eqb b c || reaches k p b c ≡ true)
  unfolding reaches
  went_on k a c e = any_out (λ x. eqb x c || reaches k p x c) (refers_to p a) e

  nowhere : (a b : ℕ) → reaches 0 p a b ≡ true → ⊥
  unfolding reaches
  nowhere a b e = false≢true e

  reached : (k a b : ℕ) → reaches k p a b ≡ true → Reach p a b
  reached zero a b e = absurd (nowhere a b e)
  reached (suc k) a b e =
      let r = went_on k a b e in
      or_cases (eqb r.0 b) (reaches k p r.0 b) r.2
      (λ q. let z = eqb-true r.0 b q in direct (rw z at r.1))
      (λ q. along r.1 (reached k r.0 b q))

  further : (k j : ℕ) → k ≤ j → (a b : ℕ) → reaches k p a b ≡ true → reaches j p a b ≡ true
  further zero j h a b e = absurd (nowhere a b e)
  further (suc k) zero h a b e = absurd (omega arith)
  further (suc k) (suc j) h a b e =
      let r = went_on k a b e in
      goes_on j a r.0 b r.1
      (or_cases (eqb r.0 b) (reaches k p r.0 b) r.2
      (λ q. or_left (eqb r.0 b) (reaches j p r.0 b) q)
      (λ q. or_right (eqb r.0 b) (reaches j p r.0 b) (further k j (omega arith) r.0 b q)))

module _ (p : Pool) (ok : fine ≡ checked p) where
  ranked : {a b : ℕ} → Reach p a b → reaches (rank (tag_of p a)) p a b ≡ true
  ranked (direct {a = a} {b = b} m) =
      further p 1 (rank (tag_of p a)) (omega (arith, falls p ok a b m)) a b (goes_on p 0 a b b m (or_left (eqb b b) (reaches 0 p b b) (eq-eqb b b refl)))
  ranked (along {a = a} {b = b} {c = c} m r) =
      further p (suc (rank (tag_of p b))) (rank (tag_of p a)) (falls p ok a b m) a c
      (goes_on p (rank (tag_of p b)) a b c m (or_right (eqb b c) (reaches (rank (tag_of p b)) p b c) (ranked r)))

  -- along at most three references is along any number of them
  pub reach_iff : (a b : ℕ) → (reaches 3 p a b ≡ true) ↔ Reach p a b
  reach_iff a b = (reached p 3 a b, λ r. further p (rank (tag_of p a)) 3 (rank≤3 (tag_of p a)) a b (ranked r))

  from_in : {a b : ℕ} → Reach p a b → a < slots p
  from_in (direct {a = a} {b = b} m) = refers_in p a b m
  from_in (along {a = a} {b = b} m r) = refers_in p a b m

  -- slot a stands in the list of slot b's dependants exactly where it reaches b
  pub dependants_are : (a b : ℕ) → (a ∈ dependants_in p b) ↔ Reach p a b
  unfolding dependants_in
  dependants_are a b = (
    λ m. (reach_iff a b).0 (sieve_out (λ x. reaches 3 p x b) (slots p) a m).1,
    λ r. sieve_in (λ x. reaches 3 p x b) (slots p) a (from_in r) ((reach_iff a b).1 r),
  )

  -- what is reached is an entry of lower rank
  reached_low : {a b : ℕ} → Reach p a b → (rank (tag_of p b) < rank (tag_of p a)) × (tag_of p b ≡ 0 → ⊥)
  reached_low (direct {a = a} {b = b} m) = (falls p ok a b m, not_none _ _ (leads_low p ok a b m))
  reached_low (along {a = a} {b = b} m r) = let h = reached_low r in (omega (arith, h.0, falls p ok a b m), h.1)

  -- no slot is among its own dependants
  pub not_itself : (b : ℕ) → b ∈ dependants_in p b → ⊥
  not_itself b m = omega (arith, (reached_low ((dependants_are b b).0 m)).0)

  -- what is no entry has none: Zero, Unused, and what is no slot
  pub none_of_no_entry : (b : ℕ) → tag_of p b ≡ 0 → dependants_in p b ≡ []
  none_of_no_entry b z = empty (dependants_in p b) (λ a m. (reached_low ((dependants_are a b).0 m)).1 z)
    where
      empty : (xs : List ℕ) → ((a : ℕ) → a ∈ xs → ⊥) → xs ≡ []
      empty [] h = refl
      empty (x ∷ xs) h = absurd (h x (Memᴰ.head refl))

-- every slot listed is one of the pool's
pub listed_slot : (p : Pool) (a b : ℕ) → a ∈ dependants_in p b → a < slots p
unfolding dependants_in
listed_slot p a b m = (sieve_out (λ x. reaches 3 p x b) (slots p) a m).0

-- the list rises, so each slot stands in it once
pub dependants_rise : (p : Pool) (b : ℕ) → Rising (dependants_in p b)
unfolding dependants_in
dependants_rise p b = sieve_rising (λ x. reaches 3 p x b) (slots p)

-- ---- needs, the other way round

module _ (p : Pool) (ok : fine ≡ checked p) where
  -- a reference that was checked leads to a slot
  in_range : (n k : ℕ) → fine ≡ reference p n k → (k ≡ 0 → ⊥) → field p n k < slots p
  unfolding reference
  in_range n k e h =
      let r = held (not (eqb (field p n k) n)) 6 n _ tt (rw (ne_eqb k 0 h) at e) in
      ltb-true (field p n k) (slots p) (required (ltb (field p n k) (slots p)) 7 n r.1)

  to_slot : (a b : ℕ) → Refers p a b → b < slots p
  unfolding checked references
  to_slot a b m =
      let h = refers_in p a b m in
      let e = each_at (slots p) 0 (λ n. references p n) (first (each (slots p) 0 (λ n. references p n)) _ tt ok).1 a (omega arith) (omega arith) in
      let r = first (reference p a (one (row_of (tag_of p a)))) _ tt e in
      of_both p a (λ x. x < slots p) (in_range a _ r.1) (in_range a _ r.2) b m

  to_in : {a b : ℕ} → Reach p a b → b < slots p
  to_in (direct {a = a} {b = b} m) = to_slot a b m
  to_in (along m r) = to_in r

  pub needs_are : (a b : ℕ) → (b ∈ needs_in p a) ↔ Reach p a b
  unfolding needs_in
  needs_are a b = (
    λ m. (reach_iff p ok a b).0 (sieve_out (λ x. reaches 3 p a x) (slots p) b m).1,
    λ r. sieve_in (λ x. reaches 3 p a x) (slots p) b (to_in r) ((reach_iff p ok a b).1 r),
  )

  -- slot a is among the needs of b exactly where b is among the dependants of a
  pub mirror : (a b : ℕ) → (a ∈ needs_in p b) ↔ (b ∈ dependants_in p a)
  mirror a b = (λ m. (dependants_are p ok b a).1 ((needs_are b a).0 m), λ m. (needs_are b a).1 ((dependants_are p ok b a).0 m))
