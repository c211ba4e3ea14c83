-- The dependants of a slot are no more than there are slots: a list of so many cells is as good as a longer one. Assumes nothing.
use mathlib.Core.Path.{◌≡◌, refl, ap, sym, ◌∙◌}
use mathlib.Core.Bool.{Bool, true, false, cond}
use mathlib.Core.List.{List, [], ◌∷◌}
use Prim.Native.Nat.{ℕ, zero, suc, ◌/◌, ◌≤◌, min}
use native.Mathlib.Omega.{arith}
use lib.ListN.{length, take, replicate, length-append}
use lib.Dec.{leb, ltb}
use borrow.Author.Tests.{leb-true, leb-false, le-leb, lt-leb}
use Rattle.reads.specs.Answer.{Answer, accept, refuse, ◌>>=◌, mapped}
use Rattle.reads.specs.Tables.{after}
use Rattle.reads.proofs.Answers.{same, first, held, alike}
use Rattle.reads.proofs.Leaves.{Bytes}
use Rattle.pool.specs.Pool.{Pool, Whole, read_pool, slots}
use Rattle.pool.proofs.Slots.{slots_fit}
use Rattle.handed.specs.Handed.{judged, no_limit, handed, lookup}
use Rattle.reach.specs.Reach.{reaches, sieve, dependants_in}
use Rattle.dependants.specs.Dependants.{dependants_at, dependants}
use Rattle.cells.specs.Cells.{as_bytes}
use Rattle.cells.proofs.Cells.{all_zero, handed_back}
use Rattle.byte_tables.specs.Enough.{enough_for}
use Rattle.byte_tables.proofs.Rooms.{read_same, enough_few}

sieve_few : (test : ℕ → Bool) (k : ℕ) → length (sieve test k) ≤ k
unfolding sieve
sieve_few test zero = omega arith
sieve_few test (suc k) =
    let h = sieve_few test k in
    let l = length-append (sieve test k) (cond (test k) (k ∷ []) []) in
    omega (arith, one (test k))
  where
    one : (t : Bool) → length (cond t (k ∷ []) []) ≤ 1
    one true = omega arith
    one false = omega arith

few : (p : Pool) (n : ℕ) → length (dependants_in p n) ≤ slots p
unfolding dependants_in
few p n = sieve_few (λ a. reaches 3 p a n) (slots p)

module _ (p : Pool) (n room most k : ℕ) (fits : slots p ≤ most) (e : k ≡ min room most) where
  same_test : leb (length (dependants_in p n)) k ≡ leb (length (dependants_in p n)) room
  same_test = by_room (leb (length (dependants_in p n)) room) refl
    where
      by_room : (t : Bool) → leb (length (dependants_in p n)) room ≡ t → leb (length (dependants_in p n)) k ≡ t
      by_room true h =
          let g = leb-true (length (dependants_in p n)) room h in
          let f = few p n in
          le-leb (length (dependants_in p n)) k (omega arith)
      by_room false h =
          let g = leb-false (length (dependants_in p n)) room h in
          lt-leb (length (dependants_in p n)) k (omega arith)

  same_answer : dependants_at n k p ≡ dependants_at n room p
  unfolding dependants_at
  same_answer = rw same_test refl

module _ (s : List ℕ) (b : Bytes s) (most : ℕ) (above : enough_for s ≤ most) (table : List ℕ) where
  few_slots : (w : Whole) → accept w ≡ handed s table → slots w.pool ≤ most
  unfolding handed
  few_slots w e =
      let r = first (read_pool s no_limit) _ w e in
      let j = first (judged r.0.pool table) _ w r.2 in
      let q : r.0 ≡ w = sym (same j.2) in
      rw (← q) (slots_fit s most r.0 (r.1 ∙ sym (read_same s b most no_limit above (enough_few s b))))

  module _ (n room k : ℕ) (e : k ≡ min room most) where
    -- the dependants in cells that stand for the table, with as much room as is used
    pub same_list : (cells made : List ℕ) → cells ≡ made → handed s made ≡ handed s table → dependants s cells n k ≡ dependants s table n room
    unfolding lookup
    same_list cells made c h = ap (λ (y : Answer Whole). y >>= λ w. dependants_at n k w.pool) (ap (handed s) c ∙ h) ∙ alike (handed s table) _ _ (λ w q. same_answer w.pool n room most k (few_slots w q) e)

-- no list is longer than 65,536
pub few_listed : (s table : List ℕ) (n room : ℕ) (xs : List ℕ) → accept xs ≡ dependants s table n room → length xs ≤ no_limit
unfolding lookup handed dependants_at
few_listed s table n room xs e =
    let w = first (handed s table) _ xs e in
    let r = first (read_pool s no_limit) _ w.0 w.1 in
    let j = first (judged r.0.pool table) _ w.0 r.2 in
    let q = ap (λ (x : Whole). slots x.pool) (same j.2) in
    let i = held (ltb n (slots w.0.pool)) 7 n _ xs w.2 in
    let m = held (leb (length (dependants_in w.0.pool n)) room) 13 (length (dependants_in w.0.pool n)) _ xs i.1 in
    let l = ap length (same m.1) in
    omega (arith, few w.0.pool n, slots_fit s no_limit r.0 r.1)

-- a table that is refused
pub no_list : (s table : List ℕ) (n room nr place : ℕ) → refuse nr place ≡ handed s table → refuse nr place ≡ dependants s table n room
unfolding lookup
no_list s table n room nr place e = rw (← e) refl

-- what a refusal answers and leaves
pub refuses : (len nr place : ℕ) (t : List ℕ) (y : Answer (List ℕ)) → refuse nr place ≡ y → t ≡ replicate len 0 → (refuse nr place ≡ mapped length y) × (t ≡ as_bytes len (after 0 (λ xs. xs) (len / 4) y))
refuses len nr place t y e z = rw (← e) (refl, z ∙ all_zero len)

-- and a list of k slots
module _ (len k : ℕ) (few_cells : k ≤ len / 4) (x : Answer ℕ) (t l : List ℕ) (y z : Answer (List ℕ)) (e : y ≡ z) where
  pub lists : x ≡ mapped length y → t ≡ as_bytes len (take (len / 4) l) → length l ≡ k → l ≡ after 0 (λ xs. xs) k y
      → (x ≡ mapped length z) × (t ≡ as_bytes len (after 0 (λ xs. xs) (len / 4) z))
  lists a b c d = (a ∙ ap (mapped length) e, b ∙ handed_back len (λ (xs : List ℕ). xs) k few_cells l z c (d ∙ ap (after 0 (λ (xs : List ℕ). xs) k) e))
