-- Demand 3, of the call itself: what it lists, when it refuses with 13, and with which number. Assumes nothing.
use Prim.Native.Nat.{ℕ, ◌≤◌, ◌<◌}
use native.Mathlib.Omega.{arith}
use mathlib.Core.Path.{◌≡◌, refl, sym, ◌∙◌, ap}
use mathlib.Core.List.{List, []}
use mathlib.Core.Bool.{Bool, true, false}
use mathlib.Core.Logic.{◌↔◌}
use lib.ListN.{length}
use lib.Dec.{leb, ltb}
use borrow.Author.Tests.{lt-ltb, le-ltb, ltb-true, leb-true, leb-false, lt-leb, le-leb}
use Rattle.reads.specs.Answer.{Answer, fine, accept, refuse, ◌>>=◌, require}
use Rattle.reads.proofs.Answers.{never, same, first, held}
use Rattle.pool.specs.Pool.{Pool, Whole, slots}
use Rattle.slot.specs.Slots.{cell}
use Rattle.checks.specs.Checks.{checked}
use Rattle.handed.specs.Handed.{no_limit, handed, lookup}
use Rattle.reach.specs.Reach.{◌∈◌, Reach, Chain, dependants_in}
use Rattle.reach.proofs.Sieve.{Rising}
use Rattle.reach.proofs.Chains.{at_most_three}
use Rattle.reach.proofs.Listed.{dependants_are, dependants_rise, listed_slot, not_itself}
use Rattle.reach.proofs.Zero.{none_of_cell_0, zero_is_slot}
use Rattle.dependants.specs.Dependants.{dependants_at, dependants}
use Rattle.dependants.proofs.Edge.{handed_is}

abbrev place_of : Answer (List ℕ) → ℕ
place_of (accept xs) = 0
place_of (refuse nr place) = place

-- a table that is accepted, and its pool
module _ (s table : List ℕ) (w : Whole) (e : accept w ≡ handed s table) (n room : ℕ) where
  abbrev all : List ℕ
  all = dependants_in w.pool n

  looked : dependants s table n room ≡ dependants_at n room w.pool
  unfolding lookup
  looked = rw (← e) refl

  -- 7 where the slot asked for is no slot, with that slot as the place
  pub refused_7 : slots w.pool ≤ n → dependants s table n room ≡ refuse 7 n
  unfolding dependants_at
  refused_7 h = looked ∙ rw (le-ltb n (slots w.pool) h) refl

  module _ (h : n < slots w.pool) where
    only_room : dependants s table n room ≡ (require (leb (length all) room) 13 (length all) >>= λ _. accept all)
    unfolding dependants_at
    only_room = looked ∙ rw (lt-ltb n (slots w.pool) h) refl

    -- 13 exactly where the list is longer than the cells lent, with its length as the place
    pub refused_13 : (place : ℕ) → (dependants s table n room ≡ refuse 13 place) ↔ ((room < length all) × (place ≡ length all))
    refused_13 place = (λ d. go (leb (length all) room) refl (sym only_room ∙ d), λ r. only_room ∙ rw (lt-leb (length all) room r.0, r.1) refl)
      where
        go : (b : Bool) → leb (length all) room ≡ b → (require b 13 (length all) >>= λ _. accept all) ≡ refuse 13 place → (room < length all) × (place ≡ length all)
        go true q d = absurd (never d)
        go false q d = (leb-false (length all) room q, sym (ap place_of d))

    -- accepted otherwise, and the list is all of them
    pub accepted : length all ≤ room → dependants s table n room ≡ accept all
    accepted l = only_room ∙ rw (le-leb (length all) room l) refl

    -- a slot without an entry, as the Unused after a wide one, has none, whatever is lent
    pub none_of_unused : cell w.pool n ≡ 0 → dependants s table n room ≡ accept []
    none_of_unused z =
        let q : all ≡ [] = none_of_cell_0 w.pool (handed_is s table w e).1 n z in
        only_room ∙ rw (q, le-leb 0 room (omega arith)) refl

-- ... and so has slot 0
pub none_of_zero : (s table : List ℕ) (w : Whole) → accept w ≡ handed s table → (room : ℕ) → dependants s table 0 room ≡ accept []
none_of_zero s table w e room = let z = zero_is_slot s no_limit w (handed_is s table w e).0 in none_of_unused s table w e 0 room z.0 z.1

-- ---- what a list that is answered says of the pool

pub record Right (p : Pool) (n room : ℕ) (xs : List ℕ) : Type 0 where
  pub fits : length xs ≤ room
  pub reach : (a : ℕ) → (a ∈ xs) ↔ Reach p a n
  pub rise : Rising xs
  pub slot : (a : ℕ) → a ∈ xs → a < slots p
  pub other : n ∈ xs → ⊥
  pub short : (k a : ℕ) → Chain p k a → k ≤ 3

all_right : (p : Pool) → fine ≡ checked p → (n room : ℕ) → length (dependants_in p n) ≤ room → Right p n room (dependants_in p n)
all_right p ok n room h = record {
  fits = h;
  reach = λ a. dependants_are p ok a n;
  rise = dependants_rise p n;
  slot = λ a m. listed_slot p a n m;
  other = not_itself p ok n;
  short = at_most_three p ok;
}

right : (p : Pool) → fine ≡ checked p → (n room : ℕ) (xs : List ℕ) → accept xs ≡ dependants_at n room p → (n < slots p) × Right p n room xs
unfolding dependants_at
right p ok n room xs e =
    let a = held (ltb n (slots p)) 7 n _ xs e in
    let b = held (leb (length (dependants_in p n)) room) 13 (length (dependants_in p n)) _ xs a.1 in
    let q = same b.1 in
    (ltb-true n (slots p) a.0, rw q (all_right p ok n room (leb-true (length (dependants_in p n)) room b.0)))

pub answered : (s table : List ℕ) (n room : ℕ) (xs : List ℕ) → accept xs ≡ dependants s table n room
    → (w : Whole) × (accept w ≡ handed s table) × (n < slots w.pool) × Right w.pool n room xs
unfolding lookup
answered s table n room xs e =
    let w = first (handed s table) _ xs e in
    let r = right w.0.pool (handed_is s table w.0 w.1).1 n room xs w.2 in
    (w.0, w.1, r.0, r.1)
