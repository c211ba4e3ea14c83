-- The table that an accepted pool leaves is accepted again, and a lookup on it looks at that pool. Assumes nothing.
use mathlib.Core.Path.{◌≡◌, refl, ap, sym}
use mathlib.Core.Bool.{Bool, true, false}
use mathlib.Core.List.{List, [], ◌∷◌, ◌++◌}
use Prim.Native.Nat.{ℕ, zero, suc, ◌+◌, ◌-◌, ◌≤◌, ◌<◌}
use native.Mathlib.Omega.{arith}
use lib.ListN.{length}
use lib.Dec.{ltb}
use borrow.Author.Tests.{lt-ltb, eq-eqb}
use Rattle.reads.specs.Answer.{Answer, Check, fine, accept, each}
use Rattle.reads.specs.Tables.{padded, after}
use Rattle.reads.proofs.Answers.{same, first, held, each_at}
use Rattle.reads.proofs.Leaves.{Bytes}
use Rattle.reads.proofs.Tables.{padded_length, longer, padded_at}
use Rattle.pool.specs.declared.Slot.{Slot}
use Rattle.pool.specs.Kinds as kind
use Rattle.pool.specs.Pool.{Pool, Whole, Read, slot_at, entries, all_entries, header_of, read_pool, slots}
use Rattle.pool.proofs.Slots.{slots_fit}
use Rattle.pool.proofs.Room.{few_read}
use Rattle.slot.specs.Slots.{tag_of, of_kind}
use Rattle.checks.specs.Checks.{obey, checked, pool}
use Rattle.handed.specs.Handed.{agree, judged, no_limit, handed, lookup, asked}
use Rattle.handed.proofs.Handed.{agrees, same_at}

-- ---- what was read with some room is read the same with any that suffices

module _ (s : List ℕ) (major room : ℕ) where
  grows : (k : ℕ) (owed : Bool) (cells : List ℕ) (at : ℕ) (r : Read) → accept r ≡ entries k owed s major room cells at → length cells + k ≤ length r.cells
  unfolding entries
  grows zero false cells at r e = omega (arith, ap (λ (x : Read). length x.cells) (same e))
  grows zero true cells at r e =
      let a = held (ltb (length cells) room) 5 (length cells) _ r e in
      omega (arith, longer cells 0, ap (λ (x : Read). length x.cells) (same a.1))
  grows (suc k) owed cells at r e =
      let a = first (slot_at s major room (length cells) owed at) _ r e in
      omega (arith, longer cells a.0.cell, grows k a.0.wide (cells ++ a.0.cell ∷ []) a.0.next r a.2)

  module _ (more : ℕ) where
    slot_again : (n : ℕ) (owed : Bool) (at : ℕ) (e : Slot) → n < more → accept e ≡ slot_at s major room n owed at → accept e ≡ slot_at s major more n owed at
    unfolding slot_at
    slot_again n owed at e h a = rw (lt-ltb n more h) (held (ltb n room) 5 n _ e a).1

    entries_again : (k : ℕ) (owed : Bool) (cells : List ℕ) (at : ℕ) (r : Read) → length r.cells ≤ more → accept r ≡ entries k owed s major room cells at → accept r ≡ entries k owed s major more cells at
    unfolding entries
    entries_again zero false cells at r h e = e
    entries_again zero true cells at r h e =
        let a = held (ltb (length cells) room) 5 (length cells) _ r e in
        let g = ap (λ (x : Read). length x.cells) (same a.1) in
        rw (lt-ltb (length cells) more (omega (arith, longer cells 0))) a.1
    entries_again (suc k) owed cells at r h e =
        let a = first (slot_at s major room (length cells) owed at) _ r e in
        let m = longer cells a.0.cell in
        let g = grows k a.0.wide (cells ++ a.0.cell ∷ []) a.0.next r a.2 in
        rw (← slot_again (length cells) owed at a.0 (omega arith) a.1) (entries_again k a.0.wide (cells ++ a.0.cell ∷ []) a.0.next r h a.2)

    all_again : (count : ℕ) (r : Read) → length r.cells ≤ more → accept r ≡ all_entries s major count room → accept r ≡ all_entries s major count more
    unfolding all_entries
    all_again count r h e =
        let a = held (ltb 0 room) 5 0 _ r e in
        let g = grows (count - 1) false (0 ∷ []) 10 r a.1 in
        rw (lt-ltb 0 more (omega arith)) (entries_again (count - 1) false (0 ∷ []) 10 r h a.1)

pub read_again : (s : List ℕ) (room more : ℕ) (w : Whole) → slots w.pool ≤ more → accept w ≡ read_pool s room → accept w ≡ read_pool s more
unfolding read_pool
read_again s room more w h e =
    let a = first (header_of s) _ w e in
    let r = first (all_entries s a.0.major a.0.count room) _ w a.2 in
    let g = ap (λ (x : Whole). length x.pool.cells) (same r.2) in
    rw (← a.1, ← all_again s a.0.major room more a.0.count r.0 (omega arith) r.1) r.2

-- ---- cells and zeros agree with the cells

all_fine : (k i : ℕ) (f : ℕ → Check) → ((n : ℕ) → f n ≡ fine) → each k i f ≡ fine
unfolding each
all_fine zero i f h = refl
all_fine (suc k) i f h = rw (h i) (all_fine k (i + 1) f h)

own_cell : (cells : List ℕ) (len i : ℕ) → same_at cells (padded 0 len cells) i ≡ fine
own_cell cells len i = rw (eq-eqb _ _ (padded_at len cells i)) refl

pub own_cells : (cells : List ℕ) (len : ℕ) → length cells ≤ len → fine ≡ agree cells (padded 0 len cells)
own_cells cells len h = agrees cells (padded 0 len cells) (all_fine _ 0 _ (own_cell cells len)) (rw (padded_length 0 len cells h) h)

-- ---- the pool's own table, of a file that is a list of bytes

module _ (s : List ℕ) (b : Bytes s) (room : ℕ) (w : Whole) (e : accept w ≡ pool s room) where
  passed : (accept w ≡ read_pool s room) × (fine ≡ checked w.pool)
  unfolding pool
  passed =
      let r = first (read_pool s room) _ w e in
      let c = first (checked r.0.pool) _ w r.2 in
      let q : r.0 ≡ w = sym (same c.2) in
      rw (← q) (r.1, c.1)

  -- every cell that it has, and zeros
  pub own : (len : ℕ) → slots w.pool ≤ len → accept w ≡ handed s (padded 0 len w.pool.cells)
  unfolding handed judged
  own len l = rw (← read_again s room no_limit w (few_read s b room w passed.0) passed.0, ← own_cells w.pool.cells len l, ← passed.1) refl

  -- the table as `read_pool` leaves it
  pub left : accept w ≡ handed s (after 0 (λ x. x.pool.cells) room (pool s room))
  left = rw (← e) (own room (slots_fit s room w passed.0))

-- ---- lookups on a table that is accepted

module _ (s table : List ℕ) (w : Whole) (o : accept w ≡ handed s table) where
  pub on_own : {A : Type 0} (f : Pool → Answer A) → lookup s table f ≡ f w.pool
  unfolding lookup
  on_own f = rw (← o) refl

  -- its entries keep their rules
  pub obeyed : (n : ℕ) → n < slots w.pool → fine ≡ obey w.pool n
  unfolding handed judged checked
  obeyed n h =
      let r = first (read_pool s no_limit) _ w o in
      let j = first (judged r.0.pool table) _ w r.2 in
      let a = first (agree r.0.pool.cells table) _ tt j.1 in
      let c = first (each (slots r.0.pool) 0 _) _ tt a.2 in
      let q : r.0 ≡ w = sym (same j.2) in
      rw (← q) (let l = rw (← q) at h in each_at (slots r.0.pool) 0 _ c.2 n (omega arith) (omega arith))

-- a slot of a kind that is asked for
pub asked_fine : (p : Pool) (allowed n : ℕ) → n < slots p → kind.has allowed (tag_of p n) ≡ true → fine ≡ asked p allowed n
unfolding asked of_kind
asked_fine p allowed n h k = rw (lt-ltb n (slots p) h, k) refl
