-- Where the refusals of the pool stand. Assumes nothing.
use Prim.Native.Nat.{ℕ, zero, suc, ◌+◌, ◌-◌, ◌≤◌, ◌<◌}
use native.Mathlib.Omega.{arith}
use mathlib.Core.Path.{◌≡◌, refl, ap}
use mathlib.Core.Bool.{Bool, true, false, ◌&&◌}
use mathlib.Core.List.Memᴰ
use mathlib.Core.List.{List, [], ◌∷◌, ◌++◌}
use mathlib.Core.Logic.{◌⊎◌, inl, inr}
use lib.ListN.{length, length-append}
use lib.Dec.{leb, ltb, eqb}
use borrow.Author.Tests.{ltb-true, ltb-false}
use Rattle.reads.specs.Answer.{Answer, accept, ◌>>=◌, require}
use Rattle.reads.specs.Bytes.{u1, u2, u4, skipped}
use Rattle.reads.proofs.Answers.{first, held, required}
use Rattle.reads.proofs.Leaves.{u1_in, skipped_in, u2_in, u4_in}
use Rattle.pool.specs.declared.Header.{Header}
use Rattle.pool.specs.declared.Slot.{Slot}
use Rattle.pool.specs.Kinds as kind
use Rattle.pool.specs.Rows.{since, first as width, second, row_of}
use Rattle.pool.specs.Pool.{Whole, Read, room_for, second_width, entry_at, slot_at, entries, all_entries, header_of, read_pool, slots}
use Rattle.pool.proofs.Entries.{same, slot_in}
use Rattle.checks.specs.Checks.{checked, pool}
use Rattle.reach.specs.Reach.{◌∈◌}
use Rattle.demands.specs.Calls.{Refuses, OnlyAt}
use Rattle.demands.specs.Numbers.{of_read, of_checks}
use Rattle.demands.specs.Places.{WhileRead, too_long, past_the_end, wrong_magic, unknown, no_cell, OfAnEntry}
use Rattle.demands.proofs.Only.{done, then, need_at, pick, weaken, lies}
use Rattle.demands.proofs.Numbered.{u1_at, u2_at, u4_at, skipped_at, checked_at}

-- ---- the entries

module _ (s : List ℕ) (room : ℕ) where
  abbrev Placed : {A : Type 0} → Answer A → Type 0
  Placed x = Refuses (WhileRead s room) x

  -- a read that begins in the file, or at its end
  reading : {A : Type 0} {at : ℕ} {x : Answer A} → at ≤ length s → OnlyAt of_read at x → Placed x
  reading {at} h p = weaken (λ nr place m. let y = Memᴰ.eq_of_singleton m.0 in let z = m.1 in rw (y, z) (past_the_end {at = at} (omega arith))) p

  second_at : (at t w : ℕ) → at ≤ length s → Placed (second_width s at t w)
  unfolding second_width
  second_at at t w h =
      pick (eqb t kind.utf8) _ _ (reading h (u2_at s at))
      (pick (eqb t kind.method_handle) _ _ (then (u1 s at) _ (reading h (u1_at s at)) (λ k q.
      let i = u1_in s at k q in
      then (require (leb 1 k && leb k 9) 4 at) _ (need_at (leb 1 k && leb k 9) 4 at (unknown (omega arith))) (λ _ _. done _))) (done _))

  entry_placed : (major at : ℕ) → at ≤ length s → Placed (entry_at s major at)
  unfolding entry_at
  entry_placed major at h =
      then (u1 s at) _ (reading h (u1_at s at)) (λ t q.
      let i = u1_in s at t q in
      then (require (leb (since (row_of t)) major) 4 at) _ (need_at (leb (since (row_of t)) major) 4 at (unknown (omega arith))) (λ _ _.
      then (skipped s (at + 1) (width (row_of t))) _ (reading (omega arith) (skipped_at s (at + 1) (width (row_of t)))) (λ m k.
      let j = skipped_in s (at + 1) (width (row_of t)) m k in
      let n : m ≤ length s = omega arith in
      then (second_width s (at + 1) t (second (row_of t))) _ (second_at (at + 1) t (second (row_of t)) (omega arith)) (λ w _.
      then (skipped s m w) _ (reading n (skipped_at s m w)) (λ _ _. done _)))))

  -- what ends with a part that is passed over ends in the file
  ends_in : {A : Type 0} (m w : ℕ) (r : ℕ → A) (a : A) → accept a ≡ (skipped s m w >>= λ n. accept (r n)) → (n : ℕ) × (n ≤ length s) × (a ≡ r n)
  ends_in m w r a e =
      let i = first (skipped s m w) _ a e in
      let k = skipped_in s m w i.0 i.1 in
      (i.0, omega arith, same i.2)

  header_at : Placed (header_of s)
  unfolding header_of
  header_at =
      then (require (leb (length s) 16777216) 1 0) _ (need_at (leb (length s) 16777216) 1 0 too_long) (λ _ _.
      then (u4 s 0) _ (reading (omega arith) (u4_at s 0)) (λ m a.
      let i = u4_in s 0 m a in
      then (require (eqb m 0xCAFEBABE) 3 0) _ (need_at (eqb m 0xCAFEBABE) 3 0 wrong_magic) (λ _ _.
      then (u2 s 4) _ (reading (omega arith) (u2_at s 4)) (λ x b.
      let j = u2_in s 4 x b in
      then (u2 s 6) _ (reading (omega arith) (u2_at s 6)) (λ y c.
      let k = u2_in s 6 y c in
      then (u2 s 8) _ (reading (omega arith) (u2_at s 8)) (λ _ _. done _))))))

  -- a cell for slot n, where those before have theirs
  cell_at : (n : ℕ) → n ≤ room → Placed (room_for room n)
  cell_at n h = go (ltb n room) refl
    where
      go : (t : Bool) → ltb n room ≡ t → Placed (require t 5 n)
      go true q = done tt
      go false q =
          let k = ltb-false n room q in
          let z : n ≡ room = omega arith in
          rw z (need_at false 5 room no_cell)

  module _ (major : ℕ) where
    slot_placed : (n : ℕ) (owed : Bool) (at : ℕ) → n ≤ room → at ≤ length s → Placed (slot_at s major room n owed at)
    unfolding slot_at
    slot_placed n owed at h l =
        then (room_for room n) _ (cell_at n h) (λ _ _.
        pick owed _ _ (done _) (then (entry_at s major at) _ (entry_placed major at l) (λ _ _. done _)))

    slot_next : (n : ℕ) (owed : Bool) (at : ℕ) (e : Slot) → at ≤ length s → accept e ≡ slot_at s major room n owed at → e.next ≤ length s
    unfolding slot_at entry_at
    slot_next n true at e l h =
        let g = ap (λ (x : Slot). x.next) (same (held (ltb n room) 5 n _ e h).1) in
        omega arith
    slot_next n false at e l h =
        let a = first (entry_at s major at) _ e (held (ltb n room) 5 n _ e h).1 in
        let g = ap (λ (x : Slot). x.next) (same a.2) in
        let t = first (u1 s at) _ a.0 a.1 in
        let r = held (leb (since (row_of t.0)) major) 4 at _ a.0 t.2 in
        let m = first (skipped s (at + 1) (width (row_of t.0))) _ a.0 r.1 in
        let w = first (second_width s (at + 1) t.0 (second (row_of t.0))) _ a.0 m.2 in
        let i = ends_in m.0 w.0 _ a.0 w.2 in
        let z : a.0.next ≡ i.0 = λ j. (i.2 j).next in
        omega (arith, i.1)

    entries_at : (k : ℕ) (owed : Bool) (cells : List ℕ) (at : ℕ) → length cells ≤ room → at ≤ length s → Placed (entries k owed s major room cells at)
    unfolding entries
    entries_at zero false cells at h l = done _
    entries_at zero true cells at h l = then (room_for room (length cells)) _ (cell_at (length cells) h) (λ _ _. done _)
    entries_at (suc k) owed cells at h l = then (slot_at s major room (length cells) owed at) _ (slot_placed (length cells) owed at h l) (λ e q.
        let b = slot_in s major room (length cells) owed at e q in
        let m : length (cells ++ e.cell ∷ []) ≡ length cells + 1 = simp length-append in
        entries_at k e.wide (cells ++ e.cell ∷ []) e.next (omega arith) (slot_next (length cells) owed at e l q))

    all_at : (count : ℕ) → 10 ≤ length s → Placed (all_entries s major count room)
    unfolding all_entries
    all_at count h = then (room_for room 0) _ (cell_at 0 (omega arith)) (λ _ q.
        let k = ltb-true 0 room (required (ltb 0 room) 5 0 q) in
        entries_at (count - 1) false (0 ∷ []) 10 (omega arith) h)

  count_in : (h : Header) → accept h ≡ header_of s → 10 ≤ length s
  unfolding header_of
  count_in h e =
      let a = held (leb (length s) 16777216) 1 0 _ h e in
      let m = first (u4 s 0) _ h a.1 in
      let g = held (eqb m.0 0xCAFEBABE) 3 0 _ h m.2 in
      let x = first (u2 s 4) _ h g.1 in
      let y = first (u2 s 6) _ h x.2 in
      let c = first (u2 s 8) _ h y.2 in
      u2_in s 8 c.0 c.1

  pub read_placed : Placed (read_pool s room)
  unfolding read_pool
  read_placed =
      then (header_of s) _ header_at (λ h e.
      then (all_entries s h.major h.count room) _ (all_at h.major h.count (count_in h e)) (λ _ _. done _))

  -- the byte after the pool is a byte of the file, or its end
  entries_next : (major k : ℕ) (owed : Bool) (cells : List ℕ) (at : ℕ) (r : Read) → at ≤ length s → accept r ≡ entries k owed s major room cells at → r.next ≤ length s
  unfolding entries
  entries_next major zero false cells at r l e = let g = ap (λ (x : Read). x.next) (same e) in omega arith
  entries_next major zero true cells at r l e =
      let a = held (ltb (length cells) room) 5 (length cells) _ r e in
      let g = ap (λ (x : Read). x.next) (same a.1) in
      omega arith
  entries_next major (suc k) owed cells at r l e =
      let a = first (slot_at s major room (length cells) owed at) _ r e in
      entries_next major k a.0.wide (cells ++ a.0.cell ∷ []) a.0.next r (slot_next major (length cells) owed at a.0 l a.1) a.2

  pub read_next : (w : Whole) → accept w ≡ read_pool s room → w.next ≤ length s
  unfolding read_pool all_entries
  read_next w e =
      let a = first (header_of s) _ w e in
      let r = first (all_entries s a.0.major a.0.count room) _ w a.2 in
      let b = held (ltb 0 room) 5 0 _ r.0 r.1 in
      let g = ap (λ (x : Whole). x.next) (same r.2) in
      let h = count_in a.0 a.1 in
      omega (arith, entries_next a.0.major (a.0.count - 1) false (0 ∷ []) 10 r.0 h b.1)

-- ---- the pool

pub pool_placed : (s : List ℕ) (room : ℕ) → Refuses (λ nr place. WhileRead s room nr place ⊎ OfAnEntry s room nr place) (pool s room)
unfolding pool
pool_placed s room =
    then (read_pool s room) _ (weaken (λ _ _ h. inl h) (read_placed s room)) (λ w e.
    then (checked w.pool) _ (weaken (λ nr place h. inr (of_entry w e nr place h)) (checked_at w.pool)) (λ _ _. done _))
  where
    of_entry : (w : Whole) → accept w ≡ read_pool s room → (nr place : ℕ) → (nr ∈ of_checks) × (place < slots w.pool) → OfAnEntry s room nr place
    of_entry w e nr place h = let b = lies 6 11 of_checks refl nr h.0 in record { whole = w; was_read = e; from_6 = b.0; to_11 = b.1; slot = h.1 }
