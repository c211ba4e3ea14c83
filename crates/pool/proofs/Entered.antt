-- Every cell of a pool that was read is that of an entry that was read whole, before the byte after the pool. So the part of the file that a Utf8 hands back is never cut. Assumes nothing.
use mathlib.Core.Path.{◌≡◌, ap, ◌∙◌}
use mathlib.Core.Bool.{Bool, true, false}
use mathlib.Core.List.{List, [], ◌∷◌, ◌++◌}
use Prim.Native.Nat.{ℕ, zero, suc, ◌+◌, ◌-◌, ◌≤◌, ◌<◌}
use native.Mathlib.Omega.{arith}
use lib.ListN.{length, get_or}
use lib.Dec.{leb, ltb}
use Rattle.reads.specs.Answer.{accept}
use Rattle.reads.specs.Bytes.{num1, num2, u1, u2, skipped}
use Rattle.reads.proofs.Answers.{first, held}
use Rattle.pool.specs.Kinds as kind
use Rattle.pool.specs.declared.Entry.{Entry}
use Rattle.pool.specs.declared.Slot.{Slot}
use Rattle.pool.specs.Rows.{since, first as width, second, row_of}
use Rattle.pool.specs.Pool.{Read, Whole, second_width, entry_at, slot_at, entries, all_entries, header_of, read_pool}
use Rattle.pool.proofs.Entries.{same}
use Rattle.reads.proofs.Leaves.{u1_is, u2_is, skipped_in}

module _ (s : List ℕ) (major : ℕ) where
  -- an entry that was read: its tag, and the two reads after it, one behind the other, inside the file
  pub record Entered (end at : ℕ) : Type 0 where
    pub middle : ℕ
    pub next : ℕ
    pub wide_by : ℕ
    pub first_read : middle ≡ at + 1 + width (row_of (num1 s at))
    pub width_read : accept wide_by ≡ second_width s (at + 1) (num1 s at) (second (row_of (num1 s at)))
    pub second_read : next ≡ middle + wide_by
    pub inside : next ≤ length s
    pub before : next ≤ end

  entered : (at : ℕ) (e : Entry) → accept e ≡ entry_at s major at → Entered e.next at
  unfolding entry_at
  entered at e h =
      let t = first (u1 s at) _ e h in
      let k = held (leb (since (row_of t.0)) major) 4 at _ e t.2 in
      let m = first (skipped s (at + 1) (width (row_of t.0))) _ e k.1 in
      let w = first (second_width s (at + 1) t.0 (second (row_of t.0))) _ e m.2 in
      let n = first (skipped s m.0 w.0) _ e w.2 in
      let b : e.next ≡ n.0 = ap (λ (x : Entry). x.next) (same n.2) in
      let q = u1_is s at t.0 t.1 in
      let f = skipped_in s (at + 1) _ m.0 m.1 in
      let g = skipped_in s m.0 w.0 n.0 n.1 in
      record {
        middle = m.0;
        next = n.0;
        wide_by = w.0;
        first_read = f.1 ∙ ap (λ x. at + 1 + width (row_of x)) q;
        width_read = w.1 ∙ ap (λ x. second_width s (at + 1) x (second (row_of x))) q;
        second_read = g.1;
        inside = omega arith;
        before = omega arith;
      }

  -- what ends before a byte ends before a later one
  later : (end more at : ℕ) → end ≤ more → Entered end at → Entered more at
  later end more at h e = record { middle = e.middle; next = e.next; wide_by = e.wide_by; first_read = e.first_read; width_read = e.width_read; second_read = e.second_read; inside = e.inside; before = omega (arith, e.before) }

  -- of each cell that is not 0
  abbrev Cells : List ℕ → ℕ → Type 0
  Cells cells end = (n : ℕ) → 0 < get_or cells n 0 → Entered end (get_or cells n 0)

  more : (cells : List ℕ) (x end : ℕ) → Cells cells end → (0 < x → Entered end x) → Cells (cells ++ x ∷ []) end
  more [] x end f h zero = h
  more [] x end f h (suc n) = λ p. absurd (omega arith)
  more (c ∷ cells) x end f h zero = f 0
  more (c ∷ cells) x end f h (suc n) = more cells x end (λ m. f (suc m)) h n

  slot_entered : (room n : ℕ) (owed : Bool) (at : ℕ) (e : Slot) → accept e ≡ slot_at s major room n owed at → (at ≤ e.next) × (0 < e.cell → Entered e.next e.cell)
  unfolding slot_at
  slot_entered room n true at e h =
      let g = same (held (ltb n room) 5 n _ e h).1 in
      rw g (omega arith, λ p. absurd (omega arith))
  slot_entered room n false at e h =
      let a = first (entry_at s major at) _ e (held (ltb n room) 5 n _ e h).1 in
      let v = entered at a.0 a.1 in
      let g = same a.2 in
      rw g (omega (arith, v.first_read, v.second_read, v.before), λ p. v)

  all_entered : (room k : ℕ) (owed : Bool) (cells : List ℕ) (at : ℕ) (r : Read) → Cells cells at → accept r ≡ entries k owed s major room cells at → Cells r.cells r.next
  unfolding entries
  all_entered room zero false cells at r f h = rw (same h) f
  all_entered room zero true cells at r f h =
      let a = held (ltb (length cells) room) 5 (length cells) _ r h in
      rw (same a.1) (more cells 0 at f (λ p. absurd (omega arith)))
  all_entered room (suc k) owed cells at r f h =
      let a = first (slot_at s major room (length cells) owed at) _ r h in
      let v = slot_entered room (length cells) owed at a.0 a.1 in
      all_entered room k a.0.wide (cells ++ a.0.cell ∷ []) a.0.next r (more cells a.0.cell a.0.next (λ n p. later at a.0.next _ v.0 (f n p)) v.1) a.2

  -- ---- a Utf8

  pub utf8_read : (end at : ℕ) → Entered end at → num1 s at ≡ kind.utf8 → (at + 3 + num2 s (at + 1) ≤ end) × (at + 3 + num2 s (at + 1) ≤ length s)
  unfolding second_width row_of
  utf8_read end at e t =
      let a : e.middle ≡ at + 1 + 2 = rw t at e.first_read in
      let b : accept e.wide_by ≡ u2 s (at + 1) = rw t at e.width_read in
      let v = u2_is s (at + 1) e.wide_by b in
      (omega (arith, a, v, e.second_read, e.before), omega (arith, a, v, e.second_read, e.inside))

-- ---- the pool that is read

module _ (s : List ℕ) (room : ℕ) (w : Whole) (e : accept w ≡ read_pool s room) where
  pub cells_entered : (n : ℕ) → 0 < get_or w.pool.cells n 0 → Entered s w.pool.major w.next (get_or w.pool.cells n 0)
  unfolding read_pool all_entries
  cells_entered =
      let h = first (header_of s) _ w e in
      let r = first (all_entries s h.0.major h.0.count room) _ w h.2 in
      let a = held (ltb 0 room) 5 0 _ r.0 r.1 in
      let f = all_entered s h.0.major room (h.0.count - 1) false (0 ∷ []) 10 r.0 (more s h.0.major [] 0 10 (λ n p. absurd (omega arith)) (λ p. absurd (omega arith))) a.1 in
      rw (same r.2) f
