-- Two files that begin alike: what was read of the pool in one is read in the other, and slots hold the same. Assumes nothing.
use mathlib.Core.Path.{◌≡◌, refl, ap, sym, subst, ◌∙◌}
use mathlib.Core.Bool.{Bool, true, false, ◌&&◌, cond}
use mathlib.Core.List.{List, [], ◌∷◌, ◌++◌}
use Prim.Native.Nat.{ℕ, zero, suc, ◌+◌, ◌-◌, ◌≤◌, ◌<◌}
use native.Mathlib.Omega.{arith}
use lib.ListN.{length, take, drop, length-append, length-drop, get_or-append}
use lib.Seq.{drop-append-le, take-append-le}
use lib.Dec.{leb, ltb, eqb}
use borrow.Author.Tests.{le-leb, eqb-true}
use Rattle.reads.specs.Answer.{Answer, accept, require, ◌>>=◌}
use Rattle.reads.specs.Bytes.{num1, num2, num4, u1, u2, u4, skipped}
use Rattle.reads.proofs.Answers.{same, first, held}
use Rattle.reads.proofs.Leaves.{fits, u1_is, skipped_in}
use Rattle.pool.specs.Kinds as kind
use Rattle.pool.specs.declared.Entry.{Entry}
use Rattle.pool.specs.declared.Slot.{Slot}
use Rattle.pool.specs.declared.Header.{Header}
use Rattle.pool.specs.Rows.{since, first as width, second, row_of}
use Rattle.pool.specs.Pool.{Read, Whole, second_width, entry_at, slot_at, entries, all_entries, header_of, whole_of, read_pool}

-- what stands before their common end
module _ (h x : List ℕ) where
  pub byte_in : (i : ℕ) → i < length h → num1 (h ++ x) i ≡ num1 h i
  byte_in i l = get_or-append h x 0 i l

  pub num2_in : (i : ℕ) → i + 2 ≤ length h → num2 (h ++ x) i ≡ num2 h i
  num2_in i l = rw (byte_in i (omega arith), byte_in (i + 1) (omega arith)) refl

  pub num4_in : (i : ℕ) → i + 4 ≤ length h → num4 (h ++ x) i ≡ num4 h i
  num4_in i l = rw (num2_in i (omega arith), num2_in (i + 2) (omega arith)) refl

  pub part_in : (a n : ℕ) → a + n ≤ length h → take n (drop a (h ++ x)) ≡ take n (drop a h)
  part_in a n l = ap (take n) (drop-append-le a h x (omega arith)) ∙ take-append-le n (drop a h) x (omega (arith, length-drop a h))

  pub long : (n : ℕ) → n ≤ length h → n ≤ length (h ++ x)
  long n l = omega (arith, length-append h x)

  u1_in : (i : ℕ) → i + 1 ≤ length h → accept (num1 h i) ≡ u1 (h ++ x) i
  unfolding u1
  u1_in i l = ap accept (sym (byte_in i (omega arith))) ∙ fits _ (h ++ x) i 1 (long (i + 1) l)

  u2_in : (i : ℕ) → i + 2 ≤ length h → accept (num2 h i) ≡ u2 (h ++ x) i
  unfolding u2
  u2_in i l = ap accept (sym (num2_in i l)) ∙ fits _ (h ++ x) i 2 (long (i + 2) l)

  u4_in : (i : ℕ) → i + 4 ≤ length h → accept (num4 h i) ≡ u4 (h ++ x) i
  unfolding u4
  u4_in i l = ap accept (sym (num4_in i l)) ∙ fits _ (h ++ x) i 4 (long (i + 4) l)

  skip_in : (i n : ℕ) → i + n ≤ length h → accept (i + n) ≡ skipped (h ++ x) i n
  unfolding skipped
  skip_in i n l = fits _ (h ++ x) i n (long (i + n) l)

module _ (h x y : List ℕ) where
  -- ---- one entry

  pub width_same : (b t w : ℕ) → b + width (row_of t) ≤ length h → second_width (h ++ y) b t w ≡ second_width (h ++ x) b t w
  unfolding second_width row_of
  width_same b t w l = go (eqb t kind.utf8) refl
    where
      two : t ≡ kind.utf8 → b + 2 ≤ length h
      two e = rw e at l

      one : t ≡ kind.method_handle → b + 1 ≤ length h
      one e = rw e at l

      kinds : ℕ → Answer ℕ → Answer ℕ
      kinds w a = a >>= λ k. require (leb 1 k && leb k 9) 4 b >>= λ _. accept w

      then : (c : Bool) → eqb t kind.method_handle ≡ c → cond c (kinds w (u1 (h ++ y) b)) (accept w) ≡ cond c (kinds w (u1 (h ++ x) b)) (accept w)
      then true e = ap (kinds w) (sym (u1_in h y b (one (eqb-true t kind.method_handle e))) ∙ u1_in h x b (one (eqb-true t kind.method_handle e)))
      then false e = refl

      go : (c : Bool) → eqb t kind.utf8 ≡ c → cond c (u2 (h ++ y) b) (cond (eqb t kind.method_handle) (kinds w (u1 (h ++ y) b)) (accept w)) ≡ cond c (u2 (h ++ x) b) (cond (eqb t kind.method_handle) (kinds w (u1 (h ++ x) b)) (accept w))
      go true e = sym (u2_in h y b (two (eqb-true t kind.utf8 e))) ∙ u2_in h x b (two (eqb-true t kind.utf8 e))
      go false e = then (eqb t kind.method_handle) refl

  entry_same : (major at : ℕ) (e : Entry) → accept e ≡ entry_at (h ++ x) major at → e.next ≤ length h → (accept e ≡ entry_at (h ++ y) major at) × (at ≤ e.next)
  unfolding entry_at
  entry_same major at e q l =
      let t = first (u1 (h ++ x) at) _ e q in
      let k = held (leb (since (row_of t.0)) major) 4 at _ e t.2 in
      let m = first (skipped (h ++ x) (at + 1) (width (row_of t.0))) _ e k.1 in
      let w = first (second_width (h ++ x) (at + 1) t.0 (second (row_of t.0))) _ e m.2 in
      let n = first (skipped (h ++ x) m.0 w.0) _ e w.2 in
      let b : e.next ≡ n.0 = ap (λ (z : Entry). z.next) (same n.2) in
      let f = skipped_in (h ++ x) (at + 1) (width (row_of t.0)) m.0 m.1 in
      let g = skipped_in (h ++ x) m.0 w.0 n.0 n.1 in
      let tt' : t.0 ≡ num1 h at = u1_is (h ++ x) at t.0 t.1 ∙ byte_in h x at (omega (arith, f.1, g.1)) in
      let c1 : accept t.0 ≡ u1 (h ++ y) at = ap accept tt' ∙ u1_in h y at (omega (arith, f.1, g.1)) in
      let c2 : accept m.0 ≡ skipped (h ++ y) (at + 1) (width (row_of t.0)) = ap accept f.1 ∙ skip_in h y (at + 1) (width (row_of t.0)) (omega (arith, f.1, g.1)) in
      let c3 : accept w.0 ≡ second_width (h ++ y) (at + 1) t.0 (second (row_of t.0)) = w.1 ∙ sym (width_same (at + 1) t.0 (second (row_of t.0)) (omega (arith, f.1, g.1))) in
      let c4 : accept n.0 ≡ skipped (h ++ y) m.0 w.0 = ap accept g.1 ∙ skip_in h y m.0 w.0 (omega (arith, g.1)) in
      (rw (← c1, k.0, ← c2, ← c3, ← c4) n.2, omega (arith, f.1, g.1))

  -- ---- all slots

  slot_on : (major room n : ℕ) (owed : Bool) (at : ℕ) (e : Slot) → accept e ≡ slot_at (h ++ x) major room n owed at → at ≤ e.next
  unfolding slot_at entry_at
  slot_on major room n true at e q = let g = ap (λ (z : Slot). z.next) (same (held (ltb n room) 5 n _ e q).1) in omega arith
  slot_on major room n false at e q =
      let a = first (entry_at (h ++ x) major at) _ e (held (ltb n room) 5 n _ e q).1 in
      let t = first (u1 (h ++ x) at) _ a.0 a.1 in
      let k = held (leb (since (row_of t.0)) major) 4 at _ a.0 t.2 in
      let m = first (skipped (h ++ x) (at + 1) (width (row_of t.0))) _ a.0 k.1 in
      let w = first (second_width (h ++ x) (at + 1) t.0 (second (row_of t.0))) _ a.0 m.2 in
      let o = first (skipped (h ++ x) m.0 w.0) _ a.0 w.2 in
      let b : a.0.next ≡ o.0 = ap (λ (z : Entry). z.next) (same o.2) in
      let g = ap (λ (z : Slot). z.next) (same a.2) in
      omega (arith, (skipped_in (h ++ x) (at + 1) _ m.0 m.1).1, (skipped_in (h ++ x) m.0 w.0 o.0 o.1).1)

  pub slot_same : (major room n : ℕ) (owed : Bool) (at : ℕ) (e : Slot) → accept e ≡ slot_at (h ++ x) major room n owed at → e.next ≤ length h → accept e ≡ slot_at (h ++ y) major room n owed at
  unfolding slot_at
  slot_same major room n true at e q l = q
  slot_same major room n false at e q l =
      let r = held (ltb n room) 5 n _ e q in
      let a = first (entry_at (h ++ x) major at) _ e r.1 in
      let g = ap (λ (z : Slot). z.next) (same a.2) in
      rw (r.0, ← (entry_same major at a.0 a.1 (omega arith)).0) a.2

  entries_on : (major room k : ℕ) (owed : Bool) (cells : List ℕ) (at : ℕ) (r : Read) → accept r ≡ entries k owed (h ++ x) major room cells at → at ≤ r.next
  unfolding entries
  entries_on major room zero false cells at r e = let g = ap (λ (z : Read). z.next) (same e) in omega arith
  entries_on major room zero true cells at r e = let g = ap (λ (z : Read). z.next) (same (held (ltb (length cells) room) 5 (length cells) _ r e).1) in omega arith
  entries_on major room (suc k) owed cells at r e =
      let a = first (slot_at (h ++ x) major room (length cells) owed at) _ r e in
      omega (arith, slot_on major room (length cells) owed at a.0 a.1, entries_on major room k a.0.wide (cells ++ a.0.cell ∷ []) a.0.next r a.2)

  entries_same : (major room k : ℕ) (owed : Bool) (cells : List ℕ) (at : ℕ) (r : Read) → accept r ≡ entries k owed (h ++ x) major room cells at → r.next ≤ length h → accept r ≡ entries k owed (h ++ y) major room cells at
  unfolding entries
  entries_same major room zero false cells at r e l = e
  entries_same major room zero true cells at r e l = e
  entries_same major room (suc k) owed cells at r e l =
      let a = first (slot_at (h ++ x) major room (length cells) owed at) _ r e in
      let o = entries_on major room k a.0.wide (cells ++ a.0.cell ∷ []) a.0.next r a.2 in
      rw (← slot_same major room (length cells) owed at a.0 a.1 (omega arith)) (entries_same major room k a.0.wide (cells ++ a.0.cell ∷ []) a.0.next r a.2 l)

  pub header_same : length (h ++ y) ≤ 16777216 → 10 ≤ length h → (g : Header) → accept g ≡ header_of (h ++ x) → accept g ≡ header_of (h ++ y)
  unfolding header_of
  header_same few l g e =
      let a = held (leb (length (h ++ x)) 16777216) 1 0 _ g e in
      rw (le-leb (length (h ++ y)) 16777216 few, ← u4_in h y 0 (omega arith), ← u2_in h y 4 (omega arith), ← u2_in h y 6 (omega arith), ← u2_in h y 8 (omega arith))
      (rw (← u4_in h x 0 (omega arith), ← u2_in h x 4 (omega arith), ← u2_in h x 6 (omega arith), ← u2_in h x 8 (omega arith)) at a.1)

  all_same : (major count room : ℕ) (r : Read) → accept r ≡ all_entries (h ++ x) major count room → r.next ≤ length h → (accept r ≡ all_entries (h ++ y) major count room) × (10 ≤ r.next)
  unfolding all_entries
  all_same major count room r e l =
      let z = held (ltb 0 room) 5 0 _ r e in
      let g : accept r ≡ (require true 5 0 >>= λ _. entries (count - 1) false (h ++ y) major room (0 ∷ []) 10) = entries_same major room (count - 1) false (0 ∷ []) 10 r z.1 l in
      (subst (λ (b : Bool). accept r ≡ (require b 5 0 >>= λ _. entries (count - 1) false (h ++ y) major room (0 ∷ []) 10)) (sym z.0) g, entries_on major room (count - 1) false (0 ∷ []) 10 r z.1)

  -- the same cells, versions and end
  pub pool_same : length (h ++ y) ≤ 16777216 → (room : ℕ) (w : Whole) → accept w ≡ read_pool (h ++ x) room → w.next ≤ length h
      → accept (record { pool = record { file = h ++ y; major = w.pool.major; cells = w.pool.cells }; minor = w.minor; next = w.next }) ≡ read_pool (h ++ y) room
  unfolding read_pool
  pool_same few room w e l =
      let g = first (header_of (h ++ x)) _ w e in
      let r = first (all_entries (h ++ x) g.0.major g.0.count room) _ w g.2 in
      let s = same r.2 in
      let n : w.next ≡ r.0.next = ap (λ (z : Whole). z.next) s in
      let c2 = all_same g.0.major g.0.count room r.0 r.1 (omega arith) in
      let c1 = header_same few (omega (arith, c2.1)) g.0 g.1 in
      ap (λ (v : Whole). accept (record { pool = record { file = h ++ y; major = v.pool.major; cells = v.pool.cells }; minor = v.minor; next = v.next })) s
      ∙ again g.0 r.0 c1 c2.0
    where
      again : (g : Header) (r : Read) → accept g ≡ header_of (h ++ y) → accept r ≡ all_entries (h ++ y) g.major g.count room → accept (whole_of (h ++ y) g r) ≡ (header_of (h ++ y) >>= λ g. all_entries (h ++ y) g.major g.count room >>= λ r. accept (whole_of (h ++ y) g r))
      again g r a b = rw (← a, ← b) refl
