-- A pool takes three bytes of the file or more for each slot, so that room by the size of the file is room enough. Assumes nothing.
use mathlib.Core.Path.{◌≡◌, refl, ap}
use mathlib.Core.Bool.{Bool, true, false, ◌&&◌, cond}
use mathlib.Core.List.{List, [], ◌∷◌, ◌++◌}
use Prim.Native.Nat.{ℕ, zero, suc, ◌+◌, ◌-◌, ◌*◌, ◌≤◌, ◌<◌}
use native.Mathlib.Omega.{arith}
use lib.ListN.{length}
use lib.Dec.{leb, ltb, eqb}
use borrow.Author.Tests.{lt-ltb, leb-true, eqb-true}
use Rattle.reads.specs.Answer.{accept}
use Rattle.reads.specs.Bytes.{u1, u2, u4, skipped}
use Rattle.reads.proofs.Answers.{same, first, held, alike}
use Rattle.reads.proofs.Leaves.{Bytes, pair_below, u2_in, skipped_in}
use Rattle.reads.proofs.Tables.{longer}
use Rattle.pool.specs.declared.Slot.{Slot}
use Rattle.pool.specs.declared.Header.{Header}
use Rattle.pool.specs.declared.Row.{Row}
use Rattle.pool.specs.Rows.{since, first as width, second, none, rows, find, row_of}
use Rattle.pool.specs.Pool.{second_width, wide, entry_at, slot_at, entries, all_entries, header_of, read_pool}
use Rattle.pool.proofs.Slots.{header_is}

-- ---- row by row

abbrev EachRow : (ℕ → Type 0) → List (ℕ × Row) → Type 0
EachRow P [] = Unit {0}
EachRow P (k ∷ ks) = P k.0 × EachRow P ks

by_row : (P : ℕ → Type 0) (ks : List (ℕ × Row)) → EachRow P ks → (t : ℕ) → (find t ks ≡ none → P t) → P t
by_row P [] all t rest = rest refl
by_row P (k ∷ ks) all t rest = go (eqb t k.0) refl (by_row P ks all.1 t) rest
  where
    go : (b : Bool) → eqb t k.0 ≡ b → ((find t ks ≡ none → P t) → P t) → (cond b k.1 (find t ks) ≡ none → P t) → P t
    go true q more rest =
        let e = eqb-true t k.0 q in
        rw e all.0
    go false q more rest = more rest

infixr 5 ◌&◌
◌&◌ : {A B : Type 0} → A → B → A × B
◌&◌ a b = (a, b)

module _ (s : List ℕ) (major : ℕ) (known : major < 65536) where
  -- the two reads of a known entry take two bytes or more, and of a wide one five or more
  abbrev Long : ℕ → Type 0
  Long t = (b w : ℕ) → accept w ≡ second_width s b t (second (row_of t)) → leb (since (row_of t)) major ≡ true → 2 + cond (wide t) 3 0 ≤ width (row_of t) + w

  handle_long : Long 15
  unfolding second_width row_of wide
  handle_long b w e k =
      let f = first (u1 s b) _ w e in
      let g = held (leb 1 f.0 && leb f.0 9) 4 b _ w f.2 in
      let q : w ≡ 2 = same g.1 in
      omega arith

  rows_long : EachRow Long rows
  unfolding row_of wide
  rows_long =
      (λ b w e k. omega arith) & (λ b w e k. omega arith) & (λ b w e k. omega arith) & (λ b w e k. omega arith) & (λ b w e k. omega arith) & (λ b w e k. omega arith) & (λ b w e k. omega arith)
      & (λ b w e k. omega arith) & (λ b w e k. omega arith) & (λ b w e k. omega arith) & (λ b w e k. omega arith) & handle_long & (λ b w e k. omega arith) & (λ b w e k. omega arith)
      & (λ b w e k. omega arith) & (λ b w e k. omega arith) & (λ b w e k. omega arith) & tt

  every_long : (t : ℕ) → Long t
  unfolding row_of
  every_long t = by_row Long rows rows_long t (λ q b w e k. absurd (unknown q k))
    where
      unknown : find t rows ≡ none → leb (since (find t rows)) major ≡ true → ⊥
      unknown q k =
          let z = leb-true (since (find t rows)) major k in
          let y = ap since q in
          omega arith

  -- a slot that is no Unused takes three bytes or more, and one with an Unused behind it six
  slot_long : (room n : ℕ) (owed : Bool) (at : ℕ) (e : Slot) → at ≤ length s → accept e ≡ slot_at s major room n owed at → (at + cond owed 0 3 + cond e.wide 3 0 ≤ e.next) × (e.next ≤ length s)
  unfolding slot_at entry_at
  slot_long room n true at e h a =
      let r = held (ltb n room) 5 n _ e a in
      rw (same r.1) (omega arith, h)
  slot_long room n false at e h a =
      let r = held (ltb n room) 5 n _ e a in
      let d = first (entry_at s major at) _ e r.1 in
      let t = first (u1 s at) _ d.0 d.1 in
      let k = held (leb (since (row_of t.0)) major) 4 at _ d.0 t.2 in
      let m = first (skipped s (at + 1) (width (row_of t.0))) _ d.0 k.1 in
      let w = first (second_width s (at + 1) t.0 (second (row_of t.0))) _ d.0 m.2 in
      let l = first (skipped s m.0 w.0) _ d.0 w.2 in
      let f = skipped_in s (at + 1) _ m.0 m.1 in
      let g = skipped_in s m.0 w.0 l.0 l.1 in
      let z = every_long t.0 (at + 1) w.0 w.1 k.0 in
      rw (same d.2, same l.2) (omega arith, omega arith)

  -- ---- all entries

  three : (b : Bool) → cond b 0 3 + cond b 3 0 ≡ 3
  three true = refl
  three false = refl

  module _ (q r : ℕ) (enough-q : length s < 3 * q + 7) (enough-r : length s < 3 * r + 7) where
    slot_same : (n : ℕ) (owed : Bool) (at : ℕ) → n < q → n < r → slot_at s major q n owed at ≡ slot_at s major r n owed at
    unfolding slot_at
    slot_same n owed at a b = simp (lt-ltb n q a, lt-ltb n r b)

    entries_same : (k : ℕ) (owed : Bool) (cells : List ℕ) (at : ℕ) → at ≤ length s → 3 * length cells + cond owed 3 0 + 7 ≤ at → entries k owed s major q cells at ≡ entries k owed s major r cells at
    unfolding entries
    entries_same zero false cells at a b = refl
    entries_same zero true cells at a b = simp (lt-ltb (length cells) q (omega arith), lt-ltb (length cells) r (omega arith))
    entries_same (suc k) owed cells at a b =
        rw (slot_same (length cells) owed at (omega arith) (omega arith))
        (alike (slot_at s major r (length cells) owed at) _ _ (λ e y.
        let m = longer cells e.cell in
        let l = slot_long r (length cells) owed at e a y in
        let t = three owed in
        entries_same k e.wide (cells ++ e.cell ∷ []) e.next l.1 (omega (arith, l.0))))

    all_same : (count : ℕ) → 10 ≤ length s → all_entries s major count q ≡ all_entries s major count r
    unfolding all_entries
    all_same count h = simp (lt-ltb 0 q (omega arith), lt-ltb 0 r (omega arith)) (entries_same (count - 1) false (0 ∷ []) 10 h (omega arith))

-- room for a third of the file's bytes is room enough: more changes nothing
module _ (s : List ℕ) (b : Bytes s) (q r : ℕ) (enough-q : length s < 3 * q + 7) (enough-r : length s < 3 * r + 7) where
  ten : (h : Header) → accept h ≡ header_of s → 10 ≤ length s
  unfolding header_of
  ten h e =
      let a = held (leb (length s) 16777216) 1 0 _ h e in
      let m = first (u4 s 0) _ h a.1 in
      let g = held (eqb m.0 0xCAFEBABE) 3 0 _ h m.2 in
      let i = first (u2 s 4) _ h g.1 in
      let j = first (u2 s 6) _ h i.2 in
      let c = first (u2 s 8) _ h j.2 in
      u2_in s 8 c.0 c.1

  pub read_by_size : read_pool s q ≡ read_pool s r
  unfolding read_pool
  read_by_size = alike (header_of s) _ _ (λ h e.
      let k = ap (λ (x : Header). x.major) (header_is s h e) in
      rw (all_same s h.major (omega (arith, pair_below s b 6)) q r enough-q enough-r h.count (ten h e)) refl)
