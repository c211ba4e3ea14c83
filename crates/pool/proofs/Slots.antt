-- What the slots of an accepted reading are: how many, and where their cells point. Assumes nothing.
use mathlib.Core.Path.{◌≡◌, refl, ap, sym, ◌∙◌}
use mathlib.Core.Bool.{Bool, true, false, not, ◌&&◌, cond}
use mathlib.Core.List.{List, [], ◌∷◌, ◌++◌}
use Prim.Native.Nat.{ℕ, zero, suc, ◌+◌, ◌-◌, ◌≤◌, ◌<◌}
use native.Mathlib.Omega.{arith}
use lib.ListN.{length, get_or, get_or-append}
use lib.Seq.{get_or_at}
use lib.Dec.{leb, ltb, eqb}
use borrow.Author.Tests.{ltb-true, ne_eqb}
use Rattle.reads.specs.Answer.{accept, ◌>>=◌}
use Rattle.reads.specs.Bytes.{num1, num2, u1, u2, u4, skipped}
use Rattle.reads.proofs.Answers.{same, first, held}
use Rattle.reads.proofs.Leaves.{u1_is, u2_is, skipped_in}
use Rattle.reads.proofs.Tables.{longer}
use Rattle.pool.specs.declared.Entry.{Entry}
use Rattle.pool.specs.declared.Slot.{Slot}
use Rattle.pool.specs.declared.Header.{Header}
use Rattle.pool.specs.Rows.{since, first as width, second, row_of}
use Rattle.pool.specs.Pool.{Read, Whole, second_width, wide, entry_at, slot_at, entries, all_entries, header_of, whole_of, read_pool, slots}
use Rattle.pool.proofs.Entries.{InFile, slot_in, cell_in}

-- whether a Long or a Double stands at a cell; 0 is no entry
abbrev pub wide_at : List ℕ → ℕ → Bool
wide_at s c = not (eqb c 0) && wide (num1 s c)

-- how many slots a count makes: 1 for 0, and one more where the last entry is wide
abbrev pub made : ℕ → Bool → ℕ
made count wide-last = cond (eqb count 0) 1 (cond wide-last (count + 1) count)

-- ---- one entry and one slot

module _ (s : List ℕ) (major : ℕ) where
  -- its tag says whether it is wide, and it ends after it began
  entry_wide : (at : ℕ) (e : Entry) → accept e ≡ entry_at s major at → (e.wide ≡ wide (num1 s at)) × (at < e.next)
  unfolding entry_at
  entry_wide at e h =
      let t = first (u1 s at) _ e h in
      let k = held (leb (since (row_of t.0)) major) 4 at _ e t.2 in
      let m = first (skipped s (at + 1) (width (row_of t.0))) _ e k.1 in
      let w = first (second_width s (at + 1) t.0 (second (row_of t.0))) _ e m.2 in
      let n = first (skipped s m.0 w.0) _ e w.2 in
      let a : e.wide ≡ wide t.0 = ap (λ (x : Entry). x.wide) (same n.2) in
      let b : e.next ≡ n.0 = ap (λ (x : Entry). x.next) (same n.2) in
      (a ∙ ap wide (u1_is s at t.0 t.1), omega (arith, (skipped_in s (at + 1) _ m.0 m.1).1, (skipped_in s m.0 w.0 n.0 n.1).1))

  slot_wide : (room n : ℕ) (owed : Bool) (at : ℕ) (e : Slot) → 0 < at → accept e ≡ slot_at s major room n owed at → (e.wide ≡ wide_at s e.cell) × (0 < e.next)
  unfolding slot_at
  slot_wide room n true at e p h =
      let g = same (held (ltb n room) 5 n _ e h).1 in
      rw g (refl, p)
  slot_wide room n false at e p h =
      let a = first (entry_at s major at) _ e (held (ltb n room) 5 n _ e h).1 in
      let w = entry_wide at a.0 a.1 in
      let g = same a.2 in
      rw (g, ne_eqb at 0 (λ z. omega arith)) (w.0, omega arith)

-- ---- all slots

-- one more cell at the end
last_cell : (cells : List ℕ) (x : ℕ) → get_or (cells ++ x ∷ []) (length (cells ++ x ∷ []) - 1) 0 ≡ x
last_cell cells x = get_or_at cells x [] 0 _ (omega (arith, longer cells x))

pub all_in : (s cells : List ℕ) (x : ℕ) → ((n : ℕ) → InFile s (get_or cells n 0)) → InFile s x → (n : ℕ) → InFile s (get_or (cells ++ x ∷ []) n 0)
all_in s [] x f h zero = h
all_in s [] x f h (suc n) = λ p. absurd (omega arith)
all_in s (c ∷ cells) x f h zero = f 0
all_in s (c ∷ cells) x f h (suc n) = all_in s cells x (λ m. f (suc m)) h n

-- a list of cells: each is 0 or lies inside the file, the first is 0, and there is room for them
pub record Sound (s : List ℕ) (room : ℕ) (cells : List ℕ) : Type 0 where
  pub in_file : (n : ℕ) → InFile s (get_or cells n 0)
  pub zero_first : get_or cells 0 0 ≡ 0
  pub some : 0 < length cells
  pub fits : length cells ≤ room

sound_more : (s : List ℕ) (room : ℕ) (cells : List ℕ) (x : ℕ) → Sound s room cells → InFile s x → length cells < room → Sound s room (cells ++ x ∷ [])
sound_more s room cells x v h r = record {
  in_file = all_in s cells x v.in_file h;
  zero_first = get_or-append cells (x ∷ []) 0 0 v.some ∙ v.zero_first;
  some = omega (arith, longer cells x, v.some);
  fits = omega (arith, longer cells x);
}

module _ (s : List ℕ) (major room : ℕ) where
  -- so far: the last entry says what is owed
  record Sofar (cells : List ℕ) (owed : Bool) (at : ℕ) : Type 0 where
    sound : Sound s room cells
    last : owed ≡ wide_at s (get_or cells (length cells - 1) 0)
    on : 0 < at

  turn : (cells : List ℕ) (owed : Bool) (at : ℕ) (e : Slot) → Sofar cells owed at → accept e ≡ slot_at s major room (length cells) owed at → Sofar (cells ++ e.cell ∷ []) e.wide e.next
  turn cells owed at e v h =
      let w = slot_wide s major room (length cells) owed at e v.on h in
      record {
        sound = sound_more s room cells e.cell v.sound (cell_in s major room (length cells) owed at e h) (slot_in s major room (length cells) owed at e h);
        last = w.0 ∙ ap (wide_at s) (sym (last_cell cells e.cell));
        on = w.1;
      }

  -- k slots more, and an Unused where the last of them is wide
  abbrev Made : ℕ → List ℕ → Type 0
  Made n cells = Sound s room cells × (length cells ≡ cond (wide_at s (get_or cells (n - 1) 0)) (n + 1) n)

  from : (k : ℕ) (owed : Bool) (cells : List ℕ) (at : ℕ) (r : Read) → Sofar cells owed at → accept r ≡ entries k owed s major room cells at → Made (length cells + k) r.cells
  unfolding entries
  from zero false cells at r v h =
      let g = ap (λ (x : Read). x.cells) (same h) in
      let z : length cells + 0 ≡ length cells = omega arith in
      rw (z, g, ← v.last) (v.sound, refl)
  from zero true cells at r v h =
      let a = held (ltb (length cells) room) 5 (length cells) _ r h in
      let g = ap (λ (x : Read). x.cells) (same a.1) in
      let o = v.sound.some in
      let z : length cells + 0 ≡ length cells = omega arith in
      rw (z, g, get_or-append cells (0 ∷ []) 0 (length cells - 1) (omega arith), ← v.last) (sound_more s room cells 0 v.sound (λ p. absurd (omega arith)) (ltb-true _ _ a.0), longer cells 0)
  from (suc k) owed cells at r v h =
      let a = first (slot_at s major room (length cells) owed at) _ r h in
      let m = longer cells a.0.cell in
      let l : length (cells ++ a.0.cell ∷ []) + k ≡ length cells + suc k = omega arith in
      rw l at (from k a.0.wide (cells ++ a.0.cell ∷ []) a.0.next r (turn cells owed at a.0 v a.1) a.2)

  begin : 0 < room → Sofar (0 ∷ []) false 10
  begin h = record { sound = record { in_file = all_in s [] 0 (λ n p. absurd (omega arith)) (λ p. absurd (omega arith)); zero_first = refl; some = omega arith; fits = omega arith }; last = refl; on = omega arith }

  count_made : (count : ℕ) (cells : List ℕ) → Made (1 + (count - 1)) cells → length cells ≡ made count (wide_at s (get_or cells (count - 1) 0))
  count_made zero cells m = rw m.0.zero_first at m.1
  count_made (suc c) cells m =
      let l : 1 + (suc c - 1) ≡ suc c = omega arith in
      rw (ne_eqb (suc c) 0 (λ z. omega arith)) (rw l at m.1)

  all_made : (count : ℕ) (r : Read) → accept r ≡ all_entries s major count room → Made (1 + (count - 1)) r.cells
  unfolding all_entries
  all_made count r e =
      let a = held (ltb 0 room) 5 0 _ r e in
      from (count - 1) false (0 ∷ []) 10 r (begin (ltb-true _ _ a.0)) a.1

-- ---- the header, and the pool that is read

-- the numbers before the pool stand at bytes 4, 6 and 8
pub header_is : (s : List ℕ) (h : Header) → accept h ≡ header_of s → h ≡ record { minor = num2 s 4; major = num2 s 6; count = num2 s 8 }
unfolding header_of
header_is s h e =
    let a = held (leb (length s) 16777216) 1 0 _ h e in
    let m = first (u4 s 0) _ h a.1 in
    let c = held (eqb m.0 0xCAFEBABE) 3 0 _ h m.2 in
    let x = first (u2 s 4) _ h c.1 in
    let y = first (u2 s 6) _ h x.2 in
    let z = first (u2 s 8) _ h y.2 in
    same z.2 ∙ cc (u2_is s 4 x.0 x.1, u2_is s 6 y.0 y.1, u2_is s 8 z.0 z.1)

module _ (s : List ℕ) (room : ℕ) (w : Whole) (e : accept w ≡ read_pool s room) where
  -- the entries that were read, from the numbers of the header
  read : (r : Read) × (accept r ≡ all_entries s (num2 s 6) (num2 s 8) room) × (w ≡ record { pool = record { file = s; major = num2 s 6; cells = r.cells }; minor = num2 s 4; next = r.next })
  unfolding read_pool
  read =
      let h = first (header_of s) _ w e in
      let k = ap (λ (x : Header). all_entries s x.major x.count room >>= λ r. accept (whole_of s x r)) (header_is s h.0 h.1) in
      let r = first (all_entries s (num2 s 6) (num2 s 8) room) _ w (h.2 ∙ k) in
      (r.0, r.1, same r.2)

  cells_are : w.pool.cells ≡ read.0.cells
  cells_are = ap (λ (x : Whole). x.pool.cells) read.2

  its : Made s (num2 s 6) room (1 + (num2 s 8 - 1)) w.pool.cells
  its = rw cells_are (all_made s (num2 s 6) room (num2 s 8) read.0 read.1)

  pub its_file : w.pool.file ≡ s
  its_file = ap (λ (x : Whole). x.pool.file) read.2

  pub its_major : w.pool.major ≡ num2 s 6
  its_major = ap (λ (x : Whole). x.pool.major) read.2

  pub its_minor : w.minor ≡ num2 s 4
  its_minor = ap (λ (x : Whole). x.minor) read.2

  -- every cell is 0 or an offset inside the file, and cell 0 is 0
  pub cells_in_file : (n : ℕ) → InFile s (get_or w.pool.cells n 0)
  cells_in_file = its.0.in_file

  pub cell_zero : get_or w.pool.cells 0 0 ≡ 0
  cell_zero = its.0.zero_first

  -- there is a cell for each slot
  pub slots_fit : slots w.pool ≤ room
  slots_fit = its.0.fits

  -- P is the count, one more where the last slot that it counts is wide, and 1 for count 0
  pub slots_made : slots w.pool ≡ made (num2 s 8) (wide_at s (get_or w.pool.cells (num2 s 8 - 1) 0))
  slots_made = count_made s (num2 s 6) room (num2 s 8) w.pool.cells its
