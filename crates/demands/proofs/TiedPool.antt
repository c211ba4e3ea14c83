-- Demand 1 for the calls on a pool, from their contracts: a line for each. Assumes nothing.
use Prim.Native.Nat.{ℕ}
use mathlib.Core.Path.{refl}
use mathlib.Core.Bool.{Bool}
use mathlib.Core.List.{List, ◌∷◌}
use lib.ListN.{length}
use lib.Dec.{eqb}
use denote.Ref.{Bor, MutBor}
use Rattle.reads.specs.Promise.{answered}
use Rattle.reads.specs.Answer.{mapped, require}
use Rattle.pool.specs.Named.{kind_of}
use Rattle.pool.specs.Rows.{row_of}
use Rattle.pool.specs.Pool.{Pool, Whole, slot_at, header_of, read_pool, slots as slots_of}
use Rattle.pool.specs.Readings.{head_of}
use Rattle.pool.specs.declared.Head.{Head}
use Rattle.pool.proofs.Room.{Bytes}
use Rattle.pool.proofs.Kind.of.Reads as of_reads
use Rattle.pool.proofs.row_of.Reads as row_of_reads
use Rattle.pool.proofs.slot_at.Reads as slot_at_reads
use Rattle.pool.proofs.header_of.Reads as header_of_reads
use Rattle.pool.proofs.read_entries.Reads as read_entries_reads
use Rattle.slot.specs.declared.Grammar.{Grammar}
use Rattle.slot.specs.declared.Pool.{Pool as Lent}
use Rattle.slot.specs.Shown.{shown}
use Rattle.slot.specs.Slots.{cell, tag_of, field, bytes_of, in_range, of_kind as kind_at, text_at, utf8_at, text_of, class_text, typed}
use Rattle.slot.specs.Grammars.{good}
use Rattle.slot.proofs.Pool.of.Reads as pool_reads
use Rattle.slot.proofs.Pool.count.Reads as count_reads
use Rattle.slot.proofs.Pool.cell.Reads as cell_reads
use Rattle.slot.proofs.Pool.tag.Reads as tag_reads
use Rattle.slot.proofs.Pool.field.Reads as field_reads
use Rattle.slot.proofs.Pool.bytes.Reads as bytes_reads
use Rattle.slot.proofs.Pool.check_kind.Reads as check_kind_reads
use Rattle.slot.proofs.Pool.check_utf8.Reads as check_utf8_reads
use Rattle.slot.proofs.Pool.check_text.Reads as check_text_reads
use Rattle.slot.proofs.Pool.check_class_name.Reads as check_class_name_reads
use Rattle.slot.proofs.Pool.check_typed.Reads as check_typed_reads
use Rattle.checks.specs.Checks.{checked, pool}
use Rattle.checks.proofs.check_pool.Reads as check_pool_reads
use Rattle.checks.proofs.read_pool.Reads as read_pool_reads
use Rattle.handed.specs.Handed.{handed, asked}
use Rattle.handed.specs.Walk.{lent}
use Rattle.handed.proofs.same_cell.Reads as same_cell_reads
use Rattle.handed.proofs.check_handed.Reads as check_handed_reads
use Rattle.handed.proofs.pool_of.Reads as pool_of_reads
use Rattle.handed.proofs.check_asked.Reads as check_asked_reads
use Rattle.slot.proofs.Pool.check_range.Reads as check_range_reads
use Rattle.slot.proofs.Pool.check_utf8_index.Reads as check_utf8_index_reads
use Rattle.demands.specs.Calls.{Among, AmongAt, Equals, Hands, Answers, Fills}
use Rattle.demands.specs.Numbers.{of_header, of_slot, of_twelve, of_range, of_kind, of_text, of_name, of_typed, of_asked, of_index, of_checks, of_handed}
use Rattle.demands.specs.Places.{OfEntries, OfPool}
use Rattle.demands.proofs.Only.{both, need_here}
use Rattle.demands.proofs.Kept.{gives, answers, fills}
use Rattle.demands.proofs.Numbered.{header_only, slot_only, read_only, range_at, kind_only_at, text_only_at, any_text_at, name_at, typed_at, checked_only, pool_only}
use Rattle.demands.proofs.NumberedLookups.{head_handed_only, part_handed_only, asked_at}
use Rattle.demands.proofs.NumberedClass.{index_of_at}
use Rattle.demands.proofs.Places.{read_placed, pool_placed}

abbrev cells_of : Whole → List ℕ
cells_of w = w.pool.cells

-- ---- the entries, and the pool

pub pool-of : (κs : _) (tag : ℕ) → Equals (of_reads.Learnt κs (tag, tt)) (kind_of tag)
pool-of κs tag = gives (λ z e h. h)

pub pool-row_of : (κs : _) (tag : ℕ) → Equals (row_of_reads.Learnt κs (tag, tt)) (row_of tag)
pool-row_of κs tag = gives (λ z e h. h)

module _ (file : Bor (List ℕ)) where
  pub pool-header_of : (κs : _) → Answers (header_of_reads.Learnt κs (file, tt)) answered (header_of file.now) (Among of_header)
  pool-header_of κs = answers (λ z e h. h) (header_only file.now)

  pub pool-slot_at : (κs : _) (major room n : ℕ) (owed : Bool) (at : ℕ) → Answers (slot_at_reads.Learnt κs (file, (major, (room, (n, (owed, (at, tt))))))) answered (slot_at file.now major room n owed at) (Among of_slot)
  pool-slot_at κs major room n owed at = answers (λ z e h. h) (slot_only file.now major room n owed at)

  module _ (table : MutBor (List ℕ)) where
    pub pool-read_entries : (κs : _) → let room = length table.now in Fills (read_entries_reads.Learnt κs (file, (table, tt))) answered head_of (read_pool file.now room) (λ e. e.1.0.now) cells_of room (OfEntries file.now room)
    pool-read_entries κs = fills head_of cells_of _ _ (λ z e h. h) (both (read_only file.now _) (read_placed file.now _))

    pub checks-read_pool : (κs : _) → let room = length table.now in Fills (read_pool_reads.Learnt κs (file, (table, tt))) answered head_of (pool file.now room) (λ e. e.1.0.now) cells_of room (OfPool file.now room)
    checks-read_pool κs = fills head_of cells_of _ _ (λ z e h. h) (both (pool_only file.now _) (pool_placed file.now _))

  module _ (table : Bor (List ℕ)) where
    pub handed-check_handed : Bytes file.now → (κs : _) → Answers (check_handed_reads.Learnt κs (file, (table, tt))) answered (mapped head_of (handed file.now table.now)) (Among of_handed)
    handed-check_handed b κs = answers (λ z e h. h) (head_handed_only file.now b table.now)

    pub handed-pool_of : Bytes file.now → (κs : _) → Answers (pool_of_reads.Learnt κs (file, (table, tt))) answered (mapped (lent file table) (handed file.now table.now)) (Among of_handed)
    handed-pool_of b κs = answers (λ z e h. h) (part_handed_only file.now b table.now (lent file table))

    pub slot-of : (κs : _) (head : Bor Head) → Equals {Z = Lent} (pool_reads.Learnt κs (file, (head, (table, tt)))) (record { file = file; major = head.now.major; table = table; slots = head.now.slots })
    slot-of κs head = gives (λ z e h. h)

pub handed-same_cell : (κs : _) (given made i : ℕ) → Answers (same_cell_reads.Learnt κs (given, (made, (i, tt)))) answered (require (eqb given made) 12 i) (AmongAt of_twelve i)
handed-same_cell κs given made i = answers (λ z e h. h) (need_here (eqb given made) 12 i refl)

-- ---- what stands in a slot, and what it must be

module _ (pool : Bor Lent) where
  -- the pool that they are seen as
  abbrev p : Pool
  p = shown pool.now

  pub slot-count : (κs : _) → Equals (count_reads.Learnt κs (pool, tt)) (slots_of p)
  slot-count κs = gives (λ z e h. h)

  pub checks-check_pool : (κs : _) → Answers (check_pool_reads.Learnt κs (pool, tt)) answered (checked p) (Among of_checks)
  checks-check_pool κs = answers (λ z e h. h) (checked_only p)

  pub handed-check_asked : (κs : _) (allowed n : ℕ) → Answers (check_asked_reads.Learnt κs (pool, (allowed, (n, tt)))) answered (asked p allowed n) (AmongAt of_asked n)
  handed-check_asked κs allowed n = answers (λ z e h. h) (asked_at p allowed n)

  module _ (n : ℕ) where
    pub slot-cell : (κs : _) → Equals (cell_reads.Learnt κs (pool, (n, tt))) (cell p n)
    slot-cell κs = gives (λ z e h. h)

    pub slot-tag : (κs : _) → Equals (tag_reads.Learnt κs (pool, (n, tt))) (tag_of p n)
    slot-tag κs = gives (λ z e h. h)

    pub slot-field : (κs : _) (k : ℕ) → Equals (field_reads.Learnt κs (pool, (n, (k, tt)))) (field p n k)
    slot-field κs k = gives (λ z e h. h)

    pub slot-bytes : (κs : _) → Hands (bytes_reads.Learnt κs (pool, (n, tt))) (bytes_of p n)
    slot-bytes κs = gives (λ z e h. h)

  module _ (place m : ℕ) where
    pub slot-check_kind : (κs : _) (allowed : ℕ) → Answers (check_kind_reads.Learnt κs (pool, (place, (allowed, (m, tt))))) answered (kind_at p place allowed m) (AmongAt of_kind place)
    slot-check_kind κs allowed = answers (λ z e h. h) (kind_only_at p place allowed m)

    pub slot-check_utf8 : (κs : _) → Answers (check_utf8_reads.Learnt κs (pool, (place, (m, tt)))) answered (text_at p place m) (AmongAt of_text place)
    slot-check_utf8 κs = answers (λ z e h. h) (text_only_at p place m)

    -- the number of a bad text is the caller's
    pub slot-check_text : (κs : _) (g : Grammar) (nr : ℕ) → Answers (check_text_reads.Learnt κs (pool, (g, (nr, (place, (m, tt)))))) answered (text_of (good g) nr p place m) (AmongAt (nr ∷ of_text) place)
    slot-check_text κs g nr = answers (λ z e h. h) (any_text_at p place (good g) nr m)

    pub slot-check_class_name : (κs : _) → Answers (check_class_name_reads.Learnt κs (pool, (place, (m, tt)))) answered (class_text p place m) (AmongAt of_name place)
    slot-check_class_name κs = answers (λ z e h. h) (name_at p place m)

    pub slot-check_typed : (κs : _) (g : Grammar) → Answers (check_typed_reads.Learnt κs (pool, (g, (place, (m, tt))))) answered (typed (good g) p place m) (AmongAt of_typed place)
    slot-check_typed κs g = answers (λ z e h. h) (typed_at p place (good g) m)

    pub slot-check_range : (κs : _) → Answers (check_range_reads.Learnt κs (pool, (place, (m, tt)))) answered (in_range p place m) (AmongAt of_range place)
    slot-check_range κs = answers (λ z e h. h) (range_at p place m)

    pub slot-check_utf8_index : (κs : _) → Answers (check_utf8_index_reads.Learnt κs (pool, (place, (m, tt)))) answered (utf8_at p place m) (AmongAt of_index place)
    slot-check_utf8_index κs = answers (λ z e h. h) (index_of_at p place m)
