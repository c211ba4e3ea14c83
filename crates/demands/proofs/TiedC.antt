-- Demand 1 for the calls for C and what they are made of, from their contracts: a line for each. Assumes nothing.
use Prim.Native.Nat.{ℕ, ◌/◌, ◌≤◌}
use mathlib.Core.Path.{refl}
use mathlib.Core.List.{List, ◌∷◌}
use lib.ListN.{length, replicate}
use denote.Ref.{Bor, MutBor}
use Rattle.reads.specs.Promise.{answered}
use Rattle.reads.specs.Answer.{Answer, mapped}
use Rattle.reads.specs.Tables.{after}
use Rattle.pool.specs.Pool.{Whole, read_pool}
use Rattle.pool.specs.Readings.{head_of}
use Rattle.pool.proofs.Room.{Bytes}
use Rattle.checks.specs.Checks.{pool}
use Rattle.handed.specs.Handed.{handed, lookup}
use Rattle.values.specs.Lookups.{literal_at, text_at, span_at}
use Rattle.lookups.specs.Lookups.{class_at, module_at, package_at, method_type_at, named_at, member_at, handle_at, dynamic_at, invoke_dynamic_at}
use Rattle.reach.specs.Reach.{◌∈◌}
use Rattle.dependants.specs.Dependants.{dependants}
use Rattle.class.specs.Readings.{class_of}
use Rattle.cells.specs.Cells.{cells_in}
use Rattle.byte_tables.specs.Afresh.{afresh, taken}
use Rattle.byte_tables.proofs.Gate.{none_taken}
use Rattle.byte_tables.proofs.check_afresh.Reads as check_afresh_reads
use Rattle.questions.specs.declared.Question.{Question}
use Rattle.questions.specs.declared.Reply.{Reply}
use Rattle.questions.specs.Replies.{reply_at, on_pool}
use Rattle.questions.proofs.ask.Reads as ask_reads
use Rattle.byte_dependants.proofs.list_dependants.Reads as list_dependants_reads
use Rattle.loader.proofs.luo_entries.Reads as luo_entries_reads
use Rattle.loader.proofs.luo_pool.Reads as luo_pool_reads
use Rattle.loader.proofs.luo_dependants.Reads as luo_dependants_reads
use Rattle.loader.proofs.luo_class.Reads as luo_class_reads
use Rattle.loader.proofs.luo_class_name.Reads as luo_class_name_reads
use Rattle.loader.proofs.luo_module_name.Reads as luo_module_name_reads
use Rattle.loader.proofs.luo_package_name.Reads as luo_package_name_reads
use Rattle.loader.proofs.luo_method_type.Reads as luo_method_type_reads
use Rattle.loader.proofs.luo_name_and_type.Reads as luo_name_and_type_reads
use Rattle.loader.proofs.luo_member_reference.Reads as luo_member_reference_reads
use Rattle.loader.proofs.luo_method_handle.Reads as luo_method_handle_reads
use Rattle.loader.proofs.luo_dynamic.Reads as luo_dynamic_reads
use Rattle.loader.proofs.luo_invoke_dynamic.Reads as luo_invoke_dynamic_reads
use Rattle.loader.proofs.luo_literal.Reads as luo_literal_reads
use Rattle.loader.proofs.luo_text.Reads as luo_text_reads
use Rattle.loader.proofs.luo_utf8_part.Reads as luo_utf8_part_reads
use Rattle.demands.specs.Calls.{Among, Equals, Writes, FillsBytes, Tells, TellsOnly, TellsCells, TellsBytes}
use Rattle.demands.specs.Tellings.{in_pool, in_class, in_list, in_slot, in_named, in_member, in_handle, in_dynamic, in_literal, in_text, in_part}
use Rattle.demands.specs.Lent.{file_into, no_file}
use Rattle.demands.specs.Numbers.{of_entries, of_afresh, of_pool, of_handed, of_dependants, of_file}
use Rattle.demands.specs.Places.{OfEntries, OfPool, OfLookup, OfFile}
use Rattle.demands.proofs.Only.{both, lies}
use Rattle.demands.proofs.Kept.{gives, writes, fills_bytes, tells_only, tells_part, tells_cells, tells_bytes}
use Rattle.demands.proofs.Numbered.{read_only, pool_only}
use Rattle.demands.proofs.NumberedLookups.{afresh_only, literal_looked, text_looked, span_looked, name_looked, named_looked, member_looked, handle_looked, indexed_looked, dependants_only, reply_numbered}
use Rattle.demands.proofs.NumberedClass.{file_only}
use Rattle.demands.proofs.Places.{read_placed, pool_placed}
use Rattle.demands.proofs.PlacesClass.{class_placed}
use Rattle.demands.proofs.TiedClass.{Slices, lent_in, s, room, len, c, x}

abbrev cells_of : Whole → List ℕ
cells_of w = w.pool.cells

-- ---- the pool and the class

module _ (file : Bor (List ℕ)) (table : MutBor (List ℕ)) where
  pub loader-luo_entries : (κs : _) → let room = length table.now in TellsCells (luo_entries_reads.Learnt κs (file, (table, tt))) in_pool head_of (read_pool file.now room) (λ e. e.1.0.now) cells_of room (OfEntries file.now room)
  loader-luo_entries κs = tells_cells in_pool (λ nr byte h. (lies 1 18 of_entries refl nr h.0).0) head_of cells_of _ _ (λ z e h. h) (both (read_only file.now _) (read_placed file.now _))

  pub loader-luo_pool : (κs : _) → let len = length table.now in TellsBytes (luo_pool_reads.Learnt κs (file, (table, tt))) in_pool head_of (pool file.now (len / 4)) (λ e. e.1.0.now) cells_of len (OfPool file.now (len / 4))
  loader-luo_pool κs = tells_bytes in_pool (λ nr byte h. (lies 1 18 of_pool refl nr h.0).0) head_of cells_of _ _ (λ z e h. h) (both (pool_only file.now _) (pool_placed file.now _))

pub loader-luo_class : (κs : _) (a : Slices (Unit {0})) → Tells (luo_class_reads.Learnt κs a) in_class (mapped class_of (x a)) lent_in (file_into (room a) (len a) (c a) (x a)) (no_file (room a) (len a) (c a)) (OfFile (s a) (room a))
loader-luo_class κs a =
    tells_part in_class (λ nr byte h. (lies 1 18 of_file refl nr h.0).0) class_of (file_into (room a) (len a) (c a)) (x a) (λ _ _. refl)
    (λ z e h. (h.0, λ i. record { cells = h.1.0 i; interfaces = h.1.1.0 i; columns = h.1.1.1 i })) (both (file_only (s a) _) (class_placed (s a) _))

-- ---- the lookups: every one is a question

module _ (file : Bor (List ℕ)) (b : Bytes file.now) (table : Bor (List ℕ)) (n : ℕ) where
  -- the cells that the table's bytes stand for
  abbrev cells : List ℕ
  cells = cells_in table.now

  from_1 : (nr byte : ℕ) → OfLookup file.now cells n nr byte → 1 ≤ nr
  from_1 nr byte h = (lies 1 18 of_handed refl nr h.0).0

  pub loader-luo_class_name : (κs : _) → TellsOnly (luo_class_name_reads.Learnt κs (file, (table, (n, tt)))) in_slot (lookup file.now cells (class_at n)) (OfLookup file.now cells n)
  loader-luo_class_name κs = tells_only in_slot from_1 (λ z e h. h) (name_looked file.now b cells n _)

  pub loader-luo_module_name : (κs : _) → TellsOnly (luo_module_name_reads.Learnt κs (file, (table, (n, tt)))) in_slot (lookup file.now cells (module_at n)) (OfLookup file.now cells n)
  loader-luo_module_name κs = tells_only in_slot from_1 (λ z e h. h) (name_looked file.now b cells n _)

  pub loader-luo_package_name : (κs : _) → TellsOnly (luo_package_name_reads.Learnt κs (file, (table, (n, tt)))) in_slot (lookup file.now cells (package_at n)) (OfLookup file.now cells n)
  loader-luo_package_name κs = tells_only in_slot from_1 (λ z e h. h) (name_looked file.now b cells n _)

  pub loader-luo_method_type : (κs : _) → TellsOnly (luo_method_type_reads.Learnt κs (file, (table, (n, tt)))) in_slot (lookup file.now cells (method_type_at n)) (OfLookup file.now cells n)
  loader-luo_method_type κs = tells_only in_slot from_1 (λ z e h. h) (name_looked file.now b cells n _)

  pub loader-luo_name_and_type : (κs : _) → TellsOnly (luo_name_and_type_reads.Learnt κs (file, (table, (n, tt)))) in_named (lookup file.now cells (named_at n)) (OfLookup file.now cells n)
  loader-luo_name_and_type κs = tells_only in_named from_1 (λ z e h. h) (named_looked file.now b cells n)

  pub loader-luo_member_reference : (κs : _) → TellsOnly (luo_member_reference_reads.Learnt κs (file, (table, (n, tt)))) in_member (lookup file.now cells (member_at n)) (OfLookup file.now cells n)
  loader-luo_member_reference κs = tells_only in_member from_1 (λ z e h. h) (member_looked file.now b cells n)

  pub loader-luo_method_handle : (κs : _) → TellsOnly (luo_method_handle_reads.Learnt κs (file, (table, (n, tt)))) in_handle (lookup file.now cells (handle_at n)) (OfLookup file.now cells n)
  loader-luo_method_handle κs = tells_only in_handle from_1 (λ z e h. h) (handle_looked file.now b cells n)

  pub loader-luo_dynamic : (κs : _) → TellsOnly (luo_dynamic_reads.Learnt κs (file, (table, (n, tt)))) in_dynamic (lookup file.now cells (dynamic_at n)) (OfLookup file.now cells n)
  loader-luo_dynamic κs = tells_only in_dynamic from_1 (λ z e h. h) (indexed_looked file.now b cells n _)

  pub loader-luo_invoke_dynamic : (κs : _) → TellsOnly (luo_invoke_dynamic_reads.Learnt κs (file, (table, (n, tt)))) in_dynamic (lookup file.now cells (invoke_dynamic_at n)) (OfLookup file.now cells n)
  loader-luo_invoke_dynamic κs = tells_only in_dynamic from_1 (λ z e h. h) (indexed_looked file.now b cells n _)

  pub loader-luo_literal : (κs : _) → TellsOnly (luo_literal_reads.Learnt κs (file, (table, (n, tt)))) in_literal (lookup file.now cells (literal_at n)) (OfLookup file.now cells n)
  loader-luo_literal κs = tells_only in_literal from_1 (λ z e h. h) (literal_looked file.now b cells n)

  pub loader-luo_text : (κs : _) → TellsOnly (luo_text_reads.Learnt κs (file, (table, (n, tt)))) in_text (lookup file.now cells (text_at n)) (OfLookup file.now cells n)
  loader-luo_text κs = tells_only in_text from_1 (λ z e h. h) (text_looked file.now b cells n)

  pub loader-luo_utf8_part : (κs : _) → TellsOnly (luo_utf8_part_reads.Learnt κs (file, (table, (n, tt)))) in_part (lookup file.now cells (span_at n)) (OfLookup file.now cells n)
  loader-luo_utf8_part κs = tells_only in_part from_1 (λ z e h. h) (span_looked file.now b cells n)

  pub questions-ask : (κs : _) (q : Question) → Equals (ask_reads.Learnt κs (q, (file, (table, (n, tt))))) (on_pool (reply_at q n) (handed file.now cells))
  questions-ask κs q = gives (λ z e h. h)

  -- its number is 0, or the refusal's
  pub questions-numbered : (κs : _) (q : Question) (z : Reply) (e : _) → ask_reads.Learnt κs (q, (file, (table, (n, tt)))) z e → z.refusal ∈ 0 ∷ of_handed
  questions-numbered κs q z e h = rw h (reply_numbered file.now b cells q n)

  -- ---- the dependants

  module _ (list : MutBor (List ℕ)) where
    abbrev listed : Answer (List ℕ)
    listed = dependants file.now cells n (length list.now / 4)

    pub byte_dependants-list_dependants : (κs : _) → FillsBytes (list_dependants_reads.Learnt κs (file, (table, (n, (list, tt))))) answered length listed (λ e. e.1.1.1.0.now) (λ xs. xs) (length list.now) (Among of_dependants)
    byte_dependants-list_dependants κs = fills_bytes length (λ xs. xs) _ _ (λ z e h. h) (dependants_only file.now b cells n _)

    pub loader-luo_dependants : (κs : _) → TellsBytes (luo_dependants_reads.Learnt κs (file, (table, (n, (list, tt))))) in_list length listed (λ e. e.1.1.1.0.now) (λ xs. xs) (length list.now) (Among of_dependants)
    loader-luo_dependants κs = tells_bytes in_list (λ nr byte h. (lies 1 18 of_dependants refl nr h).0) length (λ xs. xs) _ _ (λ z e h. h) (dependants_only file.now b cells n _)

-- ---- the entries read afresh into the cells that these calls lend

pub byte_tables-check_afresh : (κs : _) (file table : Bor (List ℕ)) (lent : MutBor (List ℕ)) → let room = length lent.now in
    Writes (check_afresh_reads.Learnt κs (file, (table, (lent, tt)))) answered (afresh file.now (cells_in table.now) room) (λ e. e.1.1.0.now) (after 0 cells_of room (taken file.now (cells_in table.now) room)) (replicate room 0) (Among of_afresh)
byte_tables-check_afresh κs file table lent = writes (λ z e h. h) (afresh_only file.now (cells_in table.now) _) (λ nr place e. rw (← none_taken file.now (cells_in table.now) (length lent.now) nr place e) refl)
