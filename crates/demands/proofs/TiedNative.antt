-- Demand 1 for the calls on native cells, for all slots at once, and for what both kinds of calls for C share, from their contracts: a line for each. Assumes nothing.
use Prim.Native.Nat.{ℕ, ◌/◌, ◌≤◌}
use mathlib.Core.Path.{refl}
use mathlib.Core.List.{List, ◌∷◌}
use lib.ListN.{length, replicate}
use lib.Dec.{leb}
use denote.Ref.{Bor, MutBor}
use Rattle.std.specs.Prelude.{Result}
use Rattle.reads.specs.declared.Refusal.{Refusal}
use Rattle.reads.specs.Promise.{answered}
use Rattle.reads.specs.Answer.{Answer, mapped, require}
use Rattle.reads.specs.Tables.{after}
use Rattle.pool.specs.Pool.{Pool, Whole, slots}
use Rattle.pool.specs.declared.Head.{Head}
use Rattle.pool.specs.Readings.{head_of}
use Rattle.pool.proofs.Room.{Bytes}
use Rattle.slot.specs.Slots.{tag_of}
use Rattle.checks.specs.Checks.{pool}
use Rattle.handed.specs.Handed.{handed, lookup}
use Rattle.values.specs.Lookups.{literal_at, text_at, span_at}
use Rattle.lookups.specs.Lookups.{class_at, module_at, package_at, method_type_at, named_at, member_at, handle_at, dynamic_at, invoke_dynamic_at}
use Rattle.reach.specs.Reach.{◌∈◌}
use Rattle.dependants.specs.Dependants.{dependants}
use Rattle.listing.specs.Listing.{first_of, second_of, column, listed_at, listed, room_of}
use Rattle.listing.proofs.list_slots.Reads as list_slots_reads
use Rattle.class.specs.declared.Class.{Class}
use Rattle.byte_tables.specs.Enough.{enough_for}
use Rattle.byte_tables.proofs.cells_for.Reads as cells_for_reads
use Rattle.byte_pools.proofs.pool_bytes.Reads as pool_bytes_reads
use Rattle.questions.specs.declared.Question.{Question}
use Rattle.questions.specs.declared.Reply.{Reply}
use Rattle.questions.specs.Replies.{reply_at, on_pool}
use Rattle.questions.proofs.answer.Reads as answer_reads
use Rattle.numbers.specs.Numbers.{pool_words, slot_of, named_of, member_of, handle_of, dynamic_of, literal_of, text_of, part_of, list_words, class_numbers}
use Rattle.numbers.proofs.pool_numbers.Reads as pool_numbers_reads
use Rattle.numbers.proofs.slot_answer.Reads as slot_answer_reads
use Rattle.numbers.proofs.named_answer.Reads as named_answer_reads
use Rattle.numbers.proofs.member_answer.Reads as member_answer_reads
use Rattle.numbers.proofs.handle_answer.Reads as handle_answer_reads
use Rattle.numbers.proofs.dynamic_answer.Reads as dynamic_answer_reads
use Rattle.numbers.proofs.literal_answer.Reads as literal_answer_reads
use Rattle.numbers.proofs.text_answer.Reads as text_answer_reads
use Rattle.numbers.proofs.part_answer.Reads as part_answer_reads
use Rattle.numbers.proofs.list_numbers.Reads as list_numbers_reads
use Rattle.numbers.proofs.listing_numbers.Reads as listing_numbers_reads
use Rattle.numbers.proofs.class_numbers.Reads as class_numbers_reads
use Rattle.loader.proofs.luo_pool32.Reads as luo_pool32_reads
use Rattle.loader.proofs.luo_slots32.Reads as luo_slots32_reads
use Rattle.loader.proofs.luo_dependants32.Reads as luo_dependants32_reads
use Rattle.loader.proofs.luo_class_name32.Reads as luo_class_name32_reads
use Rattle.loader.proofs.luo_module_name32.Reads as luo_module_name32_reads
use Rattle.loader.proofs.luo_package_name32.Reads as luo_package_name32_reads
use Rattle.loader.proofs.luo_method_type32.Reads as luo_method_type32_reads
use Rattle.loader.proofs.luo_name_and_type32.Reads as luo_name_and_type32_reads
use Rattle.loader.proofs.luo_member_reference32.Reads as luo_member_reference32_reads
use Rattle.loader.proofs.luo_method_handle32.Reads as luo_method_handle32_reads
use Rattle.loader.proofs.luo_dynamic32.Reads as luo_dynamic32_reads
use Rattle.loader.proofs.luo_invoke_dynamic32.Reads as luo_invoke_dynamic32_reads
use Rattle.loader.proofs.luo_literal32.Reads as luo_literal32_reads
use Rattle.loader.proofs.luo_text32.Reads as luo_text32_reads
use Rattle.loader.proofs.luo_utf8_part32.Reads as luo_utf8_part32_reads
use Rattle.demands.specs.Calls.{Among, Equals, Only, Writes, FillsBytes, Tells, TellsOnly, TellsCells}
use Rattle.demands.specs.Tellings.{in_pool, in_list, in_slot, in_named, in_member, in_handle, in_dynamic, in_literal, in_text, in_part}
use Rattle.demands.specs.Numbers.{of_pool, of_handed, of_dependants}
use Rattle.demands.specs.Places.{OfPool, OfLookup}
use Rattle.demands.proofs.Only.{both, lies, done, then, need}
use Rattle.demands.proofs.Kept.{gives, writes_part, fills_bytes, tells_only, tells_part, tells_cells}
use Rattle.demands.proofs.Numbered.{pool_only}
use Rattle.demands.proofs.NumberedLookups.{lookup_only, literal_looked, text_looked, span_looked, name_looked, named_looked, member_looked, handle_looked, indexed_looked, dependants_only, reply_numbered}
use Rattle.demands.proofs.Places.{pool_placed}

abbrev cells_of : Whole → List ℕ
cells_of w = w.pool.cells

-- ---- the pool

module _ (file : Bor (List ℕ)) (table : MutBor (List ℕ)) where
  pub loader-luo_pool32 : (κs : _) → let room = length table.now in TellsCells (luo_pool32_reads.Learnt κs (file, (table, tt))) in_pool head_of (pool file.now room) (λ e. e.1.0.now) cells_of room (OfPool file.now room)
  loader-luo_pool32 κs = tells_cells in_pool (λ nr byte h. (lies 1 18 of_pool refl nr h.0).0) head_of cells_of _ _ (λ z e h. h) (both (pool_only file.now _) (pool_placed file.now _))

  pub byte_pools-pool_bytes : (κs : _) → let len = length table.now in FillsBytes (pool_bytes_reads.Learnt κs (file, (table, tt))) answered head_of (pool file.now (len / 4)) (λ e. e.1.0.now) cells_of len (OfPool file.now (len / 4))
  byte_pools-pool_bytes κs = fills_bytes head_of cells_of _ _ (λ z e h. h) (both (pool_only file.now _) (pool_placed file.now _))

pub byte_tables-cells_for : (κs : _) (file : Bor (List ℕ)) → Equals (cells_for_reads.Learnt κs (file, tt)) (enough_for file.now)
byte_tables-cells_for κs file = gives (λ z e h. h.0)

-- ---- all slots: the refusals of a handed table, and 13

-- three lent lists
pub record Lists : Type 0 where
  pub tags : List ℕ
  pub firsts : List ℕ
  pub seconds : List ℕ

abbrev pub zeros : ℕ → ℕ → ℕ → Lists
zeros x y z = record { tags = replicate x 0; firsts = replicate y 0; seconds = replicate z 0 }

-- what stands in them after a call that answers so
abbrev pub lists_after : ℕ → ℕ → ℕ → Answer Pool → Lists
lists_after x y z o = record { tags = after 0 (column tag_of) x o; firsts = after 0 (column first_of) y o; seconds = after 0 (column second_of) z o }

listed_only : (s : List ℕ) → Bytes s → (table : List ℕ) (room : ℕ) → Only of_dependants (listed s table room)
unfolding listed_at
listed_only s b table room = lookup_only s b table (listed_at room) refl (λ p. then (require (leb (slots p) room) 13 (slots p)) _ (need (leb (slots p) room) 13 (slots p) refl) (λ _ _. done _))

module _ (file : Bor (List ℕ)) (b : Bytes file.now) (table : Bor (List ℕ)) (tags firsts seconds : MutBor (List ℕ)) where
  abbrev asked : Bor (List ℕ) × (Bor (List ℕ) × (MutBor (List ℕ) × (MutBor (List ℕ) × (MutBor (List ℕ) × Unit {0}))))
  asked = (file, (table, (tags, (firsts, (seconds, tt)))))

  abbrev left_in : Bor (List ℕ) × (Bor (List ℕ) × (MutBor (List ℕ) × (MutBor (List ℕ) × (MutBor (List ℕ) × Unit {0})))) → Lists
  left_in e = let t = e.1.1 in record { tags = t.0.now; firsts = t.1.0.now; seconds = t.1.1.0.now }

  abbrev all : Answer Pool
  all = listed file.now table.now (room_of tags.now firsts.now seconds.now)

  abbrev into : Answer Pool → Lists
  into = lists_after (length tags.now) (length firsts.now) (length seconds.now)

  abbrev none : Lists
  none = zeros (length tags.now) (length firsts.now) (length seconds.now)

  pub listing-list_slots : (κs : _) → Writes (list_slots_reads.Learnt κs asked) answered (mapped slots all) left_in (into all) none (Among of_dependants)
  listing-list_slots κs = writes_part slots into all (λ _ _. refl) (λ z e h. (h.0, λ i. record { tags = h.1.0 i; firsts = h.1.1.0 i; seconds = h.1.1.1 i })) (listed_only file.now b table.now _)

  pub loader-luo_slots32 : (κs : _) → Tells (luo_slots32_reads.Learnt κs asked) in_list (mapped slots all) left_in (into all) none (Among of_dependants)
  loader-luo_slots32 κs = tells_part in_list (λ nr byte h. (lies 1 18 of_dependants refl nr h).0) slots into all (λ _ _. refl)
      (λ z e h. (h.0, λ i. record { tags = h.1.0 i; firsts = h.1.1.0 i; seconds = h.1.1.1 i })) (listed_only file.now b table.now _)

-- ---- lookups and dependants

module _ (file : Bor (List ℕ)) (b : Bytes file.now) (table : Bor (List ℕ)) (n : ℕ) where
  from_1 : (nr byte : ℕ) → OfLookup file.now table.now n nr byte → 1 ≤ nr
  from_1 nr byte h = (lies 1 18 of_handed refl nr h.0).0

  pub loader-luo_class_name32 : (κs : _) → TellsOnly (luo_class_name32_reads.Learnt κs (file, (table, (n, tt)))) in_slot (lookup file.now table.now (class_at n)) (OfLookup file.now table.now n)
  loader-luo_class_name32 κs = tells_only in_slot from_1 (λ z e h. h) (name_looked file.now b table.now n _)

  pub loader-luo_module_name32 : (κs : _) → TellsOnly (luo_module_name32_reads.Learnt κs (file, (table, (n, tt)))) in_slot (lookup file.now table.now (module_at n)) (OfLookup file.now table.now n)
  loader-luo_module_name32 κs = tells_only in_slot from_1 (λ z e h. h) (name_looked file.now b table.now n _)

  pub loader-luo_package_name32 : (κs : _) → TellsOnly (luo_package_name32_reads.Learnt κs (file, (table, (n, tt)))) in_slot (lookup file.now table.now (package_at n)) (OfLookup file.now table.now n)
  loader-luo_package_name32 κs = tells_only in_slot from_1 (λ z e h. h) (name_looked file.now b table.now n _)

  pub loader-luo_method_type32 : (κs : _) → TellsOnly (luo_method_type32_reads.Learnt κs (file, (table, (n, tt)))) in_slot (lookup file.now table.now (method_type_at n)) (OfLookup file.now table.now n)
  loader-luo_method_type32 κs = tells_only in_slot from_1 (λ z e h. h) (name_looked file.now b table.now n _)

  pub loader-luo_name_and_type32 : (κs : _) → TellsOnly (luo_name_and_type32_reads.Learnt κs (file, (table, (n, tt)))) in_named (lookup file.now table.now (named_at n)) (OfLookup file.now table.now n)
  loader-luo_name_and_type32 κs = tells_only in_named from_1 (λ z e h. h) (named_looked file.now b table.now n)

  pub loader-luo_member_reference32 : (κs : _) → TellsOnly (luo_member_reference32_reads.Learnt κs (file, (table, (n, tt)))) in_member (lookup file.now table.now (member_at n)) (OfLookup file.now table.now n)
  loader-luo_member_reference32 κs = tells_only in_member from_1 (λ z e h. h) (member_looked file.now b table.now n)

  pub loader-luo_method_handle32 : (κs : _) → TellsOnly (luo_method_handle32_reads.Learnt κs (file, (table, (n, tt)))) in_handle (lookup file.now table.now (handle_at n)) (OfLookup file.now table.now n)
  loader-luo_method_handle32 κs = tells_only in_handle from_1 (λ z e h. h) (handle_looked file.now b table.now n)

  pub loader-luo_dynamic32 : (κs : _) → TellsOnly (luo_dynamic32_reads.Learnt κs (file, (table, (n, tt)))) in_dynamic (lookup file.now table.now (dynamic_at n)) (OfLookup file.now table.now n)
  loader-luo_dynamic32 κs = tells_only in_dynamic from_1 (λ z e h. h) (indexed_looked file.now b table.now n _)

  pub loader-luo_invoke_dynamic32 : (κs : _) → TellsOnly (luo_invoke_dynamic32_reads.Learnt κs (file, (table, (n, tt)))) in_dynamic (lookup file.now table.now (invoke_dynamic_at n)) (OfLookup file.now table.now n)
  loader-luo_invoke_dynamic32 κs = tells_only in_dynamic from_1 (λ z e h. h) (indexed_looked file.now b table.now n _)

  pub loader-luo_literal32 : (κs : _) → TellsOnly (luo_literal32_reads.Learnt κs (file, (table, (n, tt)))) in_literal (lookup file.now table.now (literal_at n)) (OfLookup file.now table.now n)
  loader-luo_literal32 κs = tells_only in_literal from_1 (λ z e h. h) (literal_looked file.now b table.now n)

  pub loader-luo_text32 : (κs : _) → TellsOnly (luo_text32_reads.Learnt κs (file, (table, (n, tt)))) in_text (lookup file.now table.now (text_at n)) (OfLookup file.now table.now n)
  loader-luo_text32 κs = tells_only in_text from_1 (λ z e h. h) (text_looked file.now b table.now n)

  pub loader-luo_utf8_part32 : (κs : _) → TellsOnly (luo_utf8_part32_reads.Learnt κs (file, (table, (n, tt)))) in_part (lookup file.now table.now (span_at n)) (OfLookup file.now table.now n)
  loader-luo_utf8_part32 κs = tells_only in_part from_1 (λ z e h. h) (span_looked file.now b table.now n)

  -- every lookup as one question, in numbers: 0, or the refusal's
  pub questions-answer : (κs : _) (q : Question) → Equals (answer_reads.Learnt κs (q, (file, (table, (n, tt))))) (on_pool (reply_at q n) (handed file.now table.now))
  questions-answer κs q = gives (λ z e h. h)

  pub questions-answer_numbered : (κs : _) (q : Question) (z : Reply) (e : _) → answer_reads.Learnt κs (q, (file, (table, (n, tt)))) z e → z.refusal ∈ 0 ∷ of_handed
  questions-answer_numbered κs q z e h = rw h (reply_numbered file.now b table.now q n)

  pub loader-luo_dependants32 : (κs : _) (list : MutBor (List ℕ)) → let room = length list.now in
      TellsCells (luo_dependants32_reads.Learnt κs (file, (table, (n, (list, tt))))) in_list length (dependants file.now table.now n room) (λ e. e.1.1.1.0.now) (λ xs. xs) room (Among of_dependants)
  loader-luo_dependants32 κs list = tells_cells in_list (λ nr byte h. (lies 1 18 of_dependants refl nr h).0) length (λ xs. xs) _ _ (λ z e h. h) (dependants_only file.now b table.now n _)

-- ---- structs of numbers

pub numbers-pool_numbers : (κs : _) (answer : Result Head Refusal) → Equals (pool_numbers_reads.Learnt κs (answer, tt)) (pool_words (answered.read answer))
numbers-pool_numbers κs answer = gives (λ z e h. h)

pub numbers-slot_answer : (κs : _) (r : Reply) → Equals (slot_answer_reads.Learnt κs (r, tt)) (slot_of r)
numbers-slot_answer κs r = gives (λ z e h. h)

pub numbers-named_answer : (κs : _) (r : Reply) → Equals (named_answer_reads.Learnt κs (r, tt)) (named_of r)
numbers-named_answer κs r = gives (λ z e h. h)

pub numbers-member_answer : (κs : _) (r : Reply) → Equals (member_answer_reads.Learnt κs (r, tt)) (member_of r)
numbers-member_answer κs r = gives (λ z e h. h)

pub numbers-handle_answer : (κs : _) (r : Reply) → Equals (handle_answer_reads.Learnt κs (r, tt)) (handle_of r)
numbers-handle_answer κs r = gives (λ z e h. h)

pub numbers-dynamic_answer : (κs : _) (r : Reply) → Equals (dynamic_answer_reads.Learnt κs (r, tt)) (dynamic_of r)
numbers-dynamic_answer κs r = gives (λ z e h. h)

pub numbers-literal_answer : (κs : _) (r : Reply) → Equals (literal_answer_reads.Learnt κs (r, tt)) (literal_of r)
numbers-literal_answer κs r = gives (λ z e h. h)

pub numbers-text_answer : (κs : _) (r : Reply) → Equals (text_answer_reads.Learnt κs (r, tt)) (text_of r)
numbers-text_answer κs r = gives (λ z e h. h)

pub numbers-part_answer : (κs : _) (r : Reply) → Equals (part_answer_reads.Learnt κs (r, tt)) (part_of r)
numbers-part_answer κs r = gives (λ z e h. h)

pub numbers-list_numbers : (κs : _) (answer : Result ℕ Refusal) → Equals (list_numbers_reads.Learnt κs (answer, tt)) (list_words (answered.read answer))
numbers-list_numbers κs answer = gives (λ z e h. h)

pub numbers-listing_numbers : (κs : _) (answer : Result ℕ Refusal) → Equals (listing_numbers_reads.Learnt κs (answer, tt)) (list_words (answered.read answer))
numbers-listing_numbers κs answer = gives (λ z e h. h)

pub numbers-class_numbers : (κs : _) (answer : Result Class Refusal) → Equals (class_numbers_reads.Learnt κs (answer, tt)) (class_numbers (answered.read answer))
numbers-class_numbers κs answer = gives (λ z e h. h)
