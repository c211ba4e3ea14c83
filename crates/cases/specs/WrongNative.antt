-- Worked cases: an answer and two wrong ones for each call on native cells, and for what these and the calls on bytes share. Assumes nothing.
use Rattle.std.specs.Prelude.{ℕ, List, [], ◌∷◌, ◌++◌, length}
use Rattle.reads.specs.Answer.{Answer, accept, refuse, mapped}
use Rattle.reads.specs.Tables.{after}
use Rattle.pool.specs.declared.Head.{Head}
use Rattle.pool.specs.Pool.{slots}
use Rattle.pool.specs.Readings.{head_of}
use Rattle.slot.specs.Slots.{tag_of}
use Rattle.checks.specs.Checks.{pool}
use Rattle.handed.specs.Handed.{handed, lookup}
use Rattle.values.specs.Lookups.{literal_at, text_at, span_at}
use Rattle.lookups.specs.Lookups.{class_at, module_at, package_at, method_type_at, named_at, member_at, handle_at, dynamic_at, invoke_dynamic_at}
use Rattle.dependants.specs.Dependants.{dependants}
use Rattle.listing.specs.Listing.{first_of, second_of, column, listed}
use Rattle.cells.specs.Cells.{as_bytes}
use Rattle.byte_tables.specs.Enough.{enough_for}
use Rattle.questions.specs.declared.Reply.{Reply}
use Rattle.questions.specs.declared.Question.TheVariants.{Literal}
use Rattle.questions.specs.Replies.{reply_at, on_pool, literal_numbers}
use Rattle.numbers.specs.Numbers as c
use Rattle.numbers.specs.declared.LuoListAnswer.{LuoListAnswer}
use Rattle.cases.specs.Cases.{file_e, file_m, file_o, table_o}
use Rattle.cases.specs.Wrongs.{Row, row, reading, texts, pools, asked_of_tables, num, answer, file_c, file_q, file_r, file_s, file_t, table_t}
use Rattle.cases.specs.WrongClass.{classes}
use Rattle.cases.specs.WrongBytes.{on_bytes, from_c, table_e, reply, slot_told, slot_is, named_told, named_is, member_told, member_is, handle_told, handle_is, dynamic_told, dynamic_is, literal_told, literal_is, text_told, part_told, pool_told, list_of, no_pool, a_pool}

-- ---- all slots of file O, into lists of so many cells

abbrev Lists : Type 0
Lists = Answer ℕ × List ℕ × List ℕ × List ℕ

abbrev all_of : ℕ → Lists
all_of n =
    let x = listed file_o table_o n in
    (mapped slots x, after 0 (column tag_of) n x, after 0 (column first_of) n x, after 0 (column second_of) n x)

abbrev lists_of : Lists → List ℕ
lists_of o = answer num o.0 ++ o.1 ++ o.2 ++ o.3

-- the same from C
abbrev told_of : LuoListAnswer × List ℕ × List ℕ × List ℕ → List ℕ
told_of o = o.0.refusal ∷ o.0.place ∷ o.0.count ∷ [] ++ o.1 ++ o.2 ++ o.3

abbrev told : Lists → LuoListAnswer × List ℕ × List ℕ × List ℕ
told o = (c.list_numbers o.0, o.1, o.2, o.3)

abbrev tags_o : List ℕ
tags_o = 0 ∷ 15 ∷ 9 ∷ 7 ∷ 12 ∷ 1 ∷ 1 ∷ []

abbrev firsts_o : List ℕ
firsts_o = 0 ∷ 1 ∷ 3 ∷ 5 ∷ 5 ∷ 30 ∷ 34 ∷ []

abbrev seconds_o : List ℕ
seconds_o = 0 ∷ 2 ∷ 4 ∷ 0 ∷ 6 ∷ 1 ∷ 1 ∷ []

abbrev six : List ℕ
six = 0 ∷ 0 ∷ 0 ∷ 0 ∷ 0 ∷ 0 ∷ []

-- ---- a reply of which each number is another

abbrev r : Reply
r = record { refusal = 0; place = 0; one = 1; two = 2; three = 3; four = 4; five = 5; bits = 6; start = 7; length = 8 }

abbrev head_told : Head → List ℕ
head_told h = h.slots ∷ h.minor ∷ h.major ∷ h.next ∷ []

-- a head of so many slots
abbrev a_head : ℕ → Head
a_head n = record { slots = n; minor = 0; major = 52; next = 17 }

abbrev count_of : LuoListAnswer → List ℕ
count_of o = o.refusal ∷ o.place ∷ o.count ∷ []

abbrev counted : ℕ → LuoListAnswer
counted n = record { refusal = 0; place = 0; count = n }

-- ten bytes that claim 65,535 slots
abbrev hostile : List ℕ
hostile = 0xCA ∷ 0xFE ∷ 0xBA ∷ 0xBE ∷ 0 ∷ 0 ∷ 0 ∷ 52 ∷ 0xFF ∷ 0xFF ∷ []

abbrev shared : List Row
shared =
    row num (enough_for file_e) 4 5 3  -- cells_for
    ∷ row num (enough_for hostile) 3 65536 65535  -- cells_for, whatever is claimed
    ∷ row (λ (o : Answer Head × List ℕ). answer head_told o.0 ++ o.1) (mapped head_of (pool file_e 3), as_bytes 12 (after 0 (λ w. w.pool.cells) 3 (pool file_e 3)))
    (accept (a_head 3), as_bytes 12 table_e) (accept (a_head 3), as_bytes 12 []) (refuse 5 2, as_bytes 12 [])  -- pool_bytes
    ∷ row reply (on_pool (reply_at Literal 1) (handed file_c (0 ∷ 10 ∷ []))) (literal_numbers 3 0xFFFFFFFF) (literal_numbers 4 0xFFFFFFFF) (literal_numbers 3 1)  -- answer
    ∷ row lists_of (all_of 7) (accept 7, tags_o, firsts_o, seconds_o) (accept 7, tags_o, seconds_o, firsts_o) (refuse 13 7, [], [], [])  -- list_slots
    ∷ row lists_of (all_of 6) (refuse 13 7, six, six, six) (refuse 13 6, six, six, six) (accept 6, six, six, six)  -- list_slots, no room
    ∷ row (λ o. pool_told (o, [])) (c.pool_words (accept (a_head 3))) (a_pool 3) (a_pool 2) (no_pool 3 0)  -- pool_numbers
    ∷ row count_of (c.list_words (accept 4)) (counted 4) (counted 5) (record { refusal = 4; place = 0; count = 0 })  -- list_numbers
    ∷ row count_of (c.list_words (refuse 13 7)) (record { refusal = 13; place = 7; count = 0 }) (counted 7) (record { refusal = 13; place = 7; count = 7 })  -- listing_numbers
    ∷ row slot_told (c.slot_of r) (slot_is 0 0 1) (slot_is 0 0 2) (slot_is 1 0 0)  -- slot_answer
    ∷ row named_told (c.named_of r) (named_is 0 0 1 2) (named_is 0 0 2 1) (named_is 1 2 0 0)  -- named_answer
    ∷ row member_told (c.member_of r) (record { refusal = 0; place = 0; tag = 1; class_name = 2; name = 3; descriptor = 4 }) (member_is 1 2) (member_is 2 1)  -- member_answer
    ∷ row handle_told (c.handle_of r) (record { refusal = 0; place = 0; kind = 1; tag = 2; class_name = 3; name = 4; descriptor = 5 }) (handle_is 1 2) (handle_is 2 1)  -- handle_answer
    ∷ row dynamic_told (c.dynamic_of r) (dynamic_is 1 2 3) (dynamic_is 1 3 2) (dynamic_is 2 3 4)  -- dynamic_answer
    ∷ row literal_told (c.literal_of r) (literal_is 1 6) (literal_is 6 1) (literal_is 1 2)  -- literal_answer
    ∷ row text_told (c.text_of r) (record { refusal = 0; place = 0; text = 1 }) (record { refusal = 0; place = 0; text = 0 }) (record { refusal = 1; place = 0; text = 0 })  -- text_answer
    ∷ row part_told (c.part_of r) (record { refusal = 0; place = 0; start = 7; length = 8 }) (record { refusal = 0; place = 0; start = 8; length = 7 }) (record { refusal = 0; place = 0; start = 7; length = 1 })  -- part_answer
    ∷ []

abbrev native : List Row
native =
    row pool_told (c.pool_numbers (mapped head_of (pool file_e 4)), after 0 (λ w. w.pool.cells) 4 (pool file_e 4)) (a_pool 3, table_e ++ 0 ∷ []) (a_pool 3, six) (no_pool 8 1, 0 ∷ 0 ∷ 0 ∷ 0 ∷ [])  -- luo_pool32
    ∷ row slot_told (c.slot_numbers (lookup file_e table_e (class_at 1))) (slot_is 0 0 2) (slot_is 0 0 1) (slot_is 8 1 0)  -- luo_class_name32
    ∷ row slot_told (c.slot_numbers (lookup file_q (0 ∷ 10 ∷ 13 ∷ 17 ∷ 20 ∷ []) (module_at 1))) (slot_is 0 0 2) (slot_is 0 0 1) (slot_is 8 1 0)  -- luo_module_name32
    ∷ row slot_told (c.slot_numbers (lookup file_q (0 ∷ 10 ∷ 13 ∷ 17 ∷ 20 ∷ []) (package_at 3))) (slot_is 0 0 4) (slot_is 0 0 3) (slot_is 8 3 0)  -- luo_package_name32
    ∷ row slot_told (c.slot_numbers (lookup file_r table_e (method_type_at 1))) (slot_is 0 0 2) (slot_is 0 0 1) (slot_is 11 1 0)  -- luo_method_type32
    ∷ row named_told (c.named_numbers (lookup file_s (0 ∷ 10 ∷ 15 ∷ 19 ∷ []) (named_at 1))) (named_is 9 1 0 0) (named_is 0 0 2 3) (named_is 9 1 2 3)  -- luo_name_and_type32
    ∷ row member_told (c.member_numbers (lookup file_o table_o (member_at 2))) (member_is 9 5) (member_is 10 5) (member_is 9 3)  -- luo_member_reference32
    ∷ row handle_told (c.handle_numbers (lookup file_o table_o (handle_at 1))) (handle_is 1 9) (handle_is 9 1) (handle_is 2 9)  -- luo_method_handle32
    ∷ row dynamic_told (c.dynamic_numbers (lookup file_t table_t (dynamic_at 1))) (dynamic_is 7 3 4) (dynamic_is 2 3 4) (dynamic_is 7 4 3)  -- luo_dynamic32
    ∷ row dynamic_told (c.dynamic_numbers (lookup file_t table_t (invoke_dynamic_at 5))) (dynamic_is 9 3 7) (dynamic_is 7 3 4) (dynamic_is 9 3 4)  -- luo_invoke_dynamic32
    ∷ row literal_told (c.literal_numbers (lookup file_c (0 ∷ 10 ∷ []) (literal_at 1))) (literal_is 3 0xFFFFFFFF) (literal_is 3 1) (literal_is 4 0xFFFFFFFF)  -- luo_literal32
    ∷ row text_told (c.text_numbers (lookup file_m table_e (text_at 2))) (record { refusal = 0; place = 0; text = 0 }) (record { refusal = 0; place = 0; text = 1 }) (record { refusal = 9; place = 2; text = 0 })  -- luo_text32
    ∷ row part_told (c.part_numbers (lookup file_e table_e (span_at 2))) (record { refusal = 0; place = 0; start = 16; length = 1 }) (record { refusal = 0; place = 0; start = 14; length = 3 }) (record { refusal = 0; place = 0; start = 16; length = 0 })  -- luo_utf8_part32
    ∷ row list_of (c.list_numbers (mapped length (dependants file_o table_o 5 5)), after 0 (λ xs. xs) 5 (dependants file_o table_o 5 5)) (counted 4, 1 ∷ 2 ∷ 3 ∷ 4 ∷ 0 ∷ []) (counted 4, 4 ∷ 3 ∷ 2 ∷ 1 ∷ 0 ∷ []) (counted 0, 0 ∷ 0 ∷ 0 ∷ 0 ∷ 0 ∷ [])  -- luo_dependants32
    ∷ row told_of (told (all_of 7)) (counted 7, tags_o, firsts_o, seconds_o) (counted 7, tags_o, seconds_o, firsts_o) (counted 6, tags_o, firsts_o, seconds_o)  -- luo_slots32
    ∷ []

-- all of them
abbrev pub wrongs : List Row
wrongs = reading ++ texts ++ pools ++ asked_of_tables ++ classes ++ on_bytes ++ from_c ++ shared ++ native
