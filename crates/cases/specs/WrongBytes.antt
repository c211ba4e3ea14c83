-- Worked cases: an answer and two wrong ones for each call on tables of records, on bytes and from C. Assumes nothing.
use Rattle.std.specs.Prelude.{ℕ, ◌*◌, ◌/◌, List, [], ◌∷◌, ◌++◌, length, take, get_or, replicate}
use Rattle.reads.specs.Answer.{Answer, Check, accept, refuse, mapped}
use Rattle.reads.specs.Tables.{after}
use Rattle.pool.specs.Pool.{read_pool}
use Rattle.pool.specs.Readings.{head_of}
use Rattle.checks.specs.Checks.{pool}
use Rattle.handed.specs.Handed.{handed, lookup}
use Rattle.values.specs.Lookups.{literal_at, text_at, span_at}
use Rattle.lookups.specs.Lookups.{class_at, module_at, package_at, method_type_at, named_at, member_at, handle_at, dynamic_at, invoke_dynamic_at}
use Rattle.dependants.specs.Dependants.{dependants}
use Rattle.class.specs.Columns.{Columns, zeros}
use Rattle.class.specs.Readings.{class_of}
use Rattle.class.specs.declared.Class.{Class}
use Rattle.records.specs.Records.{Numbers, member_of, members_from, none, Parts, attribute_of, attributes_from, no_attribute}
use Rattle.records.specs.declared.Member.{Member}
use Rattle.records.specs.declared.Attribute.{Attribute}
use Rattle.class_records.specs.ClassRecords.{class_with, records_of}
use Rattle.cells.specs.Cells.{cells_in, as_bytes}
use Rattle.byte_tables.specs.Afresh.{afresh, taken}
use Rattle.questions.specs.declared.Reply.{Reply}
use Rattle.questions.specs.declared.Question.TheVariants.{Literal}
use Rattle.questions.specs.Replies.{reply_at, on_pool, literal_numbers}
use Rattle.numbers.specs.Numbers as c
use Rattle.numbers.specs.declared.LuoPoolAnswer.{LuoPoolAnswer}
use Rattle.numbers.specs.declared.LuoSlotAnswer.{LuoSlotAnswer}
use Rattle.numbers.specs.declared.LuoNamedAnswer.{LuoNamedAnswer}
use Rattle.numbers.specs.declared.LuoMemberAnswer.{LuoMemberAnswer}
use Rattle.numbers.specs.declared.LuoHandleAnswer.{LuoHandleAnswer}
use Rattle.numbers.specs.declared.LuoDynamicAnswer.{LuoDynamicAnswer}
use Rattle.numbers.specs.declared.LuoLiteralAnswer.{LuoLiteralAnswer}
use Rattle.numbers.specs.declared.LuoTextAnswer.{LuoTextAnswer}
use Rattle.numbers.specs.declared.LuoPartAnswer.{LuoPartAnswer}
use Rattle.numbers.specs.declared.LuoListAnswer.{LuoListAnswer}
use Rattle.numbers.specs.declared.LuoClassAnswer.{LuoClassAnswer}
use Rattle.cases.specs.Cases.{file_e, file_m, file_o, table_o}
use Rattle.cases.specs.Wrongs.{Row, row, num, nums, answer, check, file_c, file_f, file_q, file_r, file_s, file_t, table_t}
use Rattle.cases.specs.WrongClass.{class_told as read_of, class_a as an_a, counts, no_cells, file_u, table_u, one_lent, field_f, cells}

-- ---- what is asked

-- two members
abbrev two : Numbers
two = record { flags = 1 ∷ 2 ∷ []; names = 3 ∷ 4 ∷ []; types = 5 ∷ 6 ∷ []; firsts = 0 ∷ 7 ∷ []; counts = 7 ∷ 0 ∷ [] }

abbrev second : Member
second = record { flags = 2; name = 4; descriptor = 6; first_attribute = 7; attributes = 0 }

-- two attributes
abbrev parts : Parts
parts = record { titles = 1 ∷ 2 ∷ []; bodies = 3 ∷ 4 ∷ []; lengths = 5 ∷ 6 ∷ [] }

-- a table of these cells as bytes
abbrev pub b : List ℕ → List ℕ
b ns = as_bytes (4 * length ns) ns

abbrev pub table_e : List ℕ
table_e = 0 ∷ 10 ∷ 13 ∷ []

-- ---- the numbers of an answer

abbrev attribute_told : Attribute → List ℕ
attribute_told a = a.name ∷ a.body ∷ a.length ∷ []

abbrev attributes_told : List Attribute → List ℕ
attributes_told [] = []
attributes_told (a ∷ rest) = attribute_told a ++ attributes_told rest

abbrev record_of : Member → List ℕ
record_of m = m.flags ∷ m.name ∷ m.descriptor ∷ m.first_attribute ∷ m.attributes ∷ []

abbrev records_told : List Member → List ℕ
records_told [] = []
records_told (m ∷ ms) = record_of m ++ records_told ms

-- class A with a table of n member records
abbrev with_records : ℕ → Answer Class × List Member
with_records n = let x = class_with file_u 5 1 one_lent n 0 in (mapped class_of x, after none records_of n x)

abbrev class_a_of : Answer Class
class_a_of = accept (an_a 0x21)

abbrev field_record : Member
field_record = record { flags = 8; name = 3; descriptor = 4; first_attribute = 0; attributes = 0 }

abbrev classed_records : Answer Class × List Member → List ℕ
classed_records o = answer counts o.0 ++ records_told o.1

abbrev pub reply : Reply → List ℕ
reply r = r.refusal ∷ r.place ∷ r.one ∷ r.two ∷ r.three ∷ r.four ∷ r.five ∷ r.bits ∷ r.start ∷ r.length ∷ []

abbrev pub slot_told : LuoSlotAnswer → List ℕ
slot_told o = o.refusal ∷ o.place ∷ o.slot ∷ []

abbrev pub slot_is : ℕ → ℕ → ℕ → LuoSlotAnswer
slot_is nr place n = record { refusal = nr; place = place; slot = n }

abbrev pub named_told : LuoNamedAnswer → List ℕ
named_told o = o.refusal ∷ o.place ∷ o.name ∷ o.descriptor ∷ []

abbrev pub named_is : ℕ → ℕ → ℕ → ℕ → LuoNamedAnswer
named_is nr place name type = record { refusal = nr; place = place; name = name; descriptor = type }

abbrev pub member_told : LuoMemberAnswer → List ℕ
member_told o = o.refusal ∷ o.place ∷ o.tag ∷ o.class_name ∷ o.name ∷ o.descriptor ∷ []

abbrev pub handle_told : LuoHandleAnswer → List ℕ
handle_told o = o.refusal ∷ o.place ∷ o.kind ∷ o.tag ∷ o.class_name ∷ o.name ∷ o.descriptor ∷ []

-- of file O
abbrev pub member_is : ℕ → ℕ → LuoMemberAnswer
member_is tag class = record { refusal = 0; place = 0; tag = tag; class_name = class; name = 5; descriptor = 6 }

abbrev pub handle_is : ℕ → ℕ → LuoHandleAnswer
handle_is kind tag = record { refusal = 0; place = 0; kind = kind; tag = tag; class_name = 5; name = 5; descriptor = 6 }

abbrev pub dynamic_told : LuoDynamicAnswer → List ℕ
dynamic_told o = o.refusal ∷ o.place ∷ o.index ∷ o.name ∷ o.descriptor ∷ []

abbrev pub dynamic_is : ℕ → ℕ → ℕ → LuoDynamicAnswer
dynamic_is index name type = record { refusal = 0; place = 0; index = index; name = name; descriptor = type }

abbrev pub literal_told : LuoLiteralAnswer → List ℕ
literal_told o = o.refusal ∷ o.place ∷ o.tag ∷ o.bits ∷ []

abbrev pub literal_is : ℕ → ℕ → LuoLiteralAnswer
literal_is tag bits = record { refusal = 0; place = 0; tag = tag; bits = bits }

abbrev pub text_told : LuoTextAnswer → List ℕ
text_told o = o.refusal ∷ o.place ∷ o.text ∷ []

abbrev pub part_told : LuoPartAnswer → List ℕ
part_told o = o.refusal ∷ o.place ∷ o.start ∷ o.length ∷ []

abbrev pub pool_told : LuoPoolAnswer × List ℕ → List ℕ
pool_told o = o.0.refusal ∷ o.0.place ∷ o.0.slots ∷ o.0.minor ∷ o.0.major ∷ [] ++ o.1

abbrev pub list_of : LuoListAnswer × List ℕ → List ℕ
list_of o = o.0.refusal ∷ o.0.place ∷ o.0.count ∷ [] ++ o.1

abbrev class_told : LuoClassAnswer × List ℕ × Columns → List ℕ
class_told o = o.0.refusal ∷ o.0.place ∷ o.0.slots ∷ o.0.flags ∷ o.0.fields ∷ [] ++ o.1 ++ cells o.2

-- ---- what is answered

-- file E against a table, read into three cells
abbrev afresh_told : List ℕ → Check × List ℕ
afresh_told table = (afresh file_e (cells_in (b table)) 3, after 0 (λ w. w.pool.cells) 3 (taken file_e (cells_in (b table)) 3))

-- the dependants of slot 5 of file O into a list of that many bytes
abbrev listed : ℕ → Answer ℕ × List ℕ
listed len =
    let x = dependants file_o (cells_in (b table_o)) 5 (len / 4) in
    (mapped length x, as_bytes len (after 0 (λ xs. xs) (len / 4) x))

abbrev pub no_pool : ℕ → ℕ → LuoPoolAnswer
no_pool nr place = record { refusal = nr; place = place; slots = 0; minor = 0; major = 0 }

abbrev pub a_pool : ℕ → LuoPoolAnswer
a_pool n = record { refusal = 0; place = 0; slots = n; minor = 0; major = 52 }

-- class A, with these flags
abbrev class_a : ℕ → LuoClassAnswer
class_a flags = record { refusal = 0; place = 0; slots = 5; minor = 0; major = 52; flags = flags; this_class = 2; super_class = 0; interfaces = 0; fields = 1; methods = 0; member_attributes = 0; class_attributes = 0 }

-- file U, as the call from C answers it
abbrev c_class : LuoClassAnswer × List ℕ × Columns
c_class = let o = read_of file_u in (c.class_numbers o.0, o.1, o.3)

abbrev pub on_bytes : List Row
on_bytes =
    row record_of (member_of two 1) second (record { flags = 1; name = 3; descriptor = 5; first_attribute = 0; attributes = 7 }) none  -- member_of
    ∷ row records_told (members_from two 0 1) (record { flags = 1; name = 3; descriptor = 5; first_attribute = 0; attributes = 7 } ∷ []) (second ∷ []) []  -- member_records
    ∷ row record_of (get_or (second ∷ []) 1 none) none second (member_of two 0)  -- record_at
    ∷ row attribute_told (attribute_of parts 1) (record { name = 2; body = 4; length = 6 }) (record { name = 1; body = 3; length = 5 }) no_attribute  -- attribute_of
    ∷ row attributes_told (attributes_from parts 0 1) (record { name = 1; body = 3; length = 5 } ∷ []) (record { name = 2; body = 4; length = 6 } ∷ []) []  -- attribute_records
    ∷ row attribute_told (get_or (attributes_from parts 1 1) 1 no_attribute) no_attribute (record { name = 1; body = 3; length = 5 }) (record { name = 2; body = 4; length = 6 })  -- attribute_at
    ∷ row classed_records (with_records 1) (class_a_of, field_record ∷ []) (class_a_of, none ∷ []) (refuse 13 35, none ∷ [])  -- read_class_records
    ∷ row classed_records (with_records 0) (refuse 13 35, []) (class_a_of, []) (refuse 13 33, [])  -- read_class_records, no room for a record
    ∷ row num (get_or (cells_in (0 ∷ 0 ∷ 1 ∷ 2 ∷ 9 ∷ [])) 0 0) 258 513 66051  -- cell_at
    ∷ row nums (replicate 3 0) (0 ∷ 0 ∷ 0 ∷ []) (0 ∷ 0 ∷ 1 ∷ []) []  -- clear, of bytes
    ∷ row nums (as_bytes 5 (take (5 / 4) (258 ∷ 7 ∷ []))) (0 ∷ 0 ∷ 1 ∷ 2 ∷ 0 ∷ []) (2 ∷ 1 ∷ 0 ∷ 0 ∷ 0 ∷ []) (0 ∷ 0 ∷ 1 ∷ 2 ∷ 7 ∷ [])  -- cells_out
    ∷ row nums (as_bytes 4 (take (4 / 4) (258 ∷ []))) (0 ∷ 0 ∷ 1 ∷ 2 ∷ []) (1 ∷ 2 ∷ 0 ∷ 0 ∷ []) (0 ∷ 0 ∷ 0 ∷ 0 ∷ [])  -- list_out
    ∷ row (λ (o : Check × List ℕ). check o.0 ++ o.1) (afresh_told (0 ∷ 10 ∷ 14 ∷ [])) (refuse 12 2, 0 ∷ 0 ∷ 0 ∷ []) (refuse 12 2, table_e) (refuse 12 3, 0 ∷ 0 ∷ 0 ∷ [])  -- check_afresh
    ∷ row reply (on_pool (reply_at Literal 1) (handed file_c (cells_in (b (0 ∷ 10 ∷ []))))) (literal_numbers 3 0xFFFFFFFF) (literal_numbers 4 0xFFFFFFFF) (literal_numbers 3 1)  -- ask
    ∷ row (λ (o : Answer ℕ × List ℕ). answer num o.0 ++ o.1) (listed 20) (accept 4, as_bytes 20 (1 ∷ 2 ∷ 3 ∷ 4 ∷ [])) (accept 0, as_bytes 20 []) (accept 4, as_bytes 20 (4 ∷ 3 ∷ 2 ∷ 1 ∷ []))  -- list_dependants
    ∷ []

abbrev pub from_c : List Row
from_c =
    row pool_told (c.pool_numbers (mapped head_of (pool file_e (13 / 4))), as_bytes 13 (after 0 (λ w. w.pool.cells) (13 / 4) (pool file_e (13 / 4)))) (a_pool 3, as_bytes 13 table_e) (a_pool 3, as_bytes 13 []) (no_pool 8 1, as_bytes 13 [])  -- luo_pool
    ∷ row pool_told (c.pool_numbers (mapped head_of (read_pool file_f 2)), after 0 (λ w. w.pool.cells) 2 (read_pool file_f 2)) (a_pool 2, 0 ∷ 10 ∷ []) (no_pool 6 1, 0 ∷ 0 ∷ []) (a_pool 2, 0 ∷ 0 ∷ [])  -- luo_entries
    ∷ row slot_told (c.slot_numbers (lookup file_e (cells_in (b table_e)) (class_at 1))) (slot_is 0 0 2) (slot_is 0 0 1) (slot_is 8 1 0)  -- luo_class_name
    ∷ row slot_told (c.slot_numbers (lookup file_q (cells_in (b (0 ∷ 10 ∷ 13 ∷ 17 ∷ 20 ∷ []))) (module_at 1))) (slot_is 0 0 2) (slot_is 0 0 1) (slot_is 8 1 0)  -- luo_module_name
    ∷ row slot_told (c.slot_numbers (lookup file_q (cells_in (b (0 ∷ 10 ∷ 13 ∷ 17 ∷ 20 ∷ []))) (package_at 3))) (slot_is 0 0 4) (slot_is 0 0 3) (slot_is 8 3 0)  -- luo_package_name
    ∷ row slot_told (c.slot_numbers (lookup file_r (cells_in (b table_e)) (method_type_at 1))) (slot_is 0 0 2) (slot_is 0 0 1) (slot_is 11 1 0)  -- luo_method_type
    ∷ row named_told (c.named_numbers (lookup file_s (cells_in (b (0 ∷ 10 ∷ 15 ∷ 19 ∷ []))) (named_at 1))) (named_is 9 1 0 0) (named_is 0 0 2 3) (named_is 9 1 2 3)  -- luo_name_and_type
    ∷ row member_told (c.member_numbers (lookup file_o (cells_in (b table_o)) (member_at 2))) (member_is 9 5) (member_is 10 5) (member_is 9 3)  -- luo_member_reference
    ∷ row handle_told (c.handle_numbers (lookup file_o (cells_in (b table_o)) (handle_at 1))) (handle_is 1 9) (handle_is 9 1) (record { refusal = 8; place = 1; kind = 0; tag = 0; class_name = 0; name = 0; descriptor = 0 })  -- luo_method_handle
    ∷ row dynamic_told (c.dynamic_numbers (lookup file_t (cells_in (b table_t)) (dynamic_at 1))) (dynamic_is 7 3 4) (dynamic_is 2 3 4) (dynamic_is 7 4 3)  -- luo_dynamic
    ∷ row dynamic_told (c.dynamic_numbers (lookup file_t (cells_in (b table_t)) (invoke_dynamic_at 5))) (dynamic_is 9 3 7) (dynamic_is 7 3 4) (dynamic_is 9 3 4)  -- luo_invoke_dynamic
    ∷ row literal_told (c.literal_numbers (lookup file_c (cells_in (b (0 ∷ 10 ∷ []))) (literal_at 1))) (literal_is 3 0xFFFFFFFF) (literal_is 3 1) (literal_is 4 0xFFFFFFFF)  -- luo_literal
    ∷ row text_told (c.text_numbers (lookup file_m (cells_in (b table_e)) (text_at 2))) (record { refusal = 0; place = 0; text = 0 }) (record { refusal = 0; place = 0; text = 1 }) (record { refusal = 9; place = 2; text = 0 })  -- luo_text
    ∷ row part_told (c.part_numbers (lookup file_e (cells_in (b table_e)) (span_at 2))) (record { refusal = 0; place = 0; start = 16; length = 1 }) (record { refusal = 0; place = 0; start = 14; length = 3 }) (record { refusal = 0; place = 0; start = 0; length = 0 })  -- luo_utf8_part
    ∷ row list_of (c.list_numbers (listed 15).0, (listed 15).1) (record { refusal = 13; place = 4; count = 0 }, as_bytes 15 []) (record { refusal = 13; place = 7; count = 0 }, as_bytes 15 []) (record { refusal = 13; place = 4; count = 3 }, as_bytes 15 (1 ∷ 2 ∷ 3 ∷ []))  -- luo_dependants
    ∷ row class_told c_class (class_a 0x21, table_u, field_f 8) (class_a 0x29, table_u, field_f 8) (c.no_class 18 47, no_cells, zeros one_lent)  -- luo_class
    ∷ []
