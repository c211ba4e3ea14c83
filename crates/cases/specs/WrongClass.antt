-- Worked cases: an answer and two wrong ones for each call on what comes after the pool. Assumes nothing.
use Rattle.std.specs.Prelude.{ℕ, List, [], ◌∷◌, ◌++◌, false}
use Rattle.reads.specs.Answer.{Answer, fine, accept, refuse, mapped}
use Rattle.reads.specs.Tables.{after}
use Rattle.text.specs.Text.{bootstrap_methods}
use Rattle.pool.specs.Pool.{Pool}
use Rattle.slot.specs.Slots.{in_range, utf8_at}
use Rattle.bootstrap.specs.Bootstrap.{own_body}
use Rattle.bootstrap.specs.Indices.{bootstrap_indices}
use Rattle.attributes.specs.Attributes.{record_at}
use Rattle.attributes.specs.declared.Attribute.{Attribute}
use Rattle.member.specs.Member.{member_at}
use Rattle.member.specs.declared.Member.{Member}
use Rattle.class_head.specs.Header.{class_at, head_at, interfaces_at}
use Rattle.class_head.specs.Readings.{listed_of}
use Rattle.class_head.specs.declared.ClassHead.{ClassHead}
use Rattle.class_head.specs.declared.Listed.{Listed}
use Rattle.class.specs.Members.{a_field}
use Rattle.class.specs.Class.{class_file}
use Rattle.class.specs.Columns.{Columns, Flags, Names, Types, Firsts, Counts, Titles, Bodies, Lengths, lent, zeros, rooms_of, tabled as tabled_in}
use Rattle.class.specs.Readings.{class_of}
use Rattle.class.specs.declared.Class.{Class}
use Rattle.cases.specs.Cases.{at_major}
use Rattle.cases.specs.Wrongs.{Row, row, answer, check, tabled, pool_e}

-- ---- what is asked

-- class A, flags 0029, with a field f of type I, flags 2008
abbrev pub file_u : List ℕ
file_u = at_major 52 (0 ∷ 5 ∷ 1 ∷ 0 ∷ 1 ∷ 0x41 ∷ 7 ∷ 0 ∷ 1 ∷ 1 ∷ 0 ∷ 1 ∷ 0x66 ∷ 1 ∷ 0 ∷ 1 ∷ 0x49 ∷ 0 ∷ 0x29 ∷ 0 ∷ 2 ∷ 0 ∷ 0 ∷ 0 ∷ 0 ∷ 0 ∷ 1 ∷ 0x20 ∷ 8 ∷ 0 ∷ 3 ∷ 0 ∷ 4 ∷ 0 ∷ 0 ∷ 0 ∷ 0 ∷ 0 ∷ 0 ∷ [])

abbrev pub table_u : List ℕ
table_u = 0 ∷ 10 ∷ 14 ∷ 17 ∷ 21 ∷ []

abbrev pool_u : Pool
pool_u = record { file = file_u; major = 52; cells = table_u }

-- room for one member and for no attribute, each cell of the member being n
abbrev pub all_cells : ℕ → Columns
all_cells n = lent (n ∷ []) (n ∷ []) (n ∷ []) (n ∷ []) (n ∷ []) [] [] []

abbrev pub one_lent : Columns
one_lent = all_cells 9

-- the field's record, with these flags
abbrev pub field_f : ℕ → Columns
field_f flags = lent (flags ∷ []) (3 ∷ []) (4 ∷ []) (0 ∷ []) (0 ∷ []) [] [] []

-- slot 1 is the name BootstrapMethods, and behind it stand two bytes 0
abbrev pool_b : Pool
pool_b = record { file = 0 ∷ 1 ∷ 0 ∷ 16 ∷ [] ++ bootstrap_methods ++ 0 ∷ 0 ∷ []; major = 52; cells = 0 ∷ 1 ∷ [] }

-- slot 1 is a Dynamic with index 1
abbrev pool_d : Pool
pool_d = record { file = 0 ∷ 17 ∷ 0 ∷ 1 ∷ []; major = 55; cells = 0 ∷ 1 ∷ [] }

-- slot 1 is the name A; at byte 5 stands an attribute of that name whose body is one byte
abbrev pool_a : Pool
pool_a = record { file = 0 ∷ 1 ∷ 0 ∷ 1 ∷ 0x41 ∷ 0 ∷ 1 ∷ 0 ∷ 0 ∷ 0 ∷ 1 ∷ 7 ∷ []; major = 52; cells = 0 ∷ 1 ∷ [] }

-- ---- the numbers of an answer

abbrev pub cells : Columns → List ℕ
cells c =
    c.member Flags ++ c.member Names ++ c.member Types ++ c.member Firsts ++ c.member Counts
    ++ c.attribute Titles ++ c.attribute Bodies ++ c.attribute Lengths

abbrev heading : ClassHead → List ℕ
heading h = h.flags ∷ h.this ∷ h.parent ∷ []

abbrev listing : Listed → List ℕ
listing l = l.count ∷ l.next ∷ []

abbrev record_of : Member → List ℕ
record_of m = m.flags ∷ m.name ∷ m.descriptor ∷ m.count ∷ []

abbrev attribute : Attribute → List ℕ
attribute a = a.name ∷ a.start ∷ a.size ∷ []

abbrev pub counts : Class → List ℕ
counts c = c.slots ∷ c.minor ∷ c.major ∷ c.flags ∷ c.this ∷ c.parent ∷ c.interfaces ∷ c.fields ∷ c.methods ∷ c.used ∷ c.own ∷ []

abbrev classed : Answer Class × List ℕ × List ℕ × Columns → List ℕ
classed o = answer counts o.0 ++ o.1 ++ o.2 ++ cells o.3

-- ---- what is answered

-- an attribute record of the name in slot 1
abbrev framed : ℕ → ℕ → Attribute
framed start size = record { name = 1; start = start; size = size }

-- a class file with room for 5 cells, one interface, one member: the answer, the cells, the interfaces, the columns
abbrev pub class_told : List ℕ → Answer Class × List ℕ × List ℕ × Columns
class_told s =
    let x = class_file s (rooms_of 5 1 one_lent) in
    (mapped class_of x, after 0 (λ q. q.front.pool.pool.cells) 5 x, after 0 (λ q. q.front.interfaces) 1 x, tabled_in one_lent (mapped (λ q. q.tables) x))

-- class A, with these flags
abbrev pub class_a : ℕ → Class
class_a flags = record { slots = 5; minor = 0; major = 52; flags = flags; this = 2; parent = 0; interfaces = 0; fields = 1; methods = 0; used = 0; own = 0 }

-- a pool's table of five cells after a refusal
abbrev pub no_cells : List ℕ
no_cells = 0 ∷ 0 ∷ 0 ∷ 0 ∷ 0 ∷ []

-- the field's four u2 as the member's record, with these flags
abbrev member_f : ℕ → Member
member_f flags = record { flags = flags; name = 3; descriptor = 4; count = 0 }

abbrev heading_a : ℕ → ℕ → ClassHead
heading_a this parent = record { flags = 0x29; this = this; parent = parent }

abbrev interfaces_of : Pool → Answer Listed × List ℕ
interfaces_of p = let x = interfaces_at p 1 31 in (mapped listed_of x, after 0 (λ m. m.list) 1 x)

abbrev none_listed : ℕ → Listed
none_listed next = record { count = 0; next = next }

abbrev pub classes : List Row
classes =
    row check (in_range pool_e 9 3) (refuse 7 9) fine (refuse 7 3)  -- check_range
    ∷ row check (own_body pool_b 100 1 20 21) (refuse 18 100) fine (refuse 2 21)  -- check_own
    ∷ row check (bootstrap_indices pool_d [] []) (refuse 16 1) (refuse 17 1) fine  -- check_indices
    ∷ row check (utf8_at pool_e 30 3) (refuse 7 30) (refuse 8 30) (refuse 7 3)  -- check_utf8_index
    ∷ row (answer attribute) (record_at false pool_a 1 0 5) (accept (framed 11 1)) (accept (framed 9 1)) (refuse 13 5)  -- record_at
    ∷ row (answer record_of) (member_at a_field pool_u 1 0 35 [] []) (accept (member_f 8)) (accept (member_f 0x2008)) (refuse 15 35)  -- member_at
    ∷ row check (class_at pool_u 27 1) (refuse 8 27) (refuse 10 27) fine  -- check_class
    ∷ row (answer heading) (head_at pool_u 25) (accept (heading_a 2 0)) (refuse 8 29) (accept (heading_a 0 2))  -- read_head
    ∷ row (tabled listing) (interfaces_of pool_u) (accept (none_listed 33), 0 ∷ []) (accept (none_listed 31), 0 ∷ []) (accept (none_listed 33), 9 ∷ [])  -- read_interfaces
    ∷ row classed (class_told file_u) (accept (class_a 0x21), table_u, 0 ∷ [], field_f 8) (accept (class_a 0x29), table_u, 0 ∷ [], field_f 8) (accept (class_a 0x21), no_cells, 0 ∷ [], field_f 8)  -- read_class: flags not masked; no cells
    ∷ row classed (class_told file_u) (accept (class_a 0x21), table_u, 0 ∷ [], field_f 8) (accept (class_a 0x21), table_u, 0 ∷ [], field_f 0x2008) (accept (class_a 0x21), table_u, 0 ∷ [], one_lent)  -- read_class: a field's flags not masked; no records
    ∷ row classed (class_told (file_u ++ 0 ∷ [])) (refuse 18 47, no_cells, 0 ∷ [], all_cells 0) (refuse 18 48, no_cells, 0 ∷ [], zeros one_lent) (accept (class_a 0x21), table_u, 0 ∷ [], field_f 8)  -- read_class, a byte left over
    ∷ row classed (class_told (file_u ++ 0 ∷ [])) (refuse 18 47, no_cells, 0 ∷ [], all_cells 0) (refuse 18 47, no_cells, 0 ∷ [], field_f 8) (refuse 18 47, table_u, 0 ∷ [], zeros one_lent)  -- read_class, a byte left over: records or cells kept
    ∷ []
