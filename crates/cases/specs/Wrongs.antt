-- Worked cases: for the contract of each public call an answer and two that it rules out, a row each. Assumes nothing.
use Rattle.std.specs.Prelude.{ℕ, ◌+◌, ◌*◌, ◌≡◌, List, [], ◌∷◌, ◌++◌, Bool, true, false, cond, not, ◌&&◌, Option, Some, None, ℤ, pos, negsuc, length, take, drop, replicate, eqb}
use Rattle.std.specs.Float.{binary32, binary64}
use Rattle.std.specs.Float.Ieee.{of_bits}
use Rattle.reads.specs.Answer.{Answer, Check, fine, accept, refuse, mapped, require}
use Rattle.std.specs.Borrow.{Bor}
use Rattle.reads.specs.Bytes.{num1, num2, num4, num8, u1, u2, u4, skipped}
use Rattle.reads.specs.Promise.{refusal, number_of}
use Rattle.reads.specs.declared.Refusal.{Refusal}
use Rattle.reads.specs.declared.Reason.TheVariants.{BadName}
use Rattle.reads.specs.Tables.{after}
use Rattle.text.specs.Text.{same, run, before, text_form, is_text, unqualified, name_marks, walked, whole, binary, init, clinit, bootstrap_methods, is_init, is_clinit, is_bootstrap_methods, method_name, module_form, module_name}
use Rattle.descriptors.specs.Descriptors.{stands, field_descriptor, array_descriptor, method_descriptor, returns_void, takes_nothing}
use Rattle.ascii.specs.Ascii.{ascii}
use Rattle.pool.specs.Kinds as kind
use Rattle.pool.specs.Named.{tag_for, kind_of}
use Rattle.pool.specs.declared.Kind.{Kind}
use Rattle.pool.specs.declared.Kind.TheVariants.{Dynamic, InvokeDynamic}
use Rattle.pool.specs.Rows as rows
use Rattle.pool.specs.declared.Row.{Row as Widths}
use Rattle.pool.specs.declared.Slot.{Slot}
use Rattle.pool.specs.declared.Header.{Header}
use Rattle.pool.specs.declared.Head.{Head}
use Rattle.pool.specs.Pool.{Pool, slots, slot_at, header_of, read_pool}
use Rattle.pool.specs.Readings.{head_of}
use Rattle.slot.specs.Slots.{cell, tag_of, field, bytes_of, of_kind, text_at, text_of, class_text, typed}
use Rattle.checks.specs.Checks.{checked, pool}
use Rattle.slot.specs.declared.Pool.{Pool as Lent}
use Rattle.handed.specs.Handed.{handed, lookup, asked}
use Rattle.handed.specs.Walk.{lent}
use Rattle.literal.specs.Values.{Literal, integer, float, float_nan, long, double, double_nan, string, twos, single, twofold, number_at, bits_of, bits_in}
use Rattle.values.specs.Lookups.{literal_at, text_at as word_at, bytes_at, bytes_in, span_at, span_in}
use Rattle.values.specs.declared.Span.{Span}
use Rattle.lookups.specs.Lookups.{class_at, module_at, package_at, method_type_at, named_at, member_at, handle_at, dynamic_at, invoke_dynamic_at}
use Rattle.lookups.specs.declared.Named.{Named}
use Rattle.lookups.specs.declared.Member.{Member}
use Rattle.lookups.specs.declared.Held.{Held}
use Rattle.lookups.specs.declared.Indexed.{Indexed}
use Rattle.dependants.specs.Dependants.{dependants}
use Rattle.cases.specs.Cases.{at_major, file_e, file_m, file_o, table_o, member_o}

-- what the contract's definition answers to an input, written out, two other answers, and the numbers by which they are told apart
pub record Row : Type 1 where
  pub Of : Type 0
  pub code : Of → List ℕ
  pub right : Of
  pub said : Of
  pub wrong : Of
  pub worse : Of

abbrev pub row : {A : Type 0} → (A → List ℕ) → A → A → A → A → Row
row {A} code right said wrong worse = record { Of = A; code = code; right = right; said = said; wrong = wrong; worse = worse }

abbrev pub apart : List ℕ → List ℕ → Bool
apart a b = not (same a b)

-- the definition answers as is written, and the two others are told apart from that and from each other
abbrev pub holds : Row → Bool
holds r = same (r.code r.right) (r.code r.said) && (apart (r.code r.right) (r.code r.wrong) && (apart (r.code r.right) (r.code r.worse) && apart (r.code r.wrong) (r.code r.worse)))

abbrev pub rejects : List Row → Bool
rejects [] = true
rejects (r ∷ rs) = holds r && rejects rs

-- the definition's answer has the numbers written; neither of the two others is that answer, and they are two
pub record Told (r : Row) : Type 0 where
  pub answers : r.code r.right ≡ r.code r.said
  pub not_wrong : r.right ≡ r.wrong → ⊥
  pub not_worse : r.right ≡ r.worse → ⊥
  pub two : r.wrong ≡ r.worse → ⊥

abbrev pub Rejected : List Row → Type 0
Rejected [] = Unit {0}
Rejected (r ∷ rs) = Told r × Rejected rs

-- ---- the numbers of an answer

abbrev pub num : ℕ → List ℕ
num n = n ∷ []

abbrev pub bit : Bool → ℕ
bit b = cond b 1 0

abbrev pub nums : List ℕ → List ℕ
nums ns = ns

abbrev pub answer : {A : Type 0} → (A → List ℕ) → Answer A → List ℕ
answer f (accept a) = 0 ∷ f a
answer f (refuse nr place) = nr ∷ place ∷ []

abbrev pub check : Check → List ℕ
check c = answer (λ _. []) c

abbrev bits : Bool × Bool → List ℕ
bits b = bit b.0 ∷ bit b.1 ∷ []

-- a test that holds of one input and not of another: it neither always holds nor never
abbrev test : Bool → Bool → Row
test a b = row bits (a, b) (true, false) (true, true) (false, false)

abbrev whole_number : ℤ → List ℕ
whole_number (pos n) = 0 ∷ n ∷ []
whole_number (negsuc n) = 1 ∷ n ∷ []

abbrev pub literal : Literal → List ℕ
literal (integer z) = 3 ∷ whole_number z
literal (float x) = 4 ∷ []
literal (float_nan b) = 104 ∷ b ∷ []
literal (long z) = 5 ∷ whole_number z
literal (double x) = 6 ∷ []
literal (double_nan b) = 106 ∷ b ∷ []
literal (string m) = 8 ∷ m ∷ []

abbrev head : Head → List ℕ
head h = h.slots ∷ h.minor ∷ h.major ∷ h.next ∷ []

-- an answer, and the lent table afterwards
abbrev pub tabled : {A : Type 0} → (A → List ℕ) → Answer A × List ℕ → List ℕ
tabled f o = answer f o.0 ++ o.1

abbrev member : Member → List ℕ
member m = m.tag ∷ m.class ∷ m.name ∷ m.descriptor ∷ []

abbrev told_refusal : Refusal → List ℕ
told_refusal r = r.number ∷ r.place ∷ []

-- a pool as the code lends it on
abbrev bor : List ℕ → Bor (List ℕ)
bor xs = record { ref_ptr = (0, 0); now = xs }

abbrev lent_pool : Lent → List ℕ
lent_pool p = p.major ∷ p.slots ∷ p.file.now ++ p.table.now

-- ---- what is asked

abbrev pub file_c : List ℕ
file_c = at_major 52 (0 ∷ 2 ∷ 3 ∷ 0xFF ∷ 0xFF ∷ 0xFF ∷ 0xFF ∷ [])

abbrev pub file_f : List ℕ
file_f = at_major 52 (0 ∷ 2 ∷ 7 ∷ 0 ∷ 1 ∷ [])

abbrev pub table_e : List ℕ
table_e = 0 ∷ 10 ∷ 13 ∷ []

abbrev pub pool_e : Pool
pool_e = record { file = file_e; major = 52; cells = table_e }

abbrev pool_o : Pool
pool_o = record { file = file_o; major = 52; cells = table_o }

-- file E and its table lent on, by a head, and as it should be; and its table with a cell more
abbrev lent_as : ℕ → ℕ → Lent
lent_as major slots = record { file = bor file_e; major = major; table = bor table_e; slots = slots }

abbrev of_head : Head → Lent
of_head h = lent_as h.major h.slots

abbrev longer_e : List ℕ
longer_e = 0 ∷ 10 ∷ 13 ∷ 0 ∷ []

abbrev longer_as : ℕ → Lent
longer_as slots = record { file = bor file_e; major = 52; table = bor longer_e; slots = slots }

-- ---- reads

abbrev pub reading : List Row
reading =
    row (answer num) (u1 (7 ∷ []) 0) (accept 7) (accept 0) (refuse 2 0)  -- read_u1
    ∷ row (answer num) (u2 (1 ∷ 2 ∷ []) 0) (accept 258) (accept 513) (refuse 2 0)  -- read_u2
    ∷ row (answer num) (u4 (1 ∷ 2 ∷ 3 ∷ []) 0) (refuse 2 0) (refuse 2 3) (accept 66051)  -- read_u4
    ∷ row (answer num) (skipped (7 ∷ []) 1 0) (accept 1) (refuse 2 1) (accept 0)  -- skip
    ∷ row num (num1 (5 ∷ []) 1) 0 5 1  -- byte_at
    ∷ row num (num2 (1 ∷ 2 ∷ []) 1) 512 258 2  -- pair_at
    ∷ row num (1 * 65536 + 2) 65538 131073 3  -- two halves of two bytes, as num4 joins them
    ∷ row num (1 * 4294967296 + 2) 4294967298 8589934593 3  -- two halves of four bytes, as num8 joins them
    ∷ row num (num4 (0 ∷ 1 ∷ 0 ∷ 2 ∷ []) 0) 65538 131073 3  -- quad_at
    ∷ row num (num8 (0 ∷ 0 ∷ 0 ∷ 1 ∷ 0 ∷ 0 ∷ 0 ∷ 2 ∷ []) 0) 4294967298 8589934593 3  -- oct_at
    ∷ row nums (take 1 (drop 1 (1 ∷ 2 ∷ 3 ∷ []))) (2 ∷ []) (1 ∷ []) (2 ∷ 3 ∷ [])  -- part
    ∷ row nums (replicate 2 0) (0 ∷ 0 ∷ []) (1 ∷ 1 ∷ []) (0 ∷ [])  -- clear
    ∷ row told_refusal (refusal (number_of BadName) 7) (refusal 10 7) (refusal 9 7) (refusal 7 10)  -- Reason::at
    ∷ []

-- ---- texts, names, descriptors

abbrev pub texts : List Row
texts =
    row num (text_form (0xC3 ∷ 0xA9 ∷ [])) 2 1 0  -- text_form
    ∷ row num (run text_form (0x41 ∷ 0x80 ∷ [])) 1 2 0  -- text_length
    ∷ test (is_text (0xC0 ∷ 0x80 ∷ [])) (is_text (0xED ∷ 0xA0 ∷ 0x80 ∷ []))  -- is_text
    ∷ test (ascii (0x01 ∷ 0x7F ∷ [])) (ascii (0x41 ∷ 0x80 ∷ []))  -- is_ascii
    ∷ test (ascii (0x3C ∷ []) && unqualified (0x3C ∷ [])) (ascii (0x41 ∷ 0x2F ∷ []) && unqualified (0x41 ∷ 0x2F ∷ []))  -- is_ascii_name
    ∷ test (ascii (0x41 ∷ 0x2F ∷ 0x42 ∷ []) && binary (0x41 ∷ 0x2F ∷ 0x42 ∷ [])) (ascii (0x41 ∷ 0x2F ∷ []) && binary (0x41 ∷ 0x2F ∷ []))  -- is_ascii_binary
    ∷ row num (before (name_marks false) (0x41 ∷ 0x3C ∷ 0x2F ∷ [])) 2 1 3  -- plain_length
    ∷ test (unqualified (0x3C ∷ [])) (unqualified [])  -- is_unqualified_name
    ∷ test (method_name false init) (method_name true init)  -- is_unqualified_method_name
    ∷ row (λ (w : ℕ × Bool). w.0 ∷ bit w.1 ∷ []) (walked false (0x41 ∷ 0x2F ∷ 0x2F ∷ []), whole false (0x41 ∷ 0x2F ∷ 0x2F ∷ [])) (2, false) (3, true) (2, true)  -- walk_name, of text and of ascii
    ∷ test (binary (0x41 ∷ 0x2F ∷ 0x42 ∷ [])) (binary (0x41 ∷ 0x2F ∷ 0x2F ∷ 0x42 ∷ []))  -- is_binary_name
    ∷ row num (module_form (0x5C ∷ 0x5C ∷ [])) 2 1 0  -- module_form
    ∷ row num (run module_form (0x41 ∷ 0x5C ∷ 0x41 ∷ [])) 1 2 3  -- module_length
    ∷ test (module_name []) (module_name (0x5C ∷ []))  -- is_module_name
    ∷ test (is_init init) (is_init clinit)  -- is_init
    ∷ test (is_clinit clinit) (is_clinit init)  -- is_clinit
    ∷ test (is_bootstrap_methods bootstrap_methods) (is_bootstrap_methods (0x42 ∷ []))  -- is_bootstrap_methods
    ∷ test (stands 0x41 0 (0x41 ∷ [])) (stands 0x41 1 (0x41 ∷ []))  -- stands_at
    ∷ test (field_descriptor (0x49 ∷ [])) (field_descriptor (0x49 ∷ 0x49 ∷ []))  -- is_field_descriptor
    ∷ test (array_descriptor (0x5B ∷ 0x49 ∷ [])) (array_descriptor (0x49 ∷ []))  -- is_array_descriptor
    ∷ test (method_descriptor (0x28 ∷ 0x29 ∷ 0x56 ∷ [])) (method_descriptor (0x28 ∷ 0x29 ∷ []))  -- is_method_descriptor
    ∷ test (returns_void (0x28 ∷ 0x29 ∷ 0x56 ∷ [])) (returns_void (0x28 ∷ 0x29 ∷ 0x49 ∷ []))  -- returns_void
    ∷ test (takes_nothing (0x28 ∷ 0x29 ∷ 0x56 ∷ [])) (takes_nothing (0x28 ∷ 0x49 ∷ 0x29 ∷ 0x56 ∷ []))  -- takes_nothing
    ∷ []

-- ---- the pool

-- the tag of a kind, if there is one
abbrev kind_told : Option Kind → List ℕ
kind_told (Some k) = tag_for k ∷ []
kind_told None = []

abbrev widths : Widths → List ℕ
widths w = rows.since w ∷ rows.first w ∷ rows.second w ∷ rows.one w ∷ rows.other w ∷ []

-- the entries of a file, or its pool, with a table of that many cells afterwards
abbrev entries_of : List ℕ → ℕ → Answer Head × List ℕ
entries_of s room = (mapped head_of (read_pool s room), after 0 (λ w. w.pool.cells) room (read_pool s room))

abbrev pool_told : List ℕ → ℕ → Answer Head × List ℕ
pool_told s room = (mapped head_of (pool s room), after 0 (λ w. w.pool.cells) room (pool s room))

abbrev pub file_j : List ℕ
file_j = at_major 52 (0 ∷ 4 ∷ 5 ∷ 0 ∷ 0 ∷ 0 ∷ 0 ∷ 0 ∷ 0 ∷ 0 ∷ 1 ∷ 8 ∷ 0 ∷ 2 ∷ [])

-- a class whose name is `[V`
abbrev pool_v : Pool
pool_v = record { file = at_major 52 (0 ∷ 3 ∷ 7 ∷ 0 ∷ 2 ∷ 1 ∷ 0 ∷ 2 ∷ 0x5B ∷ 0x56 ∷ []); major = 52; cells = table_e }

abbrev pub pools : List Row
pools =
    row widths (rows.row_of 17) (rows.row 55 2 2 3 0) (rows.row 51 2 2 3 0) (rows.row 55 2 2 1 3)  -- row_of
    ∷ row kind_told (kind_of 17) (Some Dynamic) None (Some InvokeDynamic)  -- Kind::of
    ∷ row (answer (λ (h : Header). h.minor ∷ h.major ∷ h.count ∷ [])) (header_of (at_major 52 (0 ∷ 3 ∷ []))) (accept (record { minor = 0; major = 52; count = 3 })) (accept (record { minor = 52; major = 0; count = 3 })) (refuse 3 0)  -- header_of
    ∷ row (answer (λ (e : Slot). e.cell ∷ e.next ∷ bit e.wide ∷ [])) (slot_at file_e 52 3 1 false 10) (accept (record { cell = 10; next = 13; wide = false })) (accept (record { cell = 1; next = 13; wide = false })) (refuse 5 1)  -- slot_at
    ∷ row (tabled head) (entries_of file_f 2) (accept (record { slots = 2; minor = 0; major = 52; next = 13 }), 0 ∷ 10 ∷ []) (refuse 6 1, 0 ∷ 0 ∷ []) (accept (record { slots = 2; minor = 0; major = 52; next = 13 }), 0 ∷ 0 ∷ [])  -- read_entries
    ∷ row lent_pool (of_head (record { slots = 3; minor = 1; major = 52; next = 17 })) (lent_as 52 3) (lent_as 1 3) (lent_as 52 17)  -- Pool::of
    ∷ row num (slots pool_e) 3 2 4  -- Pool::count
    ∷ row num (cell pool_e 2) 13 10 2  -- Pool::cell
    ∷ row num (tag_of pool_e 0) 0 0xCA 7  -- Pool::tag
    ∷ row num (field pool_e 1 1) 2 512 1  -- Pool::field
    ∷ row nums (bytes_of pool_e 2) (0x41 ∷ []) [] (0 ∷ 1 ∷ 0x41 ∷ [])  -- Pool::bytes
    ∷ row check (of_kind pool_e 9 (kind.set_of (kind.class ∷ [])) 2) (refuse 8 9) fine (refuse 8 2)  -- check_kind
    ∷ row check (text_at pool_e 9 1) (refuse 8 9) (refuse 9 9) fine  -- check_utf8
    ∷ row check (text_of unqualified 10 pool_e 9 2) fine (refuse 10 9) (refuse 9 9)  -- check_text
    ∷ row check (class_text pool_v 9 2) (refuse 11 9) (refuse 10 9) fine  -- check_class_name
    ∷ row check (typed method_descriptor pool_o 9 4) (refuse 11 9) (refuse 8 9) fine  -- check_typed
    ∷ row check (checked (record { file = file_j; major = 52; cells = 0 ∷ 10 ∷ 0 ∷ 19 ∷ [] })) (refuse 8 3) (refuse 8 2) fine  -- check_pool
    ∷ row (tabled head) (pool_told file_c 2) (accept (record { slots = 2; minor = 0; major = 52; next = 15 }), 0 ∷ 10 ∷ []) (refuse 4 10, 0 ∷ 0 ∷ []) (accept (record { slots = 2; minor = 0; major = 52; next = 15 }), 0 ∷ 11 ∷ [])  -- read_pool
    ∷ row (tabled head) (pool_told file_e 3) (accept (record { slots = 3; minor = 0; major = 52; next = 17 }), table_e) (accept (record { slots = 3; minor = 0; major = 52; next = 17 }), 0 ∷ 0 ∷ 0 ∷ []) (refuse 8 1, 0 ∷ 0 ∷ 0 ∷ [])  -- read_pool that writes no cells
    ∷ row (tabled head) (pool_told file_j 4) (refuse 8 3, 0 ∷ 0 ∷ 0 ∷ 0 ∷ []) (accept (record { slots = 4; minor = 0; major = 52; next = 22 }), 0 ∷ 10 ∷ 0 ∷ 19 ∷ []) (refuse 8 3, 0 ∷ 10 ∷ 0 ∷ 19 ∷ [])  -- read_pool that checks slot 1 alone; one that leaves the cells
    ∷ []

-- ---- handed tables and lookups

-- a Module M and a Package p
abbrev pub file_q : List ℕ
file_q = at_major 53 (0 ∷ 5 ∷ 19 ∷ 0 ∷ 2 ∷ 1 ∷ 0 ∷ 1 ∷ 0x4D ∷ 20 ∷ 0 ∷ 4 ∷ 1 ∷ 0 ∷ 1 ∷ 0x70 ∷ [])

abbrev table_q : List ℕ
table_q = 0 ∷ 10 ∷ 13 ∷ 17 ∷ 20 ∷ []

-- a MethodType ()V
abbrev pub file_r : List ℕ
file_r = at_major 52 (0 ∷ 3 ∷ 16 ∷ 0 ∷ 2 ∷ 1 ∷ 0 ∷ 3 ∷ 0x28 ∷ 0x29 ∷ 0x56 ∷ [])

-- a NameAndType that nothing refers to, its descriptor raw
abbrev pub file_s : List ℕ
file_s = at_major 52 (0 ∷ 4 ∷ 12 ∷ 0 ∷ 2 ∷ 0 ∷ 3 ∷ 1 ∷ 0 ∷ 1 ∷ 0x41 ∷ 1 ∷ 0 ∷ 1 ∷ 0x80 ∷ [])

-- a Dynamic with index 7 in slot 1, an InvokeDynamic with index 9 in slot 5
abbrev pub file_t : List ℕ
file_t = at_major 55 (0 ∷ 8 ∷ 17 ∷ 0 ∷ 7 ∷ 0 ∷ 2 ∷ 12 ∷ 0 ∷ 3 ∷ 0 ∷ 4 ∷ 1 ∷ 0 ∷ 1 ∷ 0x41 ∷ 1 ∷ 0 ∷ 1 ∷ 0x49 ∷ 18 ∷ 0 ∷ 9 ∷ 0 ∷ 6 ∷ 12 ∷ 0 ∷ 3 ∷ 0 ∷ 7 ∷ 1 ∷ 0 ∷ 3 ∷ 0x28 ∷ 0x29 ∷ 0x56 ∷ [])

abbrev pub table_t : List ℕ
table_t = 0 ∷ 10 ∷ 15 ∷ 20 ∷ 24 ∷ 28 ∷ 33 ∷ 38 ∷ []

abbrev pair : ℕ → ℕ → Named
pair a b = record { name = a; descriptor = b }

abbrev named : Named → List ℕ
named x = x.name ∷ x.descriptor ∷ []

abbrev held : Held → List ℕ
held x = x.kind ∷ member x.member

abbrev indexed : Indexed → List ℕ
indexed x = x.index ∷ named x.named

abbrev span : Span → List ℕ
span x = x.from ∷ x.to ∷ []

-- the dependants of a slot of file O, and a list of that many cells afterwards
abbrev list_of : ℕ → ℕ → Answer ℕ × List ℕ
list_of n room = (mapped length (dependants file_o table_o n room), after 0 (λ xs. xs) room (dependants file_o table_o n room))

abbrev pub asked_of_tables : List Row
asked_of_tables =
    row (answer head) (mapped head_of (handed file_e (0 ∷ 10 ∷ 13 ∷ 0 ∷ 1 ∷ []))) (refuse 12 4) (refuse 12 3) (accept (record { slots = 3; minor = 0; major = 52; next = 17 }))  -- check_handed
    ∷ row (answer lent_pool) (mapped (lent (bor file_e) (bor longer_e)) (handed file_e longer_e)) (accept (longer_as 3)) (accept (longer_as 4)) (refuse 12 3)  -- pool_of: as many slots as the table has cells
    ∷ row check (require (eqb 14 13) 12 2) (refuse 12 2) fine (refuse 12 3)  -- same_cell
    ∷ row check (asked pool_e (kind.set_of (kind.class ∷ [])) 3) (refuse 7 3) (refuse 8 3) fine  -- check_asked
    ∷ row whole_number (twos 32 0xFFFFFFFF) (negsuc 0) (pos 0xFFFFFFFF) (negsuc 1)  -- number_at of an Integer
    ∷ row whole_number (twos 64 0x8000000000000000) (negsuc 0x7FFFFFFFFFFFFFFF) (pos 0x8000000000000000) (negsuc 0)  -- number_at of a Long
    ∷ row literal (single 0x7F800001) (float_nan 0x7F800001) (float_nan 0x7FC00000) (float (of_bits binary32 0x7FC00000))  -- float_of
    ∷ row literal (twofold 0x7FF0000000000000) (double (of_bits binary64 0x7FF0000000000000)) (double_nan 0x7FF0000000000000) (long (pos 0x7FF0000000000000))  -- double_of
    ∷ row literal (number_at file_c 3 11) (integer (negsuc 0)) (integer (pos 0xFFFFFFFF)) (float_nan 0xFFFFFFFF)  -- number_at
    ∷ row num (bits_in (accept (integer (negsuc 0)))) 0xFFFFFFFF 0 1  -- bits_of
    ∷ row num (bits_of (integer (negsuc 0))) 0xFFFFFFFF 0xFFFFFFFFFFFFFFFF 1  -- Literal::bits: a sign that is carried on
    ∷ row (answer literal) (lookup file_c (0 ∷ 10 ∷ []) (literal_at 1)) (accept (integer (negsuc 0))) (accept (integer (negsuc 2147483647))) (refuse 8 1)  -- literal: D's answer; a refusal
    ∷ row (answer (λ b. num (bit b))) (lookup file_m table_e (word_at 2)) (accept false) (accept true) (refuse 9 2)  -- text_or_raw
    ∷ row span (span_in (lookup file_e table_e (span_at 2))) (record { from = 16; to = 17 }) (record { from = 0; to = 0 }) (record { from = 14; to = 17 })  -- utf8_span
    ∷ row nums (bytes_in (lookup file_e table_e (bytes_at 2))) (0x41 ∷ []) [] (0 ∷ 1 ∷ 0x41 ∷ [])  -- utf8_part
    ∷ row (answer num) (lookup file_e table_e (class_at 1)) (accept 2) (accept 1) (refuse 8 1)  -- class_name
    ∷ row (answer num) (lookup file_q table_q (module_at 1)) (accept 2) (accept 1) (refuse 8 1)  -- module_name
    ∷ row (answer num) (lookup file_q table_q (package_at 1)) (refuse 8 1) (accept 2) (refuse 8 2)  -- package_name of a Module
    ∷ row (answer num) (lookup file_r table_e (method_type_at 1)) (accept 2) (accept 1) (refuse 11 1)  -- method_type
    ∷ row (answer named) (lookup file_s (0 ∷ 10 ∷ 15 ∷ 19 ∷ []) (named_at 1)) (refuse 9 1) (accept (pair 2 3)) (refuse 9 3)  -- name_and_type
    ∷ row (answer member) (lookup file_o table_o (member_at 2)) (accept member_o) (accept (record { tag = 10; class = 5; name = 5; descriptor = 6 })) (accept (record { tag = 9; class = 3; name = 5; descriptor = 6 }))  -- member_reference
    ∷ row (answer held) (lookup file_o table_o (handle_at 1)) (accept (record { kind = 1; member = member_o })) (accept (record { kind = 5; member = member_o })) (refuse 8 1)  -- method_handle
    ∷ row (answer indexed) (lookup file_t table_t (dynamic_at 1)) (accept (record { index = 7; named = pair 3 4 })) (accept (record { index = 2; named = pair 3 4 })) (accept (record { index = 7; named = pair 4 3 }))  -- dynamic_constant
    ∷ row (answer indexed) (lookup file_t table_t (invoke_dynamic_at 5)) (accept (record { index = 9; named = pair 3 7 })) (accept (record { index = 7; named = pair 3 7 })) (refuse 8 5)  -- invoke_dynamic
    ∷ row (tabled num) (list_of 5 5) (accept 4, 1 ∷ 2 ∷ 3 ∷ 4 ∷ 0 ∷ []) (accept 0, 0 ∷ 0 ∷ 0 ∷ 0 ∷ 0 ∷ []) (accept 4, 4 ∷ 3 ∷ 2 ∷ 1 ∷ 0 ∷ [])  -- dependants: an empty list; a falling one
    ∷ row (tabled num) (list_of 5 3) (refuse 13 4, 0 ∷ 0 ∷ 0 ∷ []) (refuse 13 7, 0 ∷ 0 ∷ 0 ∷ []) (refuse 13 4, 1 ∷ 2 ∷ 3 ∷ [])  -- dependants: an invented number needed; a list that is kept
    ∷ []
