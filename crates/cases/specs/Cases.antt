-- Worked cases: A to P of document 01's "Files to try", one table of them, and one statement that the definitions answer each so. Assumes nothing.
use Rattle.std.specs.Prelude.{ℕ, ◌≡◌, refl, List, [], ◌∷◌, Bool, true, false, pos, negsuc}
use Rattle.reads.specs.Answer.{Answer, accept, refuse, mapped, each}
use Rattle.reads.specs.Bytes.{within, u1, u2, u4, skipped}
use Rattle.reads.specs.Tables.{padded, after}
use Rattle.text.specs.Text.{one_of, none_of, before, same, begins, form_length, covered, text_form, is_text, unqualified, onto, split, all_of, binary, follows, walked, whole, is_init, is_clinit, method_name, escape, module_byte, module_form, module_name}
use Rattle.descriptors.specs.Descriptors.{stands, class_length, on_more, base_length, type_length, depth, field_descriptor, array_descriptor, return_descriptor, closing, returned, method_descriptor, returns_void, takes_nothing}
use Rattle.pool.specs.Kinds.{has}
use Rattle.pool.specs.Rows.{row_of}
use Rattle.pool.specs.Pool.{second_width, wide, entry_at, slot_at, entries, all_entries, header_of, read_pool, slots}
use Rattle.slot.specs.Slots.{tag_of, field, bytes_of, of_kind, text_at, text_of, class_name, class_text, typed}
use Rattle.lookups.specs.declared.Member.{Member}
use Rattle.lookups.specs.declared.Held.{Held}
use Rattle.handed.specs.Handed.{agree, judged, handed, lookup, asked}
use Rattle.literal.specs.Values.{Literal, integer, long, string, twos, single, twofold, number_at}
use Rattle.values.specs.Lookups.{literal_of, literal_at, text_at as word_at, bytes_at}
use Rattle.reach.specs.Reach.{named, refers_to, any_of, reaches, sieve, dependants_in}
use Rattle.dependants.specs.Dependants.{dependants_at, dependants}
use Rattle.lookups.specs.Lookups.{name_slot, class_at, member_of, member_at, handle_at}
use Rattle.checks.specs.Checks.{reference, references, handled, handle, member, name_and_type, obey, checked, pool}

-- what is asked of a file, and what is answered, with the lent table afterwards
pub data Ask : Type 0 where
  read_with : ℕ → Ask
  class_asked : List ℕ → ℕ → Ask
  member_asked : List ℕ → ℕ → Ask
  handle_asked : List ℕ → ℕ → Ask
  literal_asked : List ℕ → ℕ → Ask
  text_asked : List ℕ → ℕ → Ask
  bytes_asked : List ℕ → ℕ → Ask
  dependants_asked : List ℕ → ℕ → ℕ → Ask

pub data Said : Type 0 where
  p_is : Answer ℕ → List ℕ → Said
  slot_is : Answer ℕ → Said
  member_is : Answer Member → Said
  handle_is : Answer Held → Said
  literal_is : Answer Literal → Said
  text_is : Answer Bool → Said
  bytes_are : Answer (List ℕ) → Said
  list_is : Answer (List ℕ) → List ℕ → Said

abbrev pub says : List ℕ → Ask → Said
says s (read_with room) = p_is (mapped (λ w. slots w.pool) (pool s room)) (after 0 (λ w. w.pool.cells) room (pool s room))
says s (class_asked table n) = slot_is (lookup s table (class_at n))
says s (member_asked table n) = member_is (lookup s table (member_at n))
says s (handle_asked table n) = handle_is (lookup s table (handle_at n))
says s (literal_asked table n) = literal_is (lookup s table (literal_at n))
says s (text_asked table n) = text_is (lookup s table (word_at n))
says s (bytes_asked table n) = bytes_are (lookup s table (bytes_at n))
says s (dependants_asked table n room) = list_is (dependants s table n room) (after 0 (λ xs. xs) room (dependants s table n room))

pub record Case : Type 0 where
  pub file : List ℕ
  pub ask : Ask
  pub said : Said

abbrev pub case : List ℕ → Ask → Said → Case
case f a s = record { file = f; ask = a; said = s }

-- CA FE BA BE 00 00 and the major
abbrev pub at_major : ℕ → List ℕ → List ℕ
at_major m bs = 0xCA ∷ 0xFE ∷ 0xBA ∷ 0xBE ∷ 0 ∷ 0 ∷ 0 ∷ m ∷ bs

abbrev pub file_e : List ℕ
file_e = at_major 52 (0 ∷ 3 ∷ 7 ∷ 0 ∷ 2 ∷ 1 ∷ 0 ∷ 1 ∷ 0x41 ∷ [])

abbrev pub file_m : List ℕ
file_m = at_major 52 (0 ∷ 3 ∷ 8 ∷ 0 ∷ 2 ∷ 1 ∷ 0 ∷ 3 ∷ 0xED ∷ 0xA0 ∷ 0x80 ∷ [])

abbrev pub file_o : List ℕ
file_o = at_major 52 (0 ∷ 7 ∷ 0x0F ∷ 1 ∷ 0 ∷ 2 ∷ 9 ∷ 0 ∷ 3 ∷ 0 ∷ 4 ∷ 7 ∷ 0 ∷ 5 ∷ 0x0C ∷ 0 ∷ 5 ∷ 0 ∷ 6 ∷ 1 ∷ 0 ∷ 1 ∷ 0x41 ∷ 1 ∷ 0 ∷ 1 ∷ 0x49 ∷ [])

abbrev pub table_o : List ℕ
table_o = 0 ∷ 10 ∷ 14 ∷ 19 ∷ 22 ∷ 27 ∷ 31 ∷ []

abbrev pub member_o : Member
member_o = record { tag = 9; class = 5; name = 5; descriptor = 6 }

abbrev pub cases : List Case
cases =
    case (at_major 52 (0 ∷ 0 ∷ [])) (read_with 3) (p_is (accept 1) (0 ∷ 0 ∷ 0 ∷ []))  -- A
    ∷ case (at_major 52 (0 ∷ 1 ∷ [])) (read_with 3) (p_is (accept 1) (0 ∷ 0 ∷ 0 ∷ []))  -- B
    ∷ case (at_major 52 (0 ∷ 2 ∷ 3 ∷ 0xFF ∷ 0xFF ∷ 0xFF ∷ 0xFF ∷ [])) (read_with 2) (p_is (accept 2) (0 ∷ 10 ∷ []))  -- C
    ∷ case (at_major 52 (0 ∷ 2 ∷ 3 ∷ 0x80 ∷ 0 ∷ 0 ∷ 0 ∷ [])) (read_with 2) (p_is (accept 2) (0 ∷ 10 ∷ []))  -- D
    ∷ case file_e (read_with 3) (p_is (accept 3) (0 ∷ 10 ∷ 13 ∷ []))  -- E
    ∷ case (at_major 52 (0 ∷ 2 ∷ 7 ∷ 0 ∷ 1 ∷ [])) (read_with 3) (p_is (refuse 6 1) (0 ∷ 0 ∷ 0 ∷ []))  -- F
    ∷ case (at_major 52 (0 ∷ 2 ∷ 7 ∷ 0 ∷ 2 ∷ [])) (read_with 3) (p_is (refuse 7 1) (0 ∷ 0 ∷ 0 ∷ []))  -- G
    ∷ case (at_major 52 (0 ∷ 2 ∷ 7 ∷ 0 ∷ 0 ∷ [])) (read_with 3) (p_is (refuse 8 1) (0 ∷ 0 ∷ 0 ∷ []))  -- H
    ∷ case (at_major 52 (0 ∷ 2 ∷ 5 ∷ 0 ∷ 0 ∷ 0 ∷ 0 ∷ 0 ∷ 0 ∷ 0 ∷ 1 ∷ [])) (read_with 4) (p_is (accept 3) (0 ∷ 10 ∷ 0 ∷ 0 ∷ []))  -- I
    ∷ case (at_major 52 (0 ∷ 4 ∷ 5 ∷ 0 ∷ 0 ∷ 0 ∷ 0 ∷ 0 ∷ 0 ∷ 0 ∷ 1 ∷ 8 ∷ 0 ∷ 2 ∷ [])) (read_with 4) (p_is (refuse 8 3) (0 ∷ 0 ∷ 0 ∷ 0 ∷ []))  -- J
    ∷ case (at_major 50 (0 ∷ 2 ∷ 0x10 ∷ 0 ∷ 0 ∷ [])) (read_with 2) (p_is (refuse 4 10) (0 ∷ 0 ∷ []))  -- K
    ∷ case (at_major 51 (0 ∷ 2 ∷ 0x10 ∷ 0 ∷ 0 ∷ [])) (read_with 2) (p_is (refuse 8 1) (0 ∷ 0 ∷ []))  -- L
    ∷ case file_m (read_with 3) (p_is (accept 3) (0 ∷ 10 ∷ 13 ∷ []))  -- M
    ∷ case (at_major 52 (0 ∷ 3 ∷ 7 ∷ 0 ∷ 2 ∷ 1 ∷ 0 ∷ 3 ∷ 0xED ∷ 0xA0 ∷ 0x80 ∷ [])) (read_with 3) (p_is (refuse 9 1) (0 ∷ 0 ∷ 0 ∷ []))  -- N
    ∷ case file_o (read_with 8) (p_is (accept 7) (0 ∷ 10 ∷ 14 ∷ 19 ∷ 22 ∷ 27 ∷ 31 ∷ 0 ∷ []))  -- O
    ∷ case (at_major 52 (0 ∷ 6 ∷ 0x0A ∷ 0 ∷ 2 ∷ 0 ∷ 3 ∷ 7 ∷ 0 ∷ 5 ∷ 0x0C ∷ 0 ∷ 5 ∷ 0 ∷ 4 ∷ 0x0C ∷ 0 ∷ 5 ∷ 0 ∷ 3 ∷ 1 ∷ 0 ∷ 1 ∷ 0x41 ∷ [])) (read_with 6) (p_is (refuse 8 1) (0 ∷ 0 ∷ 0 ∷ 0 ∷ 0 ∷ 0 ∷ []))  -- P
    ∷ case [] (read_with 1) (p_is (refuse 2 0) (0 ∷ []))  -- an empty file
    ∷ case (at_major 52 []) (read_with 1) (p_is (refuse 2 8) (0 ∷ []))  -- eight bytes alone
    ∷ case (at_major 52 (0 ∷ 3 ∷ 7 ∷ 0 ∷ 2 ∷ 1 ∷ 0 ∷ 0 ∷ [])) (read_with 3) (p_is (refuse 10 1) (0 ∷ 0 ∷ 0 ∷ []))  -- a class without a name
    ∷ case (at_major 52 (0 ∷ 3 ∷ 7 ∷ 0 ∷ 2 ∷ 1 ∷ 0 ∷ 2 ∷ 0x5B ∷ 0x56 ∷ [])) (read_with 3) (p_is (refuse 11 1) (0 ∷ 0 ∷ 0 ∷ []))  -- an array of V
    ∷ case (at_major 52 (0 ∷ 4 ∷ 0x0C ∷ 0 ∷ 2 ∷ 0 ∷ 3 ∷ 1 ∷ 0 ∷ 1 ∷ 0x41 ∷ 1 ∷ 0 ∷ 1 ∷ 0x80 ∷ [])) (read_with 4) (p_is (accept 4) (0 ∷ 10 ∷ 15 ∷ 19 ∷ []))  -- a raw descriptor that nothing refers to
    ∷ case (at_major 52 (0 ∷ 2 ∷ 5 ∷ 0 ∷ 0 ∷ 0 ∷ 0 ∷ 0 ∷ 0 ∷ 0 ∷ 1 ∷ [])) (read_with 2) (p_is (refuse 5 2) (0 ∷ 0 ∷ []))  -- I without a cell for Unused
    ∷ case file_e (class_asked (0 ∷ 10 ∷ 13 ∷ []) 1) (slot_is (accept 2))
    ∷ case file_e (class_asked (0 ∷ 10 ∷ 13 ∷ 0 ∷ 0 ∷ []) 1) (slot_is (accept 2))  -- further cells, all zero
    ∷ case file_e (class_asked (0 ∷ 10 ∷ 13 ∷ 0 ∷ 1 ∷ []) 1) (slot_is (refuse 12 4))
    ∷ case file_e (class_asked (0 ∷ 10 ∷ 14 ∷ []) 1) (slot_is (refuse 12 2))
    ∷ case file_e (class_asked (0 ∷ 10 ∷ []) 1) (slot_is (refuse 12 2))  -- a short table
    ∷ case file_e (class_asked (0 ∷ 11 ∷ []) 1) (slot_is (refuse 12 1))
    ∷ case file_e (class_asked (0 ∷ 10 ∷ 13 ∷ []) 2) (slot_is (refuse 8 2))
    ∷ case file_e (class_asked (0 ∷ 10 ∷ 13 ∷ []) 0) (slot_is (refuse 8 0))
    ∷ case file_e (class_asked (0 ∷ 10 ∷ 13 ∷ []) 3) (slot_is (refuse 7 3))
    ∷ case file_o (member_asked table_o 2) (member_is (accept member_o))
    ∷ case file_o (handle_asked table_o 1) (handle_is (accept (record { kind = 1; member = member_o })))
    ∷ case (at_major 52 (0 ∷ 2 ∷ 3 ∷ 0xFF ∷ 0xFF ∷ 0xFF ∷ 0xFF ∷ [])) (literal_asked (0 ∷ 10 ∷ []) 1) (literal_is (accept (integer (negsuc 0))))  -- C: Integer -1
    ∷ case (at_major 52 (0 ∷ 2 ∷ 3 ∷ 0x80 ∷ 0 ∷ 0 ∷ 0 ∷ [])) (literal_asked (0 ∷ 10 ∷ []) 1) (literal_is (accept (integer (negsuc 2147483647))))  -- D: -2147483648
    ∷ case (at_major 52 (0 ∷ 2 ∷ 5 ∷ 0 ∷ 0 ∷ 0 ∷ 0 ∷ 0 ∷ 0 ∷ 0 ∷ 1 ∷ [])) (literal_asked (0 ∷ 10 ∷ 0 ∷ []) 1) (literal_is (accept (long (pos 1))))  -- I: Long 1
    ∷ case (at_major 52 (0 ∷ 2 ∷ 5 ∷ 0 ∷ 0 ∷ 0 ∷ 0 ∷ 0 ∷ 0 ∷ 0 ∷ 1 ∷ [])) (literal_asked (0 ∷ 10 ∷ 0 ∷ []) 2) (literal_is (refuse 8 2))  -- I: Unused is no literal
    ∷ case file_m (literal_asked (0 ∷ 10 ∷ 13 ∷ []) 1) (literal_is (accept (string 2)))  -- M: a String by its Utf8 slot
    ∷ case file_m (text_asked (0 ∷ 10 ∷ 13 ∷ []) 2) (text_is (accept false))  -- M: raw
    ∷ case file_m (bytes_asked (0 ∷ 10 ∷ 13 ∷ []) 2) (bytes_are (accept (0xED ∷ 0xA0 ∷ 0x80 ∷ [])))  -- M: its bytes
    ∷ case file_e (text_asked (0 ∷ 10 ∷ 13 ∷ []) 2) (text_is (accept true))  -- E: text
    ∷ case file_e (text_asked (0 ∷ 10 ∷ 13 ∷ []) 1) (text_is (refuse 8 1))
    ∷ case file_e (dependants_asked (0 ∷ 10 ∷ 13 ∷ []) 2 2) (list_is (accept (1 ∷ [])) (1 ∷ 0 ∷ []))  -- E: dependants of 2 are 1
    ∷ case file_o (dependants_asked table_o 5 5) (list_is (accept (1 ∷ 2 ∷ 3 ∷ 4 ∷ [])) (1 ∷ 2 ∷ 3 ∷ 4 ∷ 0 ∷ []))  -- O: of 5
    ∷ case file_o (dependants_asked table_o 6 3) (list_is (accept (1 ∷ 2 ∷ 4 ∷ [])) (1 ∷ 2 ∷ 4 ∷ []))  -- O: of 6
    ∷ case file_o (dependants_asked table_o 1 0) (list_is (accept []) [])  -- O: of 1 none
    ∷ case file_o (dependants_asked table_o 5 3) (list_is (refuse 13 4) (0 ∷ 0 ∷ 0 ∷ []))  -- O: three cells lent
    ∷ case file_o (dependants_asked table_o 7 3) (list_is (refuse 7 7) (0 ∷ 0 ∷ 0 ∷ []))  -- O: no slot 7
    ∷ case file_o (dependants_asked table_o 0 1) (list_is (accept []) (0 ∷ []))  -- O: slot 0 has none
    ∷ case file_e (dependants_asked (0 ∷ 10 ∷ 14 ∷ []) 2 2) (list_is (refuse 12 2) (0 ∷ 0 ∷ []))  -- E: another table
    ∷ case file_o (dependants_asked table_o 5 2) (list_is (refuse 13 4) (0 ∷ 0 ∷ []))  -- O: of 5, two cells lent
    ∷ case file_o (dependants_asked table_o 6 2) (list_is (refuse 13 3) (0 ∷ 0 ∷ []))  -- O: of 6, two cells lent
    ∷ case (at_major 52 (0 ∷ 3 ∷ 7 ∷ 0 ∷ 2 ∷ 1 ∷ 0 ∷ 1 ∷ 0x41 ∷ 0xFF ∷ [])) (read_with 3) (p_is (accept 3) (0 ∷ 10 ∷ 13 ∷ []))  -- a byte after the pool of E
    ∷ []

-- each case of a table answers as it says
abbrev pub Shown : List Case → Type 0
Shown [] = Unit {0}
Shown (c ∷ cs) = (says c.file c.ask ≡ c.said) × Shown cs

infixr 5 ◌&◌
◌&◌ : {A B : Type 0} → A → B → A × B
◌&◌ a b = (a, b)

pub a_to_p : Shown cases
unfolding one_of none_of before same begins form_length covered text_form is_text unqualified onto split all_of binary follows walked whole is_init is_clinit
    method_name escape module_byte module_form module_name stands class_length on_more base_length type_length depth field_descriptor array_descriptor
    return_descriptor closing returned method_descriptor returns_void takes_nothing within u1 u2 u4 skipped padded each row_of second_width wide entry_at
    slot_at entries all_entries header_of read_pool tag_of field bytes_of reference references has of_kind handled handle text_at text_of class_name class_text
    typed member name_and_type obey checked pool agree judged handed lookup asked name_slot member_of member_at handle_at twos single twofold number_at
    literal_of literal_at word_at bytes_at named refers_to any_of reaches sieve dependants_in dependants_at
a_to_p =
    refl & refl & refl & refl & refl & refl & refl & refl & refl & refl
    & refl & refl & refl & refl & refl & refl & refl & refl & refl & refl
    & refl & refl & refl & refl & refl & refl & refl & refl & refl & refl
    & refl & refl & refl & refl & refl & refl & refl & refl & refl & refl
    & refl & refl & refl & refl & refl & refl & refl & refl & refl & refl
    & refl & refl & refl
    & tt
