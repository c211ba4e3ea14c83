-- A statement: which numbers the refusals of each call may have, of those in document 01's "Refusal numbers". Assumes nothing.
use Rattle.std.specs.Prelude.{ℕ, List, [], ◌∷◌, ◌++◌}

-- the last of document 01's numbers
abbrev pub last : ℕ
last = 18

-- A list is made of the lists of its steps: a number is written where it is given, and a list may have one twice.

-- ---- reads, and the entries

-- a read past the file's end
abbrev pub of_read : List ℕ
of_read = 2 ∷ []

-- the file's first ten bytes: its length, its magic
abbrev pub of_header : List ℕ
of_header = 1 ∷ 3 ∷ of_read

-- an entry: its tag, and a handle's kind
abbrev pub of_entry : List ℕ
of_entry = 4 ∷ of_read

-- one slot read: its cell
abbrev pub of_slot : List ℕ
of_slot = 5 ∷ of_entry

-- the entries read
abbrev pub of_entries : List ℕ
of_entries = of_header ++ of_slot

-- two cells that differ
abbrev pub of_twelve : List ℕ
of_twelve = 12 ∷ []

-- the entries held against a handed table
abbrev pub of_afresh : List ℕ
of_afresh = of_entries ++ of_twelve

-- ---- what a slot must be

-- a number that is a slot
abbrev pub of_range : List ℕ
of_range = 7 ∷ []

-- the kind of a slot that is named
abbrev pub of_kind : List ℕ
of_kind = 8 ∷ []

-- a Utf8 that is text
abbrev pub of_text : List ℕ
of_text = 9 ∷ of_kind

-- a text that is a name
abbrev pub of_spelling : List ℕ
of_spelling = 10 ∷ []

-- a text that is a descriptor
abbrev pub of_descriptor : List ℕ
of_descriptor = 11 ∷ []

-- a class's name
abbrev pub of_name : List ℕ
of_name = of_text ++ of_spelling ++ of_descriptor

-- a NameAndType with a descriptor
abbrev pub of_typed : List ℕ
of_typed = of_text ++ of_descriptor

-- the slot asked for
abbrev pub of_asked : List ℕ
of_asked = of_range ++ of_kind

-- the index of a Utf8
abbrev pub of_index : List ℕ
of_index = of_range ++ of_text

-- an entry's references: to itself, or out of range
abbrev pub of_references : List ℕ
of_references = 6 ∷ of_range

-- the pool's checks: of each entry, its references and what these must be
abbrev pub of_checks : List ℕ
of_checks = of_references ++ of_name

-- the pool
abbrev pub of_pool : List ℕ
of_pool = of_entries ++ of_checks

-- ---- handed tables

-- the entries, where every slot has a cell
abbrev pub of_unbounded : List ℕ
of_unbounded = of_header ++ of_entry

-- a handed table, and every lookup on it: never 5
abbrev pub of_handed : List ℕ
of_handed = of_unbounded ++ of_twelve ++ of_checks

-- room for a list, or for records
abbrev pub of_room : List ℕ
of_room = 13 ∷ []

-- the dependants of a slot
abbrev pub of_dependants : List ℕ
of_dependants = of_handed ++ of_room

-- ---- the class

-- a class named by an index
abbrev pub of_class : List ℕ
of_class = of_range ++ of_kind ++ of_spelling

-- flags, this and super
abbrev pub of_head : List ℕ
of_head = of_read ++ of_class

-- the interfaces
abbrev pub of_interfaces : List ℕ
of_interfaces = of_head ++ of_room

-- bytes left over, or too few
abbrev pub of_end : List ℕ
of_end = 18 ∷ []

-- the body of a BootstrapMethods
abbrev pub of_body : List ℕ
of_body = of_end ++ of_range ++ of_kind

-- the bootstrap indices
abbrev pub of_indices : List ℕ
of_indices = 16 ∷ 17 ∷ []

-- an attribute: its name, its length, its body
abbrev pub of_attribute : List ℕ
of_attribute = of_read ++ of_index

-- one of a member that becomes a record
abbrev pub of_record : List ℕ
of_record = of_attribute ++ of_room

-- one of the class's own
abbrev pub of_own : List ℕ
of_own = of_record ++ of_body

-- a member's name and descriptor
abbrev pub of_parts : List ℕ
of_parts = 15 ∷ of_index ++ of_spelling ++ of_descriptor

-- a member up to its attributes
abbrev pub of_member : List ℕ
of_member = 14 ∷ of_read ++ of_parts ++ of_room

-- fields and methods with their attributes
abbrev pub of_members : List ℕ
of_members = of_member ++ of_record

-- what stands at a byte after the pool
abbrev pub of_bytes : List ℕ
of_bytes = of_interfaces ++ of_members ++ of_own

-- a whole file: all but 12
abbrev pub of_file : List ℕ
of_file = of_pool ++ of_bytes ++ of_indices

-- all of them
abbrev pub lists : List (List ℕ)
lists =
    of_read ∷ of_header ∷ of_entry ∷ of_slot ∷ of_entries ∷ of_twelve ∷ of_afresh
    ∷ of_range ∷ of_kind ∷ of_text ∷ of_spelling ∷ of_descriptor ∷ of_name ∷ of_typed ∷ of_asked ∷ of_index ∷ of_references ∷ of_checks ∷ of_pool
    ∷ of_unbounded ∷ of_handed ∷ of_room ∷ of_dependants
    ∷ of_class ∷ of_head ∷ of_interfaces ∷ of_end ∷ of_body ∷ of_indices ∷ of_attribute ∷ of_record ∷ of_own ∷ of_parts ∷ of_member ∷ of_members
    ∷ of_bytes ∷ of_file ∷ []
