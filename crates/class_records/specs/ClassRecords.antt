-- A class file whose members and attributes become records in lent tables beside the columns. Document 01, "File and lent tables". Assumes nothing.
use Rattle.std.specs.Prelude.{ℕ, min, List, [], ◌∷◌, ◌++◌, map}
use Rattle.reads.specs.Answer.{Answer}
use Rattle.attributes.specs.declared.Attribute.{Attribute as FramedAttribute}
use Rattle.class.specs.Members.{Whole}
use Rattle.class.specs.Class.{Rooms, Class, class_file}
use Rattle.class.specs.Columns.{Columns, member_room, attribute_room}
use Rattle.records.specs.declared.Member.{Member}
use Rattle.records.specs.declared.Attribute.{Attribute}

-- the room of lent tables where a table of n member records and one of k attribute records are lent too: of each sort, the shortest of the columns and of the table says it
abbrev pub rooms_with : ℕ → ℕ → Columns → ℕ → ℕ → Rooms
rooms_with cells interfaces c n k = record { cells = cells; interfaces = interfaces; members = min n (member_room c); attributes = min k (attribute_room c) }

abbrev pub class_with : List ℕ → ℕ → ℕ → Columns → ℕ → ℕ → Answer Class
class_with s cells interfaces c n k = class_file s (rooms_with cells interfaces c n k)

-- a member as a record
abbrev pub record_of : Whole → Member
record_of w = record { flags = w.member.flags; name = w.member.name; descriptor = w.member.descriptor; first_attribute = w.first; attributes = w.member.count }

-- an accepted file's members: fields, then methods
abbrev pub members_in : Class → List Whole
members_in x = x.tables.fields ++ x.tables.methods

abbrev pub records_of : Class → List Member
records_of x = map record_of (members_in x)

-- an attribute as a record
abbrev pub attribute_record_of : FramedAttribute → Attribute
attribute_record_of a = record { name = a.name; body = a.start; length = a.size }

-- the attributes of these members, one member after the other
unfoldable pub attributes_of : List Whole → List FramedAttribute
attributes_of [] = []
attributes_of (w ∷ ws) = w.attributes ++ attributes_of ws

-- an accepted file's attributes: the members', then the class's own
abbrev pub attributes_in : Class → List FramedAttribute
attributes_in x = attributes_of (members_in x) ++ x.tables.own

abbrev pub attribute_records_of : Class → List Attribute
attribute_records_of x = map attribute_record_of (attributes_in x)
