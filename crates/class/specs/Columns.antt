-- The lent columns that members and attributes go into. Document 01, "File and lent tables". Assumes nothing.
use Rattle.std.specs.Prelude.{ℕ, min, List, [], ◌∷◌, ◌++◌, map, length, replicate}
use Rattle.reads.specs.Answer.{Answer}
use Rattle.reads.specs.Tables.{after}
use Rattle.attributes.specs.declared.Attribute.{Attribute}
use Rattle.class.specs.Members.{Whole}
use Rattle.class.specs.Class.{Tables, Rooms}

-- the numbers of a member record, a column each
pub data Number : Type 0 where
  Flags : Number
  Names : Number
  Types : Number
  Firsts : Number
  Counts : Number

abbrev pub number : Number → Whole → ℕ
number Flags w = w.member.flags
number Names w = w.member.name
number Types w = w.member.descriptor
number Firsts w = w.first
number Counts w = w.member.count

-- the numbers of an attribute record
pub data Part : Type 0 where
  Titles : Part
  Bodies : Part
  Lengths : Part

abbrev pub part : Part → Attribute → ℕ
part Titles a = a.name
part Bodies a = a.start
part Lengths a = a.size

-- all columns
pub record Columns : Type 0 where
  pub member : Number → List ℕ
  pub attribute : Part → List ℕ

abbrev pub five : List ℕ → List ℕ → List ℕ → List ℕ → List ℕ → Number → List ℕ
five flags names types firsts counts Flags = flags
five flags names types firsts counts Names = names
five flags names types firsts counts Types = types
five flags names types firsts counts Firsts = firsts
five flags names types firsts counts Counts = counts

abbrev pub three : List ℕ → List ℕ → List ℕ → Part → List ℕ
three titles bodies lengths Titles = titles
three titles bodies lengths Bodies = bodies
three titles bodies lengths Lengths = lengths

abbrev pub lent : List ℕ → List ℕ → List ℕ → List ℕ → List ℕ → List ℕ → List ℕ → List ℕ → Columns
lent flags names types firsts counts titles bodies lengths = record { member = five flags names types firsts counts; attribute = three titles bodies lengths }

-- the records that there is room for: the shortest column says it
unfoldable pub member_room : Columns → ℕ
member_room c = min (length (c.member Flags)) (min (length (c.member Names)) (min (length (c.member Types)) (min (length (c.member Firsts)) (length (c.member Counts)))))

abbrev pub room_of : List ℕ → List ℕ → List ℕ → ℕ
room_of titles bodies lengths = min (min (length titles) (length bodies)) (length lengths)

abbrev pub attribute_room : Columns → ℕ
attribute_room c = room_of (c.attribute Titles) (c.attribute Bodies) (c.attribute Lengths)

-- the cells of all, one after the other
abbrev pub gathered : {R : Type 0} → (R → List ℕ) → List R → List ℕ
gathered f [] = []
gathered f (w ∷ ws) = f w ++ gathered f ws

-- one number of each attribute of a member
abbrev pub of_each : (Attribute → ℕ) → Whole → List ℕ
of_each f w = map f w.attributes

-- what becomes of each column: `member` says it of a column of member records, by the number of one member, `attribute` of one of attribute records, by the number of one attribute
abbrev pub each_column : ((Whole → ℕ) → List ℕ → List ℕ) → ((Attribute → ℕ) → List ℕ → List ℕ) → Columns → Columns
each_column member attribute c = record { member = λ k. member (number k) (c.member k); attribute = λ k. attribute (part k) (c.attribute k) }

abbrev pub zeros : Columns → Columns
zeros c = each_column (λ f t. replicate (length t) 0) (λ f t. replicate (length t) 0) c

-- the cells of a column of member records, and of one of attribute records: the class's own last
abbrev pub member_cells : (Whole → ℕ) → Tables → List ℕ
member_cells f t = map f (t.fields ++ t.methods)

abbrev pub attribute_cells : (Attribute → ℕ) → Tables → List ℕ
attribute_cells f t = gathered (of_each f) (t.fields ++ t.methods) ++ map f t.own

-- the columns after a call that answered so
abbrev pub tabled : Columns → Answer Tables → Columns
tabled c x = each_column (λ f t. after 0 (member_cells f) (length t) x) (λ f t. after 0 (attribute_cells f) (length t) x) c

-- the room of lent tables: of the pool's table and of the interfaces their lengths, of records that of the shortest column
abbrev pub rooms_of : ℕ → ℕ → Columns → Rooms
rooms_of cells interfaces c = record { cells = cells; interfaces = interfaces; members = member_room c; attributes = attribute_room c }
