-- The code's own notion: what its steps ask for and leave behind. Assumes nothing.
use Rattle.std.specs.Prelude.{ℕ, ◌-◌, ◌≤◌, ◌<◌, ◌≡◌, List, [], ◌∷◌, map, length, take, drop}
use Rattle.reads.specs.Records.{Many, placed}
use Rattle.attributes.specs.declared.Attribute.{Attribute}
use Rattle.member.specs.declared.Member.{Member}
use Rattle.class.specs.declared.MemberColumns.{MemberColumns}
use Rattle.class.specs.declared.AttributeColumns.{AttributeColumns}
use Rattle.class.specs.Members.{Whole, Reached}
use Rattle.reads.specs.Tables.{padded}
use Rattle.class.specs.Class.{Front, Tables}
use Rattle.class.specs.Columns.{Number, Columns, Names, Types, Part, part, five, three, room_of, member_room, gathered, of_each, each_column, member_cells, attribute_cells}

-- after one member that became record n, its attributes records from `used` on
abbrev pub after_one : Columns → ℕ → ℕ → Whole → Columns
after_one c n used w = each_column (λ f t. placed t n (f w ∷ [])) (λ f t. placed t used (of_each f w)) c

-- after many, from record n on
abbrev pub after_many : Columns → ℕ → ℕ → Many Whole Reached → Columns
after_many c n used m = each_column (λ f t. placed t n (map f m.list)) (λ f t. placed t used (gathered (of_each f) m.list)) c

-- the columns of attributes after some of them, which became records from `used` on
abbrev pub after_records : (Part → List ℕ) → ℕ → Many Attribute ℕ → Part → List ℕ
after_records c used m k = placed (c k) used (map (part k) m.list)

-- the table of the pool and the list of interfaces, after what stands before the members
pub record Fronted : Type 0 where
  pub cells : List ℕ
  pub interfaces : List ℕ

abbrev pub fronted : ℕ → ℕ → Front → Fronted
fronted cells len f = record { cells = padded 0 cells f.pool.pool.cells; interfaces = padded 0 len f.interfaces }

-- after all
abbrev pub after_all : Columns → Tables → Columns
after_all c t = each_column (λ f l. placed l 0 (member_cells f t)) (λ f l. placed l 0 (attribute_cells f t)) c

-- the cells from a up to e
abbrev pub between : ℕ → ℕ → List ℕ → List ℕ
between a e l = take (e - a) (drop a l)

-- what is reached at record n, where records from `first` on are of this sort
abbrev pub reached_at : ℕ → ℕ → ℕ → ℕ → Columns → Reached
reached_at at used first n c = record { at = at; used = used; names = between first n (c.member Names); types = between first n (c.member Types) }

-- what a step needs: the file is not too long, and records up to n and attribute records up to `used` are made
pub record Ready (file : List ℕ) (n at used : ℕ) (c : Columns) : Type 0 where
  pub short : length file ≤ 16777216
  pub roomy : n ≤ member_room c
  pub behind : used ≤ at

-- ---- the code's two structs of lent columns

abbrev pub numbers : MemberColumns → Number → List ℕ
numbers m = five m.flags.now m.names.now m.types.now m.firsts.now m.counts.now

abbrev pub parts : AttributeColumns → Part → List ℕ
parts a = three a.titles.now a.bodies.now a.lengths.now

abbrev pub columns : MemberColumns → AttributeColumns → Columns
columns m a = record { member = numbers m; attribute = parts a }

-- the attribute records that there is room for
abbrev pub limit : AttributeColumns → ℕ
limit a = room_of a.titles.now a.bodies.now a.lengths.now

-- the slices that they hold are still the same
abbrev pub SameNumbers : MemberColumns → MemberColumns → Type 0
SameNumbers m n = (n.flags.ghost_name ≡ m.flags.ghost_name) × ((n.names.ghost_name ≡ m.names.ghost_name) × ((n.types.ghost_name ≡ m.types.ghost_name) × ((n.firsts.ghost_name ≡ m.firsts.ghost_name) × (n.counts.ghost_name ≡ m.counts.ghost_name))))

abbrev pub SameParts : AttributeColumns → AttributeColumns → Type 0
SameParts a b = (b.titles.ghost_name ≡ a.titles.ghost_name) × ((b.bodies.ghost_name ≡ a.bodies.ghost_name) × (b.lengths.ghost_name ≡ a.lengths.ghost_name))

abbrev pub Same : MemberColumns → AttributeColumns → MemberColumns → AttributeColumns → Type 0
Same m a n b = SameNumbers m n × SameParts a b

-- columns of the same lengths
abbrev pub AsLong : {J : Type 0} → (J → List ℕ) → (J → List ℕ) → Type 0
AsLong {J} c d = (j : J) → length (c j) ≡ length (d j)

pub record Long (c d : Columns) : Type 0 where
  pub members : AsLong c.member d.member
  pub attributes : AsLong c.attribute d.attribute

-- record n is within each of them
abbrev pub InNumbers : ℕ → MemberColumns → Type 0
InNumbers n m = (n < length m.flags.now) × ((n < length m.names.now) × ((n < length m.types.now) × ((n < length m.firsts.now) × (n < length m.counts.now))))

abbrev pub InParts : ℕ → AttributeColumns → Type 0
InParts n a = (n < length a.titles.now) × ((n < length a.bodies.now) × (n < length a.lengths.now))

-- the columns of members alone
abbrev pub rows : (Number → List ℕ) → Columns
rows c = record { member = c; attribute = λ j. [] }

-- a member with what its record holds, and no more
abbrev pub only : Member → ℕ → Whole
only m first = record { member = m; first = first; attributes = []; next = 0 }
