-- A statement: where the parts of an accepted class file stand, and that they keep document 01's rules. Document 01, "File and lent tables" and "Members and lookups". Assumes nothing.
use Rattle.std.specs.Prelude.{ℕ, ◌+◌, ◌*◌, ◌<◌, ◌≡◌, List, [], ◌∷◌, map, true, length, get_or}
use Rattle.reads.specs.Bytes.{num2}
use Rattle.text.specs.Text.{binary}
use Rattle.pool.specs.Kinds as kind
use Rattle.pool.specs.Pool.{Pool, slots}
use Rattle.slot.specs.Slots.{tag_of, field, bytes_of}
use Rattle.attributes.specs.Sound.{Named}
use Rattle.member.specs.declared.Sort.{Sort}
use Rattle.member.specs.declared.Member.{Member}
use Rattle.member.specs.Member.{masked, good_name, good_type, good_shape}
use Rattle.class.specs.Members.{Whole, a_field, a_method}
use Rattle.class.specs.Class.{Front, Class, marked}
use Rattle.sound.specs.Sound.{SoundTables}

-- ---- what stands before the members

-- slot m is a Class entry, and the Utf8 text that it names is a binary name, no array
pub record BinaryClass (p : Pool) (m : ℕ) : Type 0 where
  pub slot : m < slots p
  pub class : tag_of p m ≡ kind.class
  pub name : Named p (field p m 1)
  pub is_binary : binary (bytes_of p (field p m 1)) ≡ true

-- after the pool a u2 each: flags, this, super, the number of interfaces, these; then the fields' number
pub record SoundFront (f : Front) : Type 0 where
  pub flags : f.head.flags ≡ num2 f.pool.pool.file f.pool.next
  pub this : f.head.this ≡ num2 f.pool.pool.file (f.pool.next + 2)
  pub super : f.head.parent ≡ num2 f.pool.pool.file (f.pool.next + 4)
  pub this_is : BinaryClass f.pool.pool f.head.this
  pub super_is : (f.head.parent ≡ 0 → ⊥) → BinaryClass f.pool.pool f.head.parent
  pub number : length f.interfaces ≡ num2 f.pool.pool.file (f.pool.next + 6)
  pub interface : (i : ℕ) → i < length f.interfaces → get_or f.interfaces i 0 ≡ num2 f.pool.pool.file (f.pool.next + 8 + 2 * i)
  pub interface_is : (i : ℕ) → i < length f.interfaces → BinaryClass f.pool.pool (get_or f.interfaces i 0)
  pub fields_at : f.next ≡ f.pool.next + 8 + 2 * length f.interfaces

-- ---- members

-- a member of the sort k whose first byte is `at`: its four u2, and that its name and its descriptor keep their grammar and its shape
pub record RuledMember (k : Sort) (p : Pool) (at : ℕ) (m : Member) : Type 0 where
  pub flags : m.flags ≡ masked k.method (num2 p.file at)
  pub name : m.name ≡ num2 p.file (at + 2)
  pub descriptor : m.descriptor ≡ num2 p.file (at + 4)
  pub count : m.count ≡ num2 p.file (at + 6)
  pub well_named : good_name k (bytes_of p m.name) ≡ true
  pub well_described : good_type k (bytes_of p m.descriptor) ≡ true
  pub well_shaped : good_shape k p m.name m.descriptor ≡ true

-- members from byte `at` on, up to byte `end`: each begins where the one before ends
abbrev pub Ruled : Sort → Pool → ℕ → List Whole → ℕ → Type 0
Ruled k p at [] end = at ≡ end
Ruled k p at (w ∷ ws) end = RuledMember k p at w.member × Ruled k p w.next ws end

-- the slots of their names, and of their descriptors
abbrev pub names : List Whole → List ℕ
names ws = map (λ w. w.member.name) ws

abbrev pub types : List Whole → List ℕ
types ws = map (λ w. w.member.descriptor) ws

-- no two of them agree in the bytes of their name and of their descriptor
pub record NoTwo (p : Pool) (ws : List Whole) : Type 0 where
  pub unlike : (i j : ℕ) → i < j → j < length ws → bytes_of p (get_or (names ws) i 0) ≡ bytes_of p (get_or (names ws) j 0) → bytes_of p (get_or (types ws) i 0) ≡ bytes_of p (get_or (types ws) j 0) → ⊥

-- ---- the whole file

pub record SoundClass (c : Class) : Type 0 where
  pub front : SoundFront c.front
  pub tables : SoundTables c.front.pool.pool c.front.next c.tables
  pub fields_number : length c.tables.fields ≡ num2 c.front.pool.pool.file c.front.next
  pub fields : Ruled a_field c.front.pool.pool (c.front.next + 2) c.tables.fields tables.middle
  pub no_two_fields : NoTwo c.front.pool.pool c.tables.fields
  pub methods_number : length c.tables.methods ≡ num2 c.front.pool.pool.file tables.middle
  pub methods : Ruled (a_method (marked c.front.head.flags)) c.front.pool.pool (tables.middle + 2) c.tables.methods tables.last
  pub no_two_methods : NoTwo c.front.pool.pool c.tables.methods
  pub own_number : length c.tables.own ≡ num2 c.front.pool.pool.file tables.last
