-- A statement: what refusals 13 to 18 of a class file say, and where they stand; everything before them in document 01's order is good. Document 01, "Refusal numbers" and "Members and lookups". Assumes nothing.
use Rattle.std.specs.Prelude.{ℕ, ◌+◌, ◌≤◌, ◌<◌, ◌≡◌, List, Bool, true, false, length}
use Rattle.reads.specs.Answer.{fine, accept, refuse}
use Rattle.reads.specs.Bytes.{num2}
use Rattle.pool.specs.Pool.{Pool, slots}
use Rattle.slot.specs.Slots.{tag_of, field}
use Rattle.bootstrap.specs.Bootstrap.{is_bootstrap, bootstrap_body}
use Rattle.bootstrap.specs.Indices.{bootstraps, below_each, dynamic, bootstrap_index}
use Rattle.attributes.specs.Attributes.{attribute_at, ruled}
use Rattle.attributes.specs.declared.Attribute.{Attribute}
use Rattle.member.specs.Member.{good_shape, twice, text_in, parts_at}
use Rattle.member.specs.declared.Sort.{Sort}
use Rattle.class_head.specs.Header.{class_at}
use Rattle.class.specs.Members.{Reached}
use Rattle.class.specs.Class.{Rooms}
use Rattle.exact.specs.Turns.{InInterface, InMember, InOwn, OfMember, Ended, end_pool, names_of, bodies_of}

-- ---- one interface, one member, one attribute

-- the interface at byte `at`, number n, is good, and there is no room for it
pub record InterfaceFull (p : Pool) (room n at place : ℕ) : Type 0 where
  pub here : place ≡ at
  pub inside : at + 2 ≤ length p.file
  pub good : fine ≡ class_at p at (num2 p.file at)
  pub full : room ≤ n

-- the member that stands at what is reached: its three u2 lie in the file
pub record ReadMember (p : Pool) (r : Reached) (place : ℕ) : Type 0 where
  pub here : place ≡ r.at
  pub inside : r.at + 6 ≤ length p.file

abbrev pub name_at : Pool → Reached → ℕ
name_at p r = num2 p.file (r.at + 2)

abbrev pub type_at : Pool → Reached → ℕ
type_at p r = num2 p.file (r.at + 4)

-- its name and its descriptor are good, its shape is not
pub record BadShape (k : Sort) (p : Pool) (r : Reached) (place : ℕ) : Type 0 where
  pub read : ReadMember p r place
  pub name : fine ≡ text_in k 10 p (r.at + 2) (name_at p r)
  pub descriptor : fine ≡ text_in k 11 p (r.at + 4) (type_at p r)
  pub shape : good_shape k p (name_at p r) (type_at p r) ≡ false

-- its parts are good, and one before it, of its sort, has its name and its descriptor
pub record Duplicate (k : Sort) (p : Pool) (r : Reached) (place : ℕ) : Type 0 where
  pub read : ReadMember p r place
  pub good : fine ≡ parts_at k p r.at (name_at p r) (type_at p r)
  pub again : twice p (name_at p r) (type_at p r) r.names r.types ≡ true

-- its parts are good, none before it is like it, and there is no room for it
pub record MemberFull (k : Sort) (p : Pool) (room n : ℕ) (r : Reached) (place : ℕ) : Type 0 where
  pub read : ReadMember p r place
  pub good : fine ≡ parts_at k p r.at (name_at p r) (type_at p r)
  pub new : twice p (name_at p r) (type_at p r) r.names r.types ≡ false
  pub full : room ≤ n

-- the attribute at byte `at`, record n, is good, its body too where it is the class's own, and there is no room for it
pub record AttributeFull (own : Bool) (p : Pool) (room n at place : ℕ) : Type 0 where
  pub here : place ≡ at
  pub attribute : Attribute
  pub framed : accept attribute ≡ attribute_at p at
  pub good : fine ≡ ruled own p at attribute
  pub full : room ≤ n

-- the attribute at byte `at` is framed, it is BootstrapMethods, and its body is not used up exactly
pub record BadBody (p : Pool) (at place : ℕ) : Type 0 where
  pub here : place ≡ at
  pub attribute : Attribute
  pub framed : accept attribute ≡ attribute_at p at
  pub named : is_bootstrap p attribute.name ≡ true
  pub body : refuse 18 at ≡ bootstrap_body p at attribute.start (attribute.start + attribute.size)

-- ---- of a class file

module _ (s : List ℕ) (rooms : Rooms) (place : ℕ) where
  -- 13: no room for an interface, a member, a member's attribute, or one of the class's own
  pub data NoRoom : Type 0 where
    an_interface : InInterface s rooms (λ p n at. InterfaceFull p rooms.interfaces n at place) → NoRoom
    a_member : InMember s rooms (λ k p n r. MemberFull k p rooms.members n r place) → NoRoom
    an_attribute : InMember s rooms (λ k p n r. OfMember s rooms k p n r (λ p m at. AttributeFull false p rooms.attributes m at place)) → NoRoom
    its_own : InOwn s rooms (λ p n at. AttributeFull true p rooms.attributes n at place) → NoRoom

  -- 14: duplicate member
  abbrev pub Twice : Type 0
  Twice = InMember s rooms (λ k p n r. Duplicate k p r place)

  -- 15: method shape
  abbrev pub Misshapen : Type 0
  Misshapen = InMember s rooms (λ k p n r. BadShape k p r place)

  -- no bytes are left over, and every slot before this one, a Dynamic or an InvokeDynamic, is good
  pub record UpTo (e : Ended s rooms) : Type 0 where
    pub no_bytes : e.own.end ≡ length (end_pool s rooms e).file
    pub slot : place < slots (end_pool s rooms e)
    pub before : (n : ℕ) → n < place → fine ≡ bootstrap_index (end_pool s rooms e) (names_of s rooms e) (bodies_of s rooms e) n
    pub names_one : dynamic (tag_of (end_pool s rooms e) place) ≡ true

  -- 16: its index is below the number of methods of each BootstrapMethods, of which there is not exactly one
  pub record NotOne : Type 0 where
    pub ended : Ended s rooms
    pub up_to : UpTo ended
    pub below : below_each (end_pool s rooms ended) (field (end_pool s rooms ended) place 1) (names_of s rooms ended) (bodies_of s rooms ended) ≡ true
    pub not_one : bootstraps (end_pool s rooms ended) (names_of s rooms ended) (bodies_of s rooms ended) ≡ 1 → ⊥

  -- 17: its index is not
  pub record TooLarge : Type 0 where
    pub ended : Ended s rooms
    pub up_to : UpTo ended
    pub too_large : below_each (end_pool s rooms ended) (field (end_pool s rooms ended) place 1) (names_of s rooms ended) (bodies_of s rooms ended) ≡ false

  -- 18: bytes are left over from this byte on; or one of the class's own attributes, whose first byte this is, has a bad body
  pub data LeftOver : Type 0 where
    bytes : (e : Ended s rooms) → place ≡ e.own.end → (e.own.end ≡ length (end_pool s rooms e).file → ⊥) → LeftOver
    a_body : InOwn s rooms (λ p n at. BadBody p at place) → LeftOver
