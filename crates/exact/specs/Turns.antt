-- A statement: whose turn it is in a class file, everything before it being good. Document 01, "File and lent tables": interfaces, fields, methods, attributes, in the order of the bytes. Assumes nothing.
use Rattle.std.specs.Prelude.{ℕ, ◌+◌, ◌≡◌, List, true, false, length}
use Rattle.reads.specs.Answer.{accept}
use Rattle.reads.specs.Bytes.{u2}
use Rattle.pool.specs.Pool.{Pool, Whole as WholePool}
use Rattle.checks.specs.Checks.{pool}
use Rattle.reads.specs.Records.{Many, column}
use Rattle.attributes.specs.Attributes.{record_at, body_end, framed}
use Rattle.attributes.specs.declared.Attribute.{Attribute}
use Rattle.member.specs.Member.{member_at}
use Rattle.member.specs.declared.Sort.{Sort}
use Rattle.member.specs.declared.Member.{Member}
use Rattle.class_head.specs.Header.{head_at, interface_at, past}
use Rattle.class_head.specs.declared.ClassHead.{ClassHead}
use Rattle.class.specs.Members.{Whole, Reached, a_field, a_method, begun_at, whole_at, reach, sort_at}
use Rattle.class.specs.Class.{Rooms, Front, marked, front_at}
use Rattle.exact.specs.Stops.{Stop}

module _ (s : List ℕ) (rooms : Rooms) where
  -- the pool, flags, this and super are good, and an interface has the fault
  pub record InInterface (Fault : Pool → ℕ → ℕ → Type 0) : Type 0 where
    pub whole : WholePool
    pub good_pool : accept whole ≡ pool s rooms.cells
    pub head : ClassHead
    pub good_head : accept head ≡ head_at whole.pool whole.next
    pub number : ℕ
    pub was_read : accept number ≡ u2 whole.pool.file (whole.next + 6)
    pub stop : Stop (interface_at whole.pool rooms.interfaces) past number 0 (whole.next + 6 + 2) (Fault whole.pool)

  -- members of the sort k, record n the first of them, their number at byte `at`, `used` attribute records before theirs: one of them has the fault
  pub record OfSort (k : Sort) (p : Pool) (n at used : ℕ) (Fault : ℕ → Reached → Type 0) : Type 0 where
    pub number : ℕ
    pub was_read : accept number ≡ u2 p.file at
    pub stop : Stop (whole_at k p rooms.members rooms.attributes) reach number n (begun_at (at + 2) used) Fault

  -- what stands before the members is good
  pub record Begun : Type 0 where
    pub front : Front
    pub good_front : accept front ≡ front_at s rooms.cells rooms.interfaces

  abbrev pub its_pool : Begun → Pool
  its_pool b = b.front.pool.pool

  -- .. and so are the fields
  pub record Halfway : Type 0 where
    pub begun : Begun
    pub fields : Many Whole Reached
    pub good_fields : accept fields ≡ sort_at a_field (its_pool begun) rooms.members rooms.attributes 0 begun.front.next 0

  -- the sort of its methods
  abbrev pub of_methods : Begun → Sort
  of_methods b = a_method (marked b.front.head.flags)

  -- a field has the fault; or the fields are good, and a method has it
  pub data InMember (Fault : Sort → Pool → ℕ → Reached → Type 0) : Type 0 where
    at_field : (b : Begun) → OfSort a_field (its_pool b) 0 b.front.next 0 (Fault a_field (its_pool b)) → InMember Fault
    at_method : (h : Halfway) → OfSort (of_methods h.begun) (its_pool h.begun) (length h.fields.list) h.fields.end.at h.fields.end.used (Fault (of_methods h.begun) (its_pool h.begun)) → InMember Fault

  -- .. and so are the methods; the class's own attributes are so many
  pub record Tailed : Type 0 where
    pub half : Halfway
    pub methods : Many Whole Reached
    pub good_methods : accept methods ≡ sort_at (of_methods half.begun) (its_pool half.begun) rooms.members rooms.attributes (length half.fields.list) half.fields.end.at half.fields.end.used
    pub number : ℕ
    pub was_read : accept number ≡ u2 (its_pool half.begun).file methods.end.at

  abbrev pub tail_pool : Tailed → Pool
  tail_pool t = its_pool t.half.begun

  -- one of the class's own attributes has the fault
  pub record InOwn (Fault : Pool → ℕ → ℕ → Type 0) : Type 0 where
    pub tail : Tailed
    pub stop : Stop (record_at true (tail_pool tail) rooms.attributes) body_end tail.number tail.methods.end.used (tail.methods.end.at + 2) (Fault (tail_pool tail))

  -- a member is good up to its attributes, and one of these has the fault
  pub record OfMember (k : Sort) (p : Pool) (n : ℕ) (r : Reached) (Fault : Pool → ℕ → ℕ → Type 0) : Type 0 where
    pub member : Member
    pub good_member : accept member ≡ member_at k p rooms.members n r.at r.names r.types
    pub stop : Stop (record_at false p rooms.attributes) body_end member.count r.used (r.at + 8) (Fault p)

  -- everything up to the class's last attribute is good
  pub record Ended : Type 0 where
    pub tail : Tailed
    pub own : Many Attribute ℕ
    pub good_own : accept own ≡ framed true (tail_pool tail) rooms.attributes tail.number tail.methods.end.used (tail.methods.end.at + 2)

  abbrev pub end_pool : Ended → Pool
  end_pool e = tail_pool e.tail

  -- the names and bodies of the class's own attributes
  abbrev pub names_of : Ended → List ℕ
  names_of e = column (λ a. a.name) e.own

  abbrev pub bodies_of : Ended → List ℕ
  bodies_of e = column (λ a. a.start) e.own
