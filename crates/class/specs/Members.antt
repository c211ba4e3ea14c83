-- The members of one sort, fields or methods, in order, with their attributes. Document 01, "Members and lookups". Assumes nothing.
use Rattle.std.specs.Prelude.{ℕ, ◌+◌, List, [], ◌∷◌, ◌++◌, Bool, true, false}
use Rattle.reads.specs.Answer.{Answer, accept, ◌>>=◌}
use Rattle.reads.specs.Bytes.{u2}
use Rattle.pool.specs.Pool.{Pool}
use Rattle.reads.specs.Records.{Many, records}
use Rattle.attributes.specs.Attributes.{framed}
use Rattle.attributes.specs.declared.Attribute.{Attribute}
use Rattle.member.specs.Member.{member_at}
use Rattle.member.specs.declared.Sort.{Sort}
use Rattle.member.specs.declared.Member.{Member}

abbrev pub a_field : Sort
a_field = record { method = false; in_interface = false }

abbrev pub a_method : Bool → Sort
a_method interface = record { method = true; in_interface = interface }

-- a member and its attributes, the first of them record number `first`; `next` is the byte after it
pub record Whole : Type 0 where
  pub member : Member
  pub first : ℕ
  pub attributes : List Attribute
  pub next : ℕ

-- what is reached: a byte, the number of attribute records, the names and descriptors of the members before, of the same sort
pub record Reached : Type 0 where
  pub at : ℕ
  pub used : ℕ
  pub names : List ℕ
  pub types : List ℕ

unfoldable pub whole_at : Sort → Pool → ℕ → ℕ → ℕ → Reached → Answer Whole
whole_at k p room limit n s = do
  m ← member_at k p room n s.at s.names s.types
  f ← framed false p limit m.count s.used (s.at + 8)
  accept (record { member = m; first = s.used; attributes = f.list; next = f.end })

abbrev pub reach : Whole → Reached → Reached
reach w s = record { at = w.next; used = s.used + w.member.count; names = s.names ++ w.member.name ∷ []; types = s.types ++ w.member.descriptor ∷ [] }

-- before the first of a sort
abbrev pub begun_at : ℕ → ℕ → Reached
begun_at at used = record { at = at; used = used; names = []; types = [] }

-- k members of one sort, which become records n, n + 1, ..
abbrev pub members_of : Sort → Pool → ℕ → ℕ → ℕ → ℕ → Reached → Answer (Many Whole Reached)
members_of sort p room limit k n s = records (whole_at sort p room limit) reach k n s

-- the number of members of one sort at byte `at`, and these, which become records n, n + 1, ..; `used` attribute records stand before theirs
unfoldable pub sort_at : Sort → Pool → ℕ → ℕ → ℕ → ℕ → ℕ → Answer (Many Whole Reached)
sort_at sort p room limit n at used = do
  k ← u2 p.file at
  members_of sort p room limit k n (begun_at (at + 2) used)
