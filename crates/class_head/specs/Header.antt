-- The class header and the interfaces. Document 01, "Members and lookups". Assumes nothing.
use Rattle.std.specs.Prelude.{ℕ, ◌+◌, [], ◌∷◌, cond, ltb, eqb}
use Rattle.reads.specs.Answer.{Answer, Check, fine, accept, ◌>>=◌, require}
use Rattle.reads.specs.Bytes.{u2}
use Rattle.text.specs.Text.{binary}
use Rattle.pool.specs.Kinds as kind
use Rattle.pool.specs.Pool.{Pool}
use Rattle.slot.specs.Slots.{field, bytes_of, in_range, of_kind}
use Rattle.reads.specs.Records.{Many, records}
use Rattle.class_head.specs.declared.ClassHead.{ClassHead}

-- the index m, which stands at byte `place`, is that of a Class with a binary name, not an array
unfoldable pub class_at : Pool → ℕ → ℕ → Check
class_at p place m = do
  _ ← in_range p place m
  _ ← of_kind p place (kind.set_of (kind.class ∷ [])) m
  require (binary (bytes_of p (field p m 1))) 10 place

-- super may be slot 0
unfoldable pub super_at : Pool → ℕ → ℕ → Check
super_at p place m = cond (eqb m 0) fine (class_at p place m)

-- flags, this and super from byte `at` on; this is judged before super is read
unfoldable pub head_at : Pool → ℕ → Answer ClassHead
head_at p at = do
  flags ← u2 p.file at
  this ← u2 p.file (at + 2)
  _ ← class_at p (at + 2) this
  super ← u2 p.file (at + 4)
  _ ← super_at p (at + 4) super
  accept (record { flags = flags; this = this; parent = super })

-- the interface at byte `at`, number n of the list
unfoldable pub interface_at : Pool → ℕ → ℕ → ℕ → Answer ℕ
interface_at p room n at = do
  m ← u2 p.file at
  _ ← class_at p at m
  _ ← require (ltb n room) 13 at
  accept m

-- the byte after an interface
abbrev pub past : ℕ → ℕ → ℕ
past m at = at + 2

-- the number of interfaces at byte `at`, and these
unfoldable pub interfaces_at : Pool → ℕ → ℕ → Answer (Many ℕ ℕ)
interfaces_at p room at = do
  k ← u2 p.file at
  records (interface_at p room) past k 0 (at + 2)
