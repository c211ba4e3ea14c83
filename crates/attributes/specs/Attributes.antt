-- Attribute framing: name, length, body inside the file, and the body of the class's own BootstrapMethods. Document 01, "Members and lookups". Assumes nothing.
use Rattle.std.specs.Prelude.{ℕ, ◌+◌, Bool, cond, ltb}
use Rattle.reads.specs.Answer.{Answer, Check, fine, accept, ◌>>=◌, require}
use Rattle.reads.specs.Bytes.{u2, u4, skipped}
use Rattle.pool.specs.Pool.{Pool}
use Rattle.slot.specs.Slots.{utf8_at}
use Rattle.bootstrap.specs.Bootstrap.{own_rule}
use Rattle.reads.specs.Records.{Many, records}
use Rattle.attributes.specs.declared.Attribute.{Attribute}

unfoldable pub attribute_at : Pool → ℕ → Answer Attribute
attribute_at p at = do
  m ← u2 p.file at
  _ ← utf8_at p at m
  size ← u4 p.file (at + 2)
  _ ← skipped p.file (at + 6) size
  accept (record { name = m; start = at + 6; size = size })

-- what is asked of an attribute by its name, where it is one of the class's own
unfoldable pub ruled : Bool → Pool → ℕ → Attribute → Check
ruled own p at a = cond own (own_rule p at a.name a.start a.size) fine

-- the attribute at byte `at` that becomes record n
unfoldable pub record_at : Bool → Pool → ℕ → ℕ → ℕ → Answer Attribute
record_at own p room n at = do
  a ← attribute_at p at
  _ ← ruled own p at a
  _ ← require (ltb n room) 13 at
  accept a

-- the byte after an attribute
abbrev pub body_end : Attribute → ℕ → ℕ
body_end a at = a.start + a.size

-- k attributes from byte `at` on, which become records n, n + 1, ..: the class's own, or a member's
abbrev pub framed : Bool → Pool → ℕ → ℕ → ℕ → ℕ → Answer (Many Attribute ℕ)
framed own p room k n at = records (record_at own p room) body_end k n at
