-- What an attribute that was judged good says of its record. Assumes nothing.
use mathlib.Core.Path.{◌≡◌}
use mathlib.Core.Bool.{Bool}
use Prim.Native.Nat.{ℕ, ◌<◌}
use lib.Dec.{ltb}
use borrow.Author.Tests.{ltb-true}
use Rattle.reads.specs.Answer.{accept}
use Rattle.reads.proofs.Answers.{first, held}
use Rattle.pool.specs.Pool.{Pool}
use Rattle.attributes.specs.declared.Attribute.{Attribute}
use Rattle.attributes.specs.Attributes.{attribute_at, ruled, record_at}

-- it has its record
pub record_in : (own : Bool) (p : Pool) (room n at : ℕ) (a : Attribute) → accept a ≡ record_at own p room n at → n < room
unfolding record_at
record_in own p room n at a e =
    let t = first (attribute_at p at) _ a e in
    let u = first (ruled own p at t.0) _ a t.2 in
    ltb-true n room (held (ltb n room) 13 at _ a u.2).0
