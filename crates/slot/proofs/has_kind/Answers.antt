-- `slot::has_kind` meets its contract. Assumes nothing.
use borrow.Author.Tests.{le-ltb, lt-ltb}
use Rattle.pool.specs.Kinds.{has}
use Rattle.slot.proofs.Bits.{shifted_one}
use Rattle.slot.proofs.has_kind.Goals as goal

pub returns-then-tag-ge32 : goal.returns-then-tag-ge32
unfolding has
returns-then-tag-ge32 c = simp (le-ltb _ _ c.if-tag-ge32.true)

pub returns : goal.returns
unfolding has
returns c = simp (lt-ltb _ _ c.if-tag-ge32.false, shifted_one 32 c.args.tag c.if-tag-ge32.false)
