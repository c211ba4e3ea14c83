-- `ascii::head` meets its contract. Assumes nothing.
use native.Mathlib.Omega.{arith}
use Rattle.ascii.proofs.Chains.{slash_head, name_head}
use Rattle.ascii.proofs.head.Goals as goal

pub returns-then-s-k-eq47 : goal.returns-then-s-k-eq47
returns-then-s-k-eq47 c = slash_head c.args.s.now c.links-k.result (omega arith) c.links-k.ensures c.if-s-k-eq47.true

pub returns : goal.returns
returns c = name_head c.args.s.now c.links-k.result (omega arith) c.links-k.ensures c.if-s-k-eq47.false
