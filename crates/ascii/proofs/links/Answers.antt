-- `ascii::links` meets its contract. Assumes nothing.
use native.Mathlib.Omega.{arith}
use Rattle.ascii.proofs.Chains.{begin, linked_none, on}
use mathlib.Core.Path.{ap}
use mathlib.Core.Bool.{not}
use Rattle.ascii.proofs.links.Goals as goal

pub returns-then-not-is_linked1 : goal.returns-then-not-is_linked1
returns-then-not-is_linked1 c = (omega arith, linked_none)

pub loop-j-init : goal.loop-j-init
loop-j-init c = begin c.args.s.now _ (omega arith) c.is_linked1.ensures (ap not c.if-not-is_linked1.false)

pub returns-then-not-link : goal.returns-then-not-link
returns-then-not-link c = c.loop-j.invariant

pub loop-j-preserved : goal.loop-j-preserved
loop-j-preserved c = on _ _ _ c.loop-j.invariant 8 c.loop-j-test.true c.link.ensures (ap not c.if-not-link.false)

pub returns : goal.returns
returns c = c.loop-j.invariant
