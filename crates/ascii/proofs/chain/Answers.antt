-- `ascii::chain` meets its contract. Assumes nothing.
use Prim.Native.Nat.{◌-◌}
use native.Mathlib.Omega.{arith}
use lib.ListN.{length}
use Rattle.ascii.proofs.Chains.{begin, first_stop, on, off, last_link}
use mathlib.Core.Path.{ap}
use mathlib.Core.Bool.{not}
use Rattle.ascii.proofs.chain.Goals as goal

pub returns-then-not-is_linked1 : goal.returns-then-not-is_linked1
returns-then-not-is_linked1 c = first_stop c.args.s.now _ (omega arith) c.is_linked1.ensures (ap not c.if-not-is_linked1.true)

pub loop-j-init : goal.loop-j-init
loop-j-init c = begin c.args.s.now _ (omega arith) c.is_linked1.ensures (ap not c.if-not-is_linked1.false)

pub returns-then-not-link : goal.returns-then-not-link
returns-then-not-link c = off _ _ _ c.loop-j.invariant 8 c.link.ensures (ap not c.if-not-link.true)

pub loop-j-preserved : goal.loop-j-preserved
loop-j-preserved c = on _ _ _ c.loop-j.invariant 8 c.loop-j-test.true c.link.ensures (ap not c.if-not-link.false)

pub returns : goal.returns
returns c = last_link c.args.s.now _ c.loop-j.j c.loop-j.invariant (length c.args.s.now - 9) (omega arith) (omega arith) c.link-2.ensures
