-- `listing::fill` meets its contract. Assumes nothing.
use Rattle.std.proofs.Common.{arith, refl}
use Rattle.listing.proofs.Filling.{begin, turn, finished}
use Rattle.listing.proofs.fill.Goals as goal

pub loop-n-init : goal.loop-n-init
loop-n-init c = begin _ _ _ _ _ _ _ refl refl refl c.requires.2 c.requires.3 c.requires.4

pub loop-n-preserved : goal.loop-n-preserved
loop-n-preserved c =
    let v = c.loop-n.invariant in
    let t = c.loop-n-test.true in
    let p = c.requires.1 in
    turn _ _ _ _ _ _ _ _ _ _ _ v (omega (arith, t, p)) (omega (arith, t, p)) (omega (arith, t, p)) c.tag.ensures c.first_of.ensures c.second_of.ensures

pub returns : goal.returns
returns c = finished _ _ _ _ _ _ _ _ _ c.loop-n.invariant (omega arith)
