-- `records::attribute_records` meets its contract. Assumes nothing.
use Rattle.std.proofs.Common.{refl, arith}
use Rattle.records.specs.Records.{attribute_of}
use Rattle.records.proofs.Filled.{fill, fill_more, filled_at}
use Rattle.records.proofs.attribute_records.Goals as goal

pub loop-i-init : goal.loop-i-init
unfolding fill
loop-i-init c = (omega arith, refl)

pub loop-i-preserved : goal.loop-i-preserved
loop-i-preserved c = (omega arith, fill_more (attribute_of (record { titles = c.args.titles.now; bodies = c.args.bodies.now; lengths = c.args.lengths.now })) c.args.records.now c.loop-i.i c.loop-i.records c.attribute_of.result c.loop-i.invariant.1 c.attribute_of.ensures)

pub returns : goal.returns
returns c = filled_at (attribute_of (record { titles = c.args.titles.now; bodies = c.args.bodies.now; lengths = c.args.lengths.now })) c.args.records.now c.loop-i.i c.loop-i.records c.loop-i.invariant.1 c.loop-i.invariant.0 (omega arith)
