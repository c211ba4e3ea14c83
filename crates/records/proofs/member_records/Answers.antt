-- `records::member_records` meets its contract. Assumes nothing.
use Rattle.std.proofs.Common.{refl, arith}
use Rattle.records.specs.Records.{member_of}
use Rattle.records.proofs.Filled.{fill, fill_more, filled_at}
use Rattle.records.proofs.member_records.Goals as goal

pub loop-i-init : goal.loop-i-init
unfolding fill
loop-i-init c = (omega arith, refl)

pub loop-i-preserved : goal.loop-i-preserved
loop-i-preserved c =
    let a = c.args in
    (omega arith, fill_more (member_of (record { flags = a.flags.now; names = a.names.now; types = a.types.now; firsts = a.firsts.now; counts = a.counts.now })) a.records.now c.loop-i.i c.loop-i.records c.member_of.result c.loop-i.invariant.1 c.member_of.ensures)

pub returns : goal.returns
returns c = filled_at (member_of (record { flags = c.args.flags.now; names = c.args.names.now; types = c.args.types.now; firsts = c.args.firsts.now; counts = c.args.counts.now })) c.args.records.now c.loop-i.i c.loop-i.records c.loop-i.invariant.1 c.loop-i.invariant.0 (omega arith)
