-- `reads::clear` meets its contract. Assumes nothing.
use Rattle.std.proofs.Common.{◌<◌, arith, length, add-one}
use Rattle.reads.proofs.Tables.{filled_more}
use Rattle.reads.proofs.clear.Goals as goal

pub loop-cell-preserved : goal.loop-cell-preserved
loop-cell-preserved g c =
    let h : c.loop-cell.cell-index < length c.args.table.now = omega arith in
    rw (c.loop-cell.invariant, c.ZERO.ensures, add-one) (filled_more _ _ _ h)
