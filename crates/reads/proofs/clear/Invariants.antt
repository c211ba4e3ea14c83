-- What holds at each turn of the loop.
use Rattle.std.proofs.Common.{◌≡◌, ◌++◌, drop, replicate}
use Rattle.reads.proofs.clear.Given as goal

abbrev pub invariant-loop-cell : goal.invariant-loop-cell
invariant-loop-cell g l = l.table ≡ replicate l.cell-index g.T.Zero.ZERO ++ drop l.cell-index l.initial.table
