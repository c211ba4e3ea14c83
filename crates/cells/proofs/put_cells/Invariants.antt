-- What holds at each turn of the loop.
use Rattle.std.proofs.Common.{map}
use Rattle.cells.proofs.Filling.{Sofar}
use Rattle.cells.proofs.put_cells.Given as goal

abbrev pub invariant-loop-i : goal.invariant-loop-i
invariant-loop-i g l = Sofar (map g.T.Cell.number l.numbers) l.initial.table l.table l.i
