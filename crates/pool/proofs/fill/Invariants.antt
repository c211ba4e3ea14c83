-- What holds at each turn of the loop.
use Rattle.std.proofs.Common.{length}
use Rattle.pool.proofs.Filling.{Sofar}
use Rattle.pool.proofs.fill.Given as goal

abbrev pub invariant-loop-n : goal.invariant-loop-n
invariant-loop-n l = Sofar l.file l.major l.count (length l.initial.table) l.table l.n l.at l.owed
