-- What holds at each turn of the loop.
use Rattle.handed.proofs.Walking.{Sofar}
use Rattle.handed.proofs.walk.Given as goal

abbrev pub invariant-loop-n : goal.invariant-loop-n
invariant-loop-n l = Sofar l.file l.major l.count l.table l.n l.at l.owed l.same
