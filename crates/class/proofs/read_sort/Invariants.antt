-- What holds at each turn of the loop.
use Rattle.slot.specs.Shown.{shown}
use Rattle.class.specs.Steps.{columns, Same}
use Rattle.class.proofs.Rows.{Sofar}
use Rattle.class.proofs.read_sort.Given as goal

abbrev pub invariant-loop-n : goal.invariant-loop-n
invariant-loop-n l =
    Same l.initial.members l.initial.attributes l.members l.attributes
    × Sofar l.sort (shown l.p) l.fn.from.count l.fn.from.at l.fn.from.used l.count (columns l.initial.members l.initial.attributes) (columns l.members l.attributes) l.at l.used l.n
