-- What holds at each turn of the loop.
use Rattle.slot.specs.Shown.{shown}
use Rattle.class.specs.Steps.{SameParts, parts}
use Rattle.class.proofs.Framed.{Sofar}
use Rattle.class.proofs.AttributeColumns.frame.Given as goal

abbrev pub invariant-loop-n : goal.invariant-loop-n
invariant-loop-n l = SameParts l.initial.self l.self × Sofar l.own (shown l.p) l.count l.used l.start (parts l.initial.self) l.room (parts l.self) l.at l.n
