-- What holds at each turn of the loop.
use Rattle.std.proofs.Common.{length}
use Rattle.slot.specs.Shown.{shown}
use Rattle.class_head.proofs.Listing.{Sofar}
use Rattle.class_head.proofs.fill.Given as goal

abbrev pub invariant-loop-n : goal.invariant-loop-n
invariant-loop-n l = Sofar (shown l.p) (length l.initial.list) l.start l.count l.list l.n l.at
