-- What holds at each turn of the loop.
use Rattle.std.proofs.Common.{length}
use Rattle.slot.specs.Shown.{shown}
use Rattle.listing.proofs.Filling.{Sofar}
use Rattle.listing.proofs.fill.Given as goal

abbrev pub invariant-loop-n : goal.invariant-loop-n
invariant-loop-n l = Sofar (shown l.p) (length l.initial.tags) (length l.initial.firsts) (length l.initial.seconds) l.tags l.firsts l.seconds l.n
