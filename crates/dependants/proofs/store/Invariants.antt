-- What holds at each turn of the loop.
use Rattle.std.proofs.Common.{length}
use Rattle.slot.specs.Shown.{shown}
use Rattle.dependants.proofs.Stored.{Sofar}
use Rattle.dependants.proofs.store.Given as goal

abbrev pub invariant-loop-a : goal.invariant-loop-a
invariant-loop-a l = Sofar (shown l.p) l.b (length l.initial.list) l.list l.a l.count
