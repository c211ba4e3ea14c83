-- What holds at each turn of the loop.
use mathlib.Core.Path.{◌≡◌}
use Prim.Native.Nat.{◌-◌}
use lib.ListN.{take, drop}
use Rattle.reads.specs.Answer.{each}
use Rattle.slot.specs.Shown.{shown}
use Rattle.bootstrap.specs.Indices.{bootstrap_indices, judged}
use Rattle.bootstrap.proofs.check_indices.Given as goal

abbrev pub invariant-loop-n : goal.invariant-loop-n
invariant-loop-n l = each (l.n-end - l.n) l.n (judged (shown l.p) l.found) ≡ bootstrap_indices (shown l.p) (take l.count (drop l.first l.titles)) (take l.count (drop l.first l.bodies))
