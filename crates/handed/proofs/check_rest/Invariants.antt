-- What holds at each turn of the loop.
use Rattle.std.proofs.Common.{◌≡◌, ◌-◌, length}
use Rattle.reads.specs.Answer.{each}
use Rattle.handed.specs.Walk.{zero_at, rest}
use Rattle.handed.proofs.check_rest.Given as goal

abbrev pub invariant-loop-i : goal.invariant-loop-i
invariant-loop-i l = each (length l.table - l.i) l.i (zero_at l.table) ≡ rest l.table l.fn.n
