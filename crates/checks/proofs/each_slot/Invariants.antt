-- What holds at each turn of the loop.
use Rattle.std.proofs.Common.{◌≡◌, ◌-◌, ℕ}
use Rattle.reads.specs.Answer.{Check, each}
use Rattle.pool.specs.Pool.{slots}
use Rattle.slot.specs.Shown.{shown}
use Rattle.checks.specs.Loop.{Tells}
use Rattle.checks.proofs.each_slot.Given as goal

abbrev pub invariant-loop-n : goal.invariant-loop-n
invariant-loop-n g l = (f : ℕ → Check) → Tells (goal.F-post g l.check) f → each (l.n-end - l.n) l.n f ≡ each (slots (shown l.p)) 0 f
