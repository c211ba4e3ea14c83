-- What holds at each turn of the loop.
use Rattle.std.proofs.Common.{ℕ, ◌≡◌, ◌-◌, ◌<◌}
use Rattle.reads.specs.Answer.{Answer}
use Rattle.bootstrap.specs.Bootstrap.{steps}
use Rattle.bootstrap.specs.Steps.{Steps}
use Rattle.bootstrap.proofs.steps.Given as goal

abbrev pub invariant-loop : goal.invariant-loop
invariant-loop g l = (l.i < 18446744073709551616) × ((s : ℕ → Answer ℕ) → Steps s (goal.F-post g l.step) → steps s (l.count - l.counter) l.i ≡ steps s l.count l.start)
