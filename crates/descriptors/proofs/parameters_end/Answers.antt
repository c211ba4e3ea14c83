-- `descriptors::parameters_end` meets its contract. Assumes nothing.
use Prim.Native.Nat.{ℕ, ◌+◌}
use native.Mathlib.Omega.{arith}
use mathlib.Core.Path.{ap}
use lib.ListN.{drop, length-drop}
use Rattle.descriptors.specs.Descriptors.{type_length, closing}
use Rattle.descriptors.proofs.Types.{closing_none}
use Rattle.text.proofs.Runs.{part, run_in}
use Rattle.descriptors.proofs.parameters_end.Goals as goal

pub returns-in-empty : goal.returns-in-empty
returns-in-empty c = closing_none _ (omega arith)

pub overflow_add-result : goal.overflow_add-result
overflow_add-result c =
    let e = rw part at c.run.ensures in
    omega (arith, run_in type_length (drop 1 c.args.s.now), length-drop 1 c.args.s.now)

pub returns-in-len1-up : goal.returns-in-len1-up
unfolding closing
returns-in-len1-up c = ap (λ (n : ℕ). n + 1) (rw part at c.run.ensures)
