-- `descriptors::returns_void` meets its contract. Past the end nothing is returned, which is not `V`. Assumes nothing.
use Prim.Native.Nat.{◌+◌, ◌≤◌}
use native.Mathlib.Omega.{arith}
use lib.ListN.{length, drop_of_length-le}
use Rattle.descriptors.specs.Descriptors.{returned, returns_void}
use borrow.Author.Tests.{le-ltb}
use Rattle.text.specs.Text.{same}
use Rattle.text.proofs.Runs.{part}
use Rattle.descriptors.proofs.returns_void.Goals as goal

pub returns-then-end-s : goal.returns-then-end-s
unfolding returned returns_void
returns-then-end-s c = simp (← c.parameters_end-end.ensures) (rw part at c.is_void.ensures)

pub returns-else-end-s : goal.returns-else-end-s
unfolding same returned returns_void
returns-else-end-s c =
    let h : length c.args.s.now ≤ c.parameters_end-end.result + 1 = omega arith in
    simp (le-ltb _ _ c.if-end-s.false, ← c.parameters_end-end.ensures, drop_of_length-le c.args.s.now h)
