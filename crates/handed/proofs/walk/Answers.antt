-- `handed::walk` meets its contract. Assumes nothing.
use native.Mathlib.Omega.{arith}
use Rattle.std.proofs.Common.{◌≡◌}
use Rattle.reads.proofs.Passed.{passed}
use Rattle.handed.proofs.Walking.{stopped, last, done}
use Rattle.handed.proofs.walk.Goals as goal

pub returns-in_err-e : goal.returns-in_err-e
returns-in_err-e c = rw (passed _ _ c.from_residual.ensures) (stopped _ _ _ _ _ _ _ _ c.loop-n.invariant _ _ c.loop-n-test.true c.in_err-e.ensures)

pub returns-then-not-owed : goal.returns-then-not-owed
returns-then-not-owed c =
    let q : c.loop-n.n ≡ c.max-slots.result = omega arith in
    rw q at (done _ _ _ _ _ _ _ _ c.loop-n.invariant c.loop-n-test.false c.if-not-owed.true)

pub returns : goal.returns
returns c =
    let q : c.loop-n.n ≡ c.max-slots.result = omega arith in
    rw q at (last _ _ _ _ _ _ _ _ c.loop-n.invariant _ c.loop-n-test.false c.if-not-owed.false (rw (← q) at c.agreed_to.ensures))
