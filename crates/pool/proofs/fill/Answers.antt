-- `pool::fill` meets its contract. Assumes nothing.
use native.Mathlib.Omega.{arith}
use mathlib.Core.Path.{◌≡◌, sym, ◌∙◌}
use borrow.Author.Tests.{eqb-true}
use Rattle.reads.proofs.Clauses.{is_table_after}
use Rattle.reads.proofs.Passed.{passed}
use Rattle.pool.proofs.Filling.{empty, stopped, full, last, done}
use Rattle.pool.proofs.fill.Goals as goal

pub returns-then-is_empty : goal.returns-then-is_empty
returns-then-is_empty c = rw c.at.ensures (is_table_after (empty _ _ _ _ _ (eqb-true _ 0 (sym c.is_empty.ensures ∙ c.if-is_empty.true))))

pub returns-in_err-e : goal.returns-in_err-e
returns-in_err-e c = rw (passed _ _ c.from_residual.ensures) (is_table_after (stopped _ _ _ _ _ _ _ _ c.loop-n.invariant _ _ c.loop-n-test.true c.in_err-e.ensures))

pub returns-then-not-owed : goal.returns-then-not-owed
returns-then-not-owed c =
    let q : c.loop-n.n ≡ c.max-slots.result = omega arith in
    rw q at (is_table_after (done _ _ _ _ _ _ _ _ c.loop-n.invariant c.loop-n-test.false c.if-not-owed.true))

pub returns-then-table-slots : goal.returns-then-table-slots
returns-then-table-slots c =
    let q : c.loop-n.n ≡ c.max-slots.result = omega arith in
    rw (c.at-then-table-slots.ensures, ← q) (is_table_after (full _ _ _ _ _ _ _ _ c.loop-n.invariant c.loop-n-test.false c.if-not-owed.false (omega arith)))

pub returns : goal.returns
returns c =
    let q : c.loop-n.n ≡ c.max-slots.result = omega arith in
    rw q at (is_table_after (last _ _ _ _ _ _ _ _ c.loop-n.invariant c.loop-n-test.false c.if-not-owed.false (omega arith)))
