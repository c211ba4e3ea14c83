-- `class::AttributeColumns::frame` meets its contract. Assumes nothing.
use native.Mathlib.Omega.{arith}
use borrow.Author.Rules.{rules}
use Rattle.reads.proofs.Passed.{passed}
use Rattle.class.specs.Columns.{Titles, Bodies, Lengths}
use Rattle.class.proofs.Rows.{refuses}
use Rattle.class.proofs.Framed.{in_columns, in_file, turn, stopped, finished}
use Rattle.class.proofs.AttributeColumns.frame.Goals as goal

pub returns-in_err-a-clause-answer : goal.returns-in_err-a-clause-answer
returns-in_err-a-clause-answer c = simp (passed _ _ c.from_residual.ensures, ← stopped _ _ _ _ _ _ _ _ _ _ c.loop-n.invariant.1 _ _ (omega arith) c.in_err-a.ensures)

pub returns-in_err-a-clause-tables : goal.returns-in_err-a-clause-tables
returns-in_err-a-clause-tables c = refuses _ _ (stopped _ _ _ _ _ _ _ _ _ _ c.loop-n.invariant.1 _ _ (omega arith) c.in_err-a.ensures)

pub put-requires : goal.put-requires
put-requires c =
    let v = c.loop-n.invariant.1 in
    let h = in_columns _ _ _ _ _ _ _ _ _ _ v _ c.in_ok-a.ensures in
    ((h Titles, (h Bodies, h Lengths)), omega (arith, in_file _ _ _ _ _ _ _ _ _ _ v _ c.in_ok-a.ensures, c.requires))

pub overflow_add-at : goal.overflow_add-at
overflow_add-at c = omega (arith, in_file _ _ _ _ _ _ _ _ _ _ c.loop-n.invariant.1 _ c.in_ok-a.ensures, c.requires)

pub loop-n-preserved : goal.loop-n-preserved
loop-n-preserved c = (search rules, turn _ _ _ _ _ _ _ _ _ _ c.loop-n.invariant.1 _ _ (omega arith) c.in_ok-a.ensures c.put.ensures.record)

pub returns-clause-answer : goal.returns-clause-answer
returns-clause-answer c = (finished _ _ _ _ _ _ _ _ _ _ c.loop-n.invariant.1 (omega arith)).0

pub returns-clause-tables : goal.returns-clause-tables
returns-clause-tables c = (finished _ _ _ _ _ _ _ _ _ _ c.loop-n.invariant.1 (omega arith)).1
