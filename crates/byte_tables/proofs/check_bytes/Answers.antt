-- `byte_tables::check_bytes` meets its contract. Assumes nothing.
use Rattle.std.proofs.Common.{◌∙◌, sym}
use Rattle.reads.proofs.Answers.{each_go, each_stop, each_done}
use Rattle.reads.proofs.Passed.{passed}
use Rattle.byte_tables.proofs.Bytes.{differs, short, alike}
use Rattle.byte_tables.proofs.check_bytes.Goals as goal

pub returns-in_err-same_cell : goal.returns-in_err-same_cell
returns-in_err-same_cell c = rw (passed _ _ c.from_residual.ensures) (differs _ _ _ _ (sym c.loop-i.invariant ∙ each_stop _ _ _ _ _ c.loop-i-test.true (rw (c.cell_at.ensures, c.cell.ensures) at c.in_err-same_cell.ensures)))

pub loop-i-preserved : goal.loop-i-preserved
loop-i-preserved c = sym (each_go _ _ _ c.loop-i-test.true (rw (c.cell_at.ensures, c.cell.ensures) at c.in_ok-same_cell.ensures)) ∙ c.loop-i.invariant

pub returns-then-end-count : goal.returns-then-end-count
returns-then-end-count c = rw c.at.ensures (short _ _ (sym c.loop-i.invariant ∙ each_done _ _ _ c.loop-i-test.false) (rw c.count.ensures at c.if-end-count.true))

pub returns : goal.returns
returns c = alike _ _ (sym c.loop-i.invariant ∙ each_done _ _ _ c.loop-i-test.false) (rw c.count.ensures at c.if-end-count.false)
