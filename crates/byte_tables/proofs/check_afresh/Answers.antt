-- `byte_tables::check_afresh` meets its contract. Assumes nothing.
use Rattle.std.proofs.Common.{ℕ, ◌∙◌, ap, replicate}
use Rattle.reads.proofs.Passed.{passed}
use Rattle.byte_tables.proofs.Gate.{not_read, read, left_zero, left_unread, left_read}
use Rattle.byte_tables.proofs.check_afresh.Goals as goal

pub returns-in_err-h-clause-answer : goal.returns-in_err-h-clause-answer
returns-in_err-h-clause-answer c = rw (passed _ _ c.from_residual.ensures) (not_read _ _ _ _ _ c.in_err-h.ensures.answer)

pub returns-in_err-h-clause-cells : goal.returns-in_err-h-clause-cells
returns-in_err-h-clause-cells c = left_unread _ _ _ _ _ _ c.in_err-h.ensures.answer c.read_entries.ensures.table

pub returns-in-Err-clause-answer : goal.returns-in-Err-clause-answer
returns-in-Err-clause-answer c = read _ _ _ _ _ _ (c.in_ok-h.ensures.answer, c.read_entries.ensures.table) (rw c.of-p.ensures at c.in-Err.ensures)

pub returns-in-Err-clause-cells : goal.returns-in-Err-clause-cells
returns-in-Err-clause-cells c =
    let r = read _ _ _ _ _ _ (c.in_ok-h.ensures.answer, c.read_entries.ensures.table) (rw c.of-p.ensures at c.in-Err.ensures) in
    left_zero _ _ _ _ _ _ r (c.clear.ensures ∙ ap (λ (k : ℕ). replicate k 0) c.read_entries.auto.table)

pub returns-clause-answer : goal.returns-clause-answer
returns-clause-answer c = read _ _ _ _ _ _ (c.in_ok-h.ensures.answer, c.read_entries.ensures.table) (rw c.of-p.ensures at c.in_default.ensures)

pub returns-clause-cells : goal.returns-clause-cells
returns-clause-cells c =
    let r = read _ _ _ _ _ _ (c.in_ok-h.ensures.answer, c.read_entries.ensures.table) (rw c.of-p.ensures at c.in_default.ensures) in
    left_read _ _ _ _ r c.read_entries.ensures.table
