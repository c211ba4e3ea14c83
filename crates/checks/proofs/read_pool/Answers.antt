-- `checks::read_pool` meets its contract. Assumes nothing.
use Rattle.std.proofs.Common.{◌∙◌, ap, ℕ, replicate}
use Rattle.reads.proofs.Passed.{passed}
use Rattle.reads.proofs.Clauses.{answer_table}
use Rattle.checks.proofs.Edge.{good, bad, not_read}
use Rattle.checks.proofs.read_pool.Goals as goal

pub returns-in_err-h : goal.returns-in_err-h
returns-in_err-h c = rw (passed _ _ c.from_residual.ensures) (answer_table (not_read _ _ _ _ _ (c.in_err-h.ensures.answer, c.in_err-h.ensures.table)))

pub returns-in-Err : goal.returns-in-Err
returns-in-Err c =
    answer_table (bad _ _ _ _ _ _ _ (c.in_ok-h.ensures.answer, c.in_ok-h.ensures.table) (rw c.of-p.ensures at c.in-Err.ensures)
    (c.clear.ensures ∙ ap (λ (k : ℕ). replicate k 0) c.read_entries.auto.table))

pub returns : goal.returns
returns c = answer_table (good _ _ _ _ (c.in_ok-h.ensures.answer, c.in_ok-h.ensures.table) (rw c.of-p.ensures at c.in_default.ensures))
