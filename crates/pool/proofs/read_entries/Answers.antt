-- `pool::read_entries` meets its contract. Assumes nothing.
use mathlib.Core.Path.{ap, ◌∙◌}
use Prim.Native.Nat.{ℕ}
use lib.ListN.{replicate}
use Rattle.reads.proofs.Clauses.{answer_table}
use Rattle.reads.proofs.Passed.{passed}
use Rattle.pool.proofs.Edge.{no_header, not_filled, filled}
use Rattle.pool.proofs.read_entries.Goals as goal

pub returns-in_err-h : goal.returns-in_err-h
returns-in_err-h c = rw (passed _ _ c.from_residual.ensures) (answer_table (no_header _ _ _ _ _ c.in_err-h.ensures c.clear.ensures))

pub returns-in-Err : goal.returns-in-Err
returns-in-Err c =
    let z = c.clear-in-Err.ensures ∙ ap (λ (k : ℕ). replicate k 0) (c.fill.auto.table ∙ c.clear.auto.table) in
    answer_table (not_filled _ _ _ _ _ c.clear.auto.table c.in_ok-h.ensures _ _ c.in-Err.ensures.is z)

pub returns-in-Ok : goal.returns-in-Ok
returns-in-Ok c = answer_table (filled _ _ _ _ _ c.clear.auto.table c.in_ok-h.ensures _ (c.in-Ok.ensures.is, c.in-Ok.ensures.table_after))
