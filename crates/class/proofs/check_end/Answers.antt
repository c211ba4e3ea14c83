-- `class::check_end` meets its contract. Assumes nothing.
use borrow.Author.Tests.{eq-eqb, ne_eqb}
use Rattle.class.specs.Class.{end_at}
use Rattle.class.proofs.check_end.Goals as goal

pub returns-then-end-p : goal.returns-then-end-p
unfolding end_at
returns-then-end-p c = simp (ne_eqb _ _ c.if-end-p.true, c.at.ensures)

pub returns : goal.returns
unfolding end_at
returns c = simp (eq-eqb _ _ c.if-end-p.false, ← c.check_indices.ensures)
