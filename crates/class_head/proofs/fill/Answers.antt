-- `class_head::fill` meets its contract. Assumes nothing.
use Rattle.reads.proofs.Clauses.{is_list_after}
use Rattle.reads.proofs.Passed.{passed}
use Rattle.class_head.proofs.Listing.{stopped, finished}
use Rattle.class_head.proofs.fill.Goals as goal

pub returns-in_err-list : goal.returns-in_err-list
returns-in_err-list c = rw (passed _ _ c.from_residual.ensures) (is_list_after (stopped _ _ _ _ _ _ _ c.loop-n.invariant _ _ c.loop-n-test.true c.in_err-list.ensures))

pub returns : goal.returns
returns c = is_list_after (finished _ _ _ _ _ _ _ c.loop-n.invariant c.loop-n-test.false)
