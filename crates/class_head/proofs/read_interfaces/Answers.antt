-- `class_head::read_interfaces` meets its contract. Assumes nothing.
use Rattle.reads.proofs.Clauses.{answer_list}
use Rattle.reads.proofs.Passed.{passed}
use Rattle.class_head.proofs.Listing.{cut_off}
use Rattle.class_head.proofs.read_interfaces.Goals as goal

pub returns-in_err-count : goal.returns-in_err-count
returns-in_err-count c = rw (passed _ _ c.from_residual.ensures) (answer_list (cut_off _ _ _ _ _ _ c.in_err-count.ensures c.clear.ensures))
