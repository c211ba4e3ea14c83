-- `dependants::list_of` meets its contract. Assumes nothing.
use Rattle.reads.proofs.Clauses.{is_list_after}
use Rattle.reads.proofs.Passed.{passed}
use Rattle.dependants.proofs.Edge.{refuses, answers, few}
use Rattle.dependants.proofs.list_of.Goals as goal

pub returns-in_err-p : goal.returns-in_err-p
returns-in_err-p c = rw (passed _ _ c.from_residual.ensures) (is_list_after (refuses _ _ _ _ _ _ _ c.in_err-p.ensures))

pub list_at-requires : goal.list_at-requires
list_at-requires c = few _ _ (λ i. (c.type_inv.file i).fits) _ c.in_ok-p.ensures

pub returns : goal.returns
returns c = is_list_after (answers _ _ _ _ _ _ _ c.in_ok-p.ensures (c.list_at.ensures.is, c.list_at.ensures.list_after))
