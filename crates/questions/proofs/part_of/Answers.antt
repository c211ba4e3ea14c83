-- `questions::part_of` meets its contract. Assumes nothing.
use Rattle.reads.proofs.Passed.{passed}
use Rattle.questions.proofs.Asked.{no_part, a_part}
use Rattle.questions.proofs.part_of.Goals as goal

pub returns-in_err-text_or_raw : goal.returns-in_err-text_or_raw
returns-in_err-text_or_raw c = rw (passed _ _ c.from_residual.ensures) (no_part _ _ _ _ _ c.in_err-text_or_raw.ensures)

pub returns : goal.returns
returns c = a_part _ _ _ _ _ c.in_ok-text_or_raw.ensures c.utf8_span.ensures
