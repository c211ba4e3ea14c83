-- `values::utf8_part` meets its contract. Assumes nothing.
use Rattle.values.proofs.Parts.{part}
use borrow.Author.Rules.{rules}
use Rattle.values.proofs.utf8_part.Goals as goal

pub slice_bounds-result-count : goal.slice_bounds-result-count
slice_bounds-result-count c = (part _ _ _ _ c.utf8_span-s.ensures).0

pub slice_bounds-result-start : goal.slice_bounds-result-start
slice_bounds-result-start c = let h = part _ _ _ _ c.utf8_span-s.ensures in search rules

pub slice_bounds-result-end : goal.slice_bounds-result-end
slice_bounds-result-end c = let h = part _ _ _ _ c.utf8_span-s.ensures in search rules

pub returns-clause-bytes : goal.returns-clause-bytes
returns-clause-bytes c = (part _ _ _ _ c.utf8_span-s.ensures).2
