-- `loader::luo_entries` meets its contract. Assumes nothing.
use Rattle.loader.proofs.Few.{entries_told}
use Rattle.loader.proofs.luo_entries.Goals as goal

pub returns-clause-answer : goal.returns-clause-answer
returns-clause-answer c = entries_told _ (λ i. (c.type_inv.file i).fits) _ _ _ c.read_entries.ensures.answer c.pool_numbers.ensures
