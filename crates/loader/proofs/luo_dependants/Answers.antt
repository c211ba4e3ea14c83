-- `loader::luo_dependants` meets its contract. Assumes nothing.
use Rattle.loader.proofs.Few.{listed_told}
use Rattle.loader.proofs.luo_dependants.Goals as goal

pub returns-clause-answer : goal.returns-clause-answer
returns-clause-answer c = listed_told _ _ _ _ _ _ c.list_dependants.ensures.answer c.list_numbers.ensures
