-- `loader::luo_slots32` meets its contract. Assumes nothing.
use Rattle.loader.proofs.Few.{slots_told}
use Rattle.loader.proofs.luo_slots32.Goals as goal

pub returns-clause-answer : goal.returns-clause-answer
returns-clause-answer c = slots_told _ _ _ _ _ c.list_slots.ensures.answer c.listing_numbers.ensures
