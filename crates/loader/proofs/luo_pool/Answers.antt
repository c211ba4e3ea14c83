-- `loader::luo_pool` meets its contract. Assumes nothing.
use Rattle.loader.proofs.Few.{pool_told}
use Rattle.loader.proofs.luo_pool.Goals as goal

pub returns-clause-answer : goal.returns-clause-answer
returns-clause-answer c = pool_told _ (λ i. (c.type_inv.file i).fits) _ _ _ c.pool_bytes.ensures.answer c.pool_numbers.ensures
