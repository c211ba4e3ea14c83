-- `loader::luo_literal32` meets its contract. Assumes nothing.
use Rattle.values.specs.Lookups.{literal_at}
use Rattle.loader.proofs.Thin.{literal_told}
use Rattle.loader.proofs.luo_literal32.Goals as goal

pub returns : goal.returns
returns c = rw (c.literal_answer.ensures, c.answer.ensures) (literal_told (literal_at c.args.slot) _ _)
