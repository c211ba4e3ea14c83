-- `loader::luo_literal` meets its contract. Assumes nothing.
use Rattle.values.specs.Lookups.{literal_at}
use Rattle.loader.proofs.Thin.{literal_told}
use Rattle.loader.proofs.luo_literal.Goals as goal

pub returns : goal.returns
returns c = rw (c.literal_answer.ensures, c.ask.ensures) (literal_told (literal_at c.args.slot) _ _)
