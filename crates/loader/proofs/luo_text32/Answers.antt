-- `loader::luo_text32` meets its contract. Assumes nothing.
use Rattle.values.specs.Lookups.{text_at}
use Rattle.loader.proofs.Thin.{text_told}
use Rattle.loader.proofs.luo_text32.Goals as goal

pub returns : goal.returns
returns c = rw (c.text_answer.ensures, c.answer.ensures) (text_told (text_at c.args.slot) _ _)
