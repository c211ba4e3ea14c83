-- `loader::luo_name_and_type32` meets its contract. Assumes nothing.
use Rattle.lookups.specs.Lookups.{named_at}
use Rattle.loader.proofs.Thin.{named_told}
use Rattle.loader.proofs.luo_name_and_type32.Goals as goal

pub returns : goal.returns
returns c = rw (c.named_answer.ensures, c.answer.ensures) (named_told (named_at c.args.slot) _ _)
