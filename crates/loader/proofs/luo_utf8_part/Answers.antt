-- `loader::luo_utf8_part` meets its contract. Assumes nothing.
use Rattle.values.specs.Lookups.{span_at}
use Rattle.loader.proofs.Thin.{part_told}
use Rattle.loader.proofs.luo_utf8_part.Goals as goal

pub returns : goal.returns
returns c = rw (c.part_answer.ensures, c.ask.ensures) (part_told (span_at c.args.slot) _ _)
