-- `loader::luo_method_type32` meets its contract. Assumes nothing.
use Rattle.lookups.specs.Lookups.{method_type_at}
use Rattle.loader.proofs.Thin.{slot_told}
use Rattle.loader.proofs.luo_method_type32.Goals as goal

pub returns : goal.returns
returns c = rw (c.slot_answer.ensures, c.answer.ensures) (slot_told (method_type_at c.args.slot) _ _)
