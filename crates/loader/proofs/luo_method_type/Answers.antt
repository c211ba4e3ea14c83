-- `loader::luo_method_type` meets its contract. Assumes nothing.
use Rattle.lookups.specs.Lookups.{method_type_at}
use Rattle.loader.proofs.Thin.{slot_told}
use Rattle.loader.proofs.luo_method_type.Goals as goal

pub returns : goal.returns
returns c = rw (c.slot_answer.ensures, c.ask.ensures) (slot_told (method_type_at c.args.slot) _ _)
