-- `loader::luo_class_name32` meets its contract. Assumes nothing.
use Rattle.lookups.specs.Lookups.{class_at}
use Rattle.loader.proofs.Thin.{slot_told}
use Rattle.loader.proofs.luo_class_name32.Goals as goal

pub returns : goal.returns
returns c = rw (c.slot_answer.ensures, c.answer.ensures) (slot_told (class_at c.args.slot) _ _)
