-- `loader::luo_package_name` meets its contract. Assumes nothing.
use Rattle.lookups.specs.Lookups.{package_at}
use Rattle.loader.proofs.Thin.{slot_told}
use Rattle.loader.proofs.luo_package_name.Goals as goal

pub returns : goal.returns
returns c = rw (c.slot_answer.ensures, c.ask.ensures) (slot_told (package_at c.args.slot) _ _)
