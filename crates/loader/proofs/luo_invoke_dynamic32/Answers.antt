-- `loader::luo_invoke_dynamic32` meets its contract. Assumes nothing.
use Rattle.lookups.specs.Lookups.{invoke_dynamic_at}
use Rattle.loader.proofs.Thin.{dynamic_told}
use Rattle.loader.proofs.luo_invoke_dynamic32.Goals as goal

pub returns : goal.returns
returns c = rw (c.dynamic_answer.ensures, c.answer.ensures) (dynamic_told (invoke_dynamic_at c.args.slot) _ _)
