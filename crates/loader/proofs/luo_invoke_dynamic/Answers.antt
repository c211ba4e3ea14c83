-- `loader::luo_invoke_dynamic` meets its contract. Assumes nothing.
use Rattle.lookups.specs.Lookups.{invoke_dynamic_at}
use Rattle.loader.proofs.Thin.{dynamic_told}
use Rattle.loader.proofs.luo_invoke_dynamic.Goals as goal

pub returns : goal.returns
returns c = rw (c.dynamic_answer.ensures, c.ask.ensures) (dynamic_told (invoke_dynamic_at c.args.slot) _ _)
