-- `loader::luo_method_handle` meets its contract. Assumes nothing.
use Rattle.lookups.specs.Lookups.{handle_at}
use Rattle.loader.proofs.Thin.{handle_told}
use Rattle.loader.proofs.luo_method_handle.Goals as goal

pub returns : goal.returns
returns c = rw (c.handle_answer.ensures, c.ask.ensures) (handle_told (handle_at c.args.slot) _ _)
