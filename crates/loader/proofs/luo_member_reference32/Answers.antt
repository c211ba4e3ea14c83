-- `loader::luo_member_reference32` meets its contract. Assumes nothing.
use Rattle.lookups.specs.Lookups.{member_at}
use Rattle.loader.proofs.Thin.{member_told}
use Rattle.loader.proofs.luo_member_reference32.Goals as goal

pub returns : goal.returns
returns c = rw (c.member_answer.ensures, c.answer.ensures) (member_told (member_at c.args.slot) _ _)
