-- `ascii::link` meets its contract. Assumes nothing.
use Rattle.ascii.proofs.Chains.{link_at}
use Rattle.ascii.proofs.link.Goals as goal

pub returns : goal.returns
returns c = link_at _ _ _ _ _ c.requires c.eight.ensures c.eight-2.ensures c.is_linked8.ensures
