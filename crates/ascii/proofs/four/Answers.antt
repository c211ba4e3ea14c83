-- `ascii::four` meets its contract. Assumes nothing.
use Rattle.ascii.proofs.Windows.{four_at}
use Rattle.ascii.proofs.four.Goals as goal

pub returns : goal.returns
returns c = rw (four_at c.args.s.now c.args.i c.requires) c.join4.ensures
