-- `text::Piece::run` meets its contract. The loop's invariant: the run from `i` on ends where the whole run does. Assumes nothing.
use Rattle.text.proofs.Runs.{part, turn, stop, done}
use Rattle.text.proofs.Piece.run.Goals as goal

pub returns-in-0 : goal.returns-in-0
returns-in-0 g c = stop g.Self.Piece.piece _ _ c.loop-i.invariant (rw (part, c.in-0.is) at c.first.ensures.is)

pub loop-i-preserved : goal.loop-i-preserved
loop-i-preserved g c = turn g.Self.Piece.piece _ _ _ c.loop-i.invariant (rw part at c.first.ensures.is) (rw part at c.first.ensures.fits)

pub returns : goal.returns
returns g c = done g.Self.Piece.piece _ _ c.loop-i.invariant c.loop-i-test.false
