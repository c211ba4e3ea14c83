-- What holds at each turn of the loop.
use Prim.Native.Nat.{◌-◌}
use lib.ListN.{length}
use Rattle.text.proofs.Runs.{Runs}
use Rattle.text.proofs.Piece.run.Given as goal

abbrev pub invariant-loop-i : goal.invariant-loop-i
invariant-loop-i g l = Runs g.Self.Piece.piece l.s l.i

abbrev pub decreases-loop-i : goal.decreases-loop-i
decreases-loop-i g l = length l.s - l.i
