-- What holds at each turn of the loop.
use Rattle.std.proofs.Common.{◌≡◌, ◌≤◌, length}
use Rattle.script.specs.Script.{filled}
use Rattle.script.proofs.bytes.Given as goal

abbrev pub invariant-loop-n : goal.invariant-loop-n
invariant-loop-n l = (l.n ≤ length l.out) × (filled l.left l.out l.n ≡ filled l.word l.initial.out 0)
