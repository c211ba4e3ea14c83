-- What holds at each turn of the loop.
use Rattle.std.proofs.Common.{◌≡◌, drop}
use Rattle.script.specs.Script.{decimal, decimal_on}
use Rattle.script.proofs.number.Given as goal

abbrev pub invariant-loop-b : goal.invariant-loop-b
invariant-loop-b l = decimal_on l.n (drop l.b-index l.word) ≡ decimal l.word
