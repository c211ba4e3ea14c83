-- What holds at each turn of the loop.
use Rattle.std.proofs.Common.{◌≡◌, ◌-◌}
use Rattle.script.specs.Script.{word_from}
use Rattle.script.proofs.word_start.Given as goal

abbrev pub invariant-loop : goal.invariant-loop
invariant-loop l = word_from (l.n - l.counter) l.line l.at ≡ word_from l.n l.line 0
