-- What holds at each turn of the loop.
use mathlib.Core.Path.{◌≡◌}
use lib.ListN.{drop}
use Rattle.ascii.specs.Ascii.{linked, pairs}
use Rattle.ascii.proofs.short_chain.Given as goal

abbrev pub invariant-loop-b : goal.invariant-loop-b
invariant-loop-b l = linked (pairs l.before (drop l.b-index l.s)) ≡ linked (pairs 0x2F l.s)
