-- What holds at each turn of the loop.
use Rattle.std.proofs.Common.{◌≡◌, ◌≤◌, ◌+◌, length}
use Rattle.slot.specs.Shown.{shown}
use Rattle.bootstrap.specs.Indices.{none, gathered}
use Rattle.bootstrap.proofs.gather.Given as goal

abbrev pub invariant-loop-name : goal.invariant-loop-name
invariant-loop-name l =
    (gathered (shown l.p) l.name-iterator.a.rest.now l.name-iterator.b.rest.now l.found ≡ gathered (shown l.p) l.titles l.bodies none)
    × (l.found.count + length l.name-iterator.a.rest.now ≤ length l.titles)
