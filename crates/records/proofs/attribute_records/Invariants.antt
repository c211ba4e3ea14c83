-- What holds at each turn of the loop.
use Rattle.std.proofs.Common.{◌≡◌, ◌≤◌, length}
use Rattle.records.specs.Records.{attribute_of}
use Rattle.records.proofs.Filled.{fill}
use Rattle.records.proofs.attribute_records.Given as goal

-- the first i records are written
abbrev pub invariant-loop-i : goal.invariant-loop-i
invariant-loop-i l = (l.i ≤ length l.initial.records) × (l.records ≡ fill (attribute_of (record { titles = l.titles; bodies = l.bodies; lengths = l.lengths })) l.initial.records l.i)
