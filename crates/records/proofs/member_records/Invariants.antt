-- What holds at each turn of the loop.
use Rattle.std.proofs.Common.{◌≡◌, ◌≤◌, length}
use Rattle.records.specs.Records.{member_of}
use Rattle.records.proofs.Filled.{fill}
use Rattle.records.proofs.member_records.Given as goal

-- the first i records are written
abbrev pub invariant-loop-i : goal.invariant-loop-i
invariant-loop-i l = (l.i ≤ length l.initial.records) × (l.records ≡ fill (member_of (record { flags = l.flags; names = l.names; types = l.types; firsts = l.firsts; counts = l.counts })) l.initial.records l.i)
