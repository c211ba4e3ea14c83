-- What holds at each turn of the loop.
use Rattle.std.proofs.Common.{◌≡◌, ◌-◌}
use Rattle.reads.specs.Answer.{each}
use Rattle.slot.specs.Shown.{shown}
use Rattle.handed.proofs.Handed.{same_at}
use Rattle.cells.specs.Cells.{cells_in}
use Rattle.byte_tables.proofs.check_bytes.Given as goal

abbrev pub invariant-loop-i : goal.invariant-loop-i
invariant-loop-i l = each (l.end - l.i) l.i (same_at (shown l.p).cells (cells_in l.table)) ≡ each l.end 0 (same_at (shown l.p).cells (cells_in l.table))
