-- What holds at each turn of the loop.
use Prim.Native.Nat.{◌+◌, ◌≤◌}
use mathlib.Core.Bool.{false}
use mathlib.Core.Path.{◌≡◌}
use lib.ListN.{length, drop}
use Rattle.text.specs.Text.{walked, whole}
use Rattle.text.proofs.walk_name.Given as goal

abbrev pub invariant-loop-i : goal.invariant-loop-i
invariant-loop-i l = (l.i ≤ length l.s) × ((l.i + walked l.seen (drop l.i l.s) ≡ walked false l.s) × (whole l.seen (drop l.i l.s) ≡ whole false l.s))
