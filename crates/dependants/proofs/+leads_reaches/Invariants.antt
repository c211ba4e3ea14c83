-- `leads` and `reaches` call each other: `reaches` with one reference less, so the measure is twice the depth, and one more for `leads`.
use Prim.Native.Nat.{◌+◌}
use Rattle.dependants.proofs.+leads_reaches.Given as goal

abbrev pub decreases-leads : goal.decreases-leads
decreases-leads l = l.depth + l.depth + 1

abbrev pub decreases-reaches : goal.decreases-reaches
decreases-reaches l = l.depth + l.depth
