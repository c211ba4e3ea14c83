-- What holds at each turn of the loop.
use Rattle.std.proofs.Common.{◌≤◌, length}
use Rattle.pool_vectors.proofs.build.Given as goal

abbrev pub invariant-loop : goal.invariant-loop
invariant-loop l = l.at ≤ length l.space
