-- Where the index checks accept, there is exactly one BootstrapMethods for each Dynamic and InvokeDynamic, and it has the method named. Assumes nothing.
use mathlib.Core.Path.{◌≡◌}
use mathlib.Core.Bool.{true}
use mathlib.Core.List.{List}
use Prim.Native.Nat.{ℕ, ◌<◌}
use native.Mathlib.Omega.{arith}
use lib.Dec.{eqb}
use borrow.Author.Tests.{eqb-true}
use Rattle.reads.specs.Answer.{fine}
use Rattle.reads.proofs.Answers.{held, required, each_at}
use Rattle.pool.specs.Pool.{Pool, slots}
use Rattle.slot.specs.Slots.{tag_of, field}
use Rattle.bootstrap.specs.Indices.{bootstraps, below_each, dynamic, bootstrap_index, bootstrap_indices}

-- its index is below the number of methods of each, and there is one
pub named : (p : Pool) (titles bodies : List ℕ) → fine ≡ bootstrap_indices p titles bodies → (n : ℕ) → n < slots p → dynamic (tag_of p n) ≡ true
    → (below_each p (field p n 1) titles bodies ≡ true) × (bootstraps p titles bodies ≡ 1)
unfolding bootstrap_indices bootstrap_index
named p titles bodies e n h d =
    let f : fine ≡ bootstrap_index p titles bodies n = each_at (slots p) 0 (bootstrap_index p titles bodies) e n (omega arith) (omega arith) in
    let b = held (below_each p (field p n 1) titles bodies) 17 n _ tt (rw d at f) in
    (b.0, eqb-true (bootstraps p titles bodies) 1 (required (eqb (bootstraps p titles bodies) 1) 16 n b.1))
