-- `ascii::walk_name` meets its contract. Assumes nothing.
use Prim.Native.Nat.{ℕ, ◌+◌}
use native.Mathlib.Omega.{arith}
use mathlib.Core.Path.{◌∙◌, ap}
use mathlib.Core.Bool.{false}
use Rattle.text.proofs.Names.{walked_le}
use Rattle.text.proofs.Runs.{part}
use Rattle.ascii.proofs.walk_name.Goals as goal

pub overflow_add-result : goal.overflow_add-result
overflow_add-result c =
    let h = rw part at c.walk_name-at.ensures.0 in
    let e = c.head-k.ensures.1 in
    omega (arith, walked_le false c.args.s.now)

pub returns : goal.returns
returns c =
    let k = c.head-k in
    (ap (λ (n : ℕ). k.result + n) (rw part at c.walk_name-at.ensures.0) ∙ k.ensures.1, rw part at c.walk_name-at.ensures.1 ∙ k.ensures.2)
