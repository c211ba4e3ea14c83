-- `ascii::middling` meets its contract. Assumes nothing.
use native.Mathlib.Omega.{arith}
use Prim.Native.Nat.{◌-◌}
use mathlib.Core.List.{◌++◌}
use mathlib.Core.Path.{ap, ◌∙◌}
use lib.ListN.{length, take, drop}
use Rattle.ascii.specs.Ascii.{every, every8}
use Rattle.ascii.proofs.Windows.{every_join, both_fours, fours_long}
use Rattle.ascii.proofs.Words.{every_eight}
use Rattle.ascii.proofs.middling.Goals as goal

pub returns : goal.returns
returns c =
    let s = c.args.s.now in
    let name = c.args.name in
    let k = length s - 4 in
    c.is_fine.ensures
    ∙ ap (every8 name) c.eight.ensures.0
    ∙ every_eight name (take 4 (drop 0 s) ++ take 4 (drop k s)) (fours_long s 0 k (omega arith) (omega arith)) c.eight.ensures.1
    ∙ both_fours (every name) (every_join name) s k (omega arith) (omega arith)
