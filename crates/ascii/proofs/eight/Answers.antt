-- `ascii::eight` meets its contract. Assumes nothing.
use native.Mathlib.Omega.{arith}
use Rattle.ascii.proofs.Windows.{packed_eight, bytes_join}
use Rattle.ascii.proofs.eight.Goals as goal

pub returns : goal.returns
returns c =
    let h = packed_eight c.args.s.now c.args.i c.args.j c.requires.0 in
    (omega arith, bytes_join _ _ c.four-2.ensures.2 c.four.ensures.2)
