-- `script::number` meets its contract. Assumes nothing.
use Rattle.std.proofs.Common.{refl, sym, ◌∙◌, arith}
use Rattle.script.specs.Script.{decimal}
use Rattle.script.proofs.Scripts.{decimal_no_digit, decimal_wide, decimal_large, decimal_digit, decimal_out}
use Rattle.script.proofs.number.Goals.{then-d-gt9-via-then-d-gt9, then-d-gt9-via-else-d-gt9+then-n-gt1844674407370955160}
use Rattle.script.proofs.number.Goals as goal

pub loop-b-init : goal.loop-b-init
unfolding decimal
loop-b-init c = refl

pub returns-in_default : goal.returns-in_default
returns-in_default c = let h = c.in_default.ensures in sym (decimal_no_digit _ _ _ c.loop-b-test.true (omega arith)) ∙ c.loop-b.invariant

pub returns-then-d-gt9 : goal.returns-then-d-gt9
returns-then-d-gt9 c =
    let d = c.in-Some.ensures in
    elim c.then-d-gt9.branch [
      | then-d-gt9-via-then-d-gt9 w ↦ sym (decimal_wide _ _ _ _ c.loop-b-test.true d w.if-d-gt9.true) ∙ c.loop-b.invariant
      | then-d-gt9-via-else-d-gt9+then-n-gt1844674407370955160 w ↦ sym (decimal_large _ _ _ _ c.loop-b-test.true d w.if-d-gt9.false w.if-n-gt1844674407370955160.true) ∙ c.loop-b.invariant
    ]

pub loop-b-preserved : goal.loop-b-preserved
loop-b-preserved c = rw c.from.ensures (sym (decimal_digit _ _ _ _ c.loop-b-test.true c.in-Some.ensures c.if-d-gt9.false c.if-n-gt1844674407370955160.false) ∙ c.loop-b.invariant)

pub returns : goal.returns
returns c = sym (decimal_out _ _ _ c.loop-b-test.false) ∙ c.loop-b.invariant
