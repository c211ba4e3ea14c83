-- `bootstrap::steps` meets its contract. Assumes nothing.
use Rattle.std.proofs.Common.{ℕ, ◌∙◌, arith, ap}
use Rattle.reads.specs.Promise.{answered}
use Rattle.reads.proofs.Passed.{passed}
use Rattle.bootstrap.proofs.Bodies.{steps_go, steps_stop, steps_done}
use Rattle.bootstrap.proofs.steps.Goals as goal

pub returns-in_err-i : goal.returns-in_err-i
returns-in_err-i g c s h =
    ap (answered {A = ℕ}).read (passed _ _ c.from_residual.ensures)
    ∙ steps_stop s c.args.count c.loop.counter c.loop.i _ _ (omega arith) (h c.loop.i (omega arith) _ c.in_err-i.ensures) ∙ c.loop.invariant.1 s h

pub loop-preserved : goal.loop-preserved
loop-preserved g c = (search, λ s h. steps_go s c.args.count c.loop.counter c.loop.i c.in_ok-i.i (omega arith) (h c.loop.i (omega arith) _ c.in_ok-i.ensures) ∙ c.loop.invariant.1 s h)

pub returns : goal.returns
returns g c s h = steps_done s c.args.count c.loop.counter c.loop.i (omega arith) ∙ c.loop.invariant.1 s h
