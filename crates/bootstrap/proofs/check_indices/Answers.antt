-- `bootstrap::check_indices` meets its contract. Assumes nothing.
use mathlib.Core.Path.{sym, ◌∙◌}
use Rattle.std.proofs.Common.{arith, ap}
use Rattle.reads.specs.Promise.{answered}
use Rattle.reads.proofs.Passed.{passed}
use Rattle.reads.proofs.Answers.{each_go, each_stop, each_done}
use Rattle.slot.specs.Shown.{shown}
use Rattle.bootstrap.proofs.Gathered.{begin}
use Rattle.bootstrap.proofs.check_indices.Goals as goal

pub loop-n-init : goal.loop-n-init
loop-n-init c = begin (shown c.args.p.now) _ _ _ _ (c.gather-found.ensures ∙ rw (c.part.ensures, c.part-2.ensures)) c.count-n-end.ensures

pub returns-in_err-check_index : goal.returns-in_err-check_index
returns-in_err-check_index c =
    ap answered.read (passed _ _ c.from_residual.ensures) ∙ sym (sym c.loop-n.invariant ∙ each_stop _ _ _ _ _ c.loop-n-test.true c.in_err-check_index.ensures)

pub loop-n-preserved : goal.loop-n-preserved
loop-n-preserved c = sym (each_go _ _ _ c.loop-n-test.true c.in_ok-check_index.ensures) ∙ c.loop-n.invariant

pub returns : goal.returns
returns c = sym (sym c.loop-n.invariant ∙ each_done _ _ _ (omega arith))
