-- `script::word_start` meets its contract. Assumes nothing.
use Rattle.std.proofs.Common.{sym, ◌∙◌}
use Rattle.script.proofs.Scripts.{word_on, word_done}
use Rattle.script.proofs.word_start.Goals as goal

pub loop-preserved : goal.loop-preserved
loop-preserved c = rw c.after-at.ensures.0 (sym (word_on _ _ _ _ c.loop-test.true) ∙ c.loop.invariant)

pub returns : goal.returns
returns c = sym (word_done _ _ _ _ c.loop-test.false) ∙ c.loop.invariant
