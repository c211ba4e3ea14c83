-- `script::after` meets its contract. Assumes nothing.
use native.Mathlib.Omega.{arith}
use Rattle.script.proofs.Scripts.{past_end, past_mark, past_none}
use Rattle.script.proofs.after.Goals as goal

pub returns-then-s-at : goal.returns-then-s-at
returns-then-s-at c = (past_end _ _ _ c.if-s-at.true, omega arith, omega arith)

pub returns-then-n-s : goal.returns-then-n-s
returns-then-n-s c = (past_mark _ _ _ _ c.if-s-at.false c.length_to-n.ensures.0 c.if-n-s.true, omega arith, omega arith)

pub returns : goal.returns
returns c = (past_none _ _ _ _ c.if-s-at.false c.length_to-n.ensures.0 c.if-n-s.false, omega arith, omega arith)
