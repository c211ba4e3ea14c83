-- `dependants::store` meets its contract. Assumes nothing.
use mathlib.Core.Path.{refl, sym, ◌∙◌}
use Rattle.std.proofs.Common.{arith}
use Rattle.dependants.proofs.Stored.{begin, hit, miss, done}
use Rattle.reads.proofs.Clauses.{number_list}
use Rattle.dependants.proofs.store.Goals.{then-reaches, else-reaches}
use Rattle.dependants.proofs.store.Goals as goal

pub loop-a-init : goal.loop-a-init
loop-a-init c = begin _ _ _ _ refl

pub loop-a-preserved : goal.loop-a-preserved
loop-a-preserved c = elim c.if-reaches.branch [
  | then-reaches w ↦ rw (w.list-is, w.count-is, w.put.ensures) (hit _ _ _ _ _ _ c.loop-a.invariant (sym w.if-reaches.true ∙ c.reaches.ensures))
  | else-reaches w ↦ rw (w.list-is, w.count-is) (miss _ _ _ _ _ _ c.loop-a.invariant (sym w.if-reaches.false ∙ c.reaches.ensures))
]

pub returns : goal.returns
returns c = number_list (done _ _ _ _ _ _ c.loop-a.invariant (omega arith))
