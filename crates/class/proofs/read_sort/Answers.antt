-- `class::read_sort` meets its contract. Assumes nothing.
use native.Mathlib.Omega.{arith}
use borrow.Author.Rules.{rules}
use Rattle.reads.proofs.Passed.{passed}
use Rattle.reads.proofs.Leaves.{u2_in}
use Rattle.slot.specs.Shown.{shown}
use Rattle.class.specs.Columns.{Flags, Names, Types, Firsts, Counts}
use Rattle.class.specs.Steps.{columns}
use Rattle.class.proofs.Rows.{refuses, no_count, up_to, in_file, has_record, turn, not_good, not_framed, finished}
use Rattle.class.proofs.read_sort.Goals as goal

pub returns-in_err-count-clause-answer : goal.returns-in_err-count-clause-answer
returns-in_err-count-clause-answer c =
    let a = c.args in
    simp (passed _ _ c.from_residual.ensures, ← no_count a.sort (shown a.p.now) a.from.count a.from.at a.from.used 0 (columns a.members.now a.attributes.now) _ _ c.in_err-count.ensures)

pub returns-in_err-count-clause-tables : goal.returns-in_err-count-clause-tables
returns-in_err-count-clause-tables c =
    let a = c.args in
    refuses _ _ (no_count a.sort (shown a.p.now) a.from.count a.from.at a.from.used 0 (columns a.members.now a.attributes.now) _ _ c.in_err-count.ensures)

pub overflow_add-at : goal.overflow_add-at
overflow_add-at c = omega (arith, u2_in _ _ _ c.in_ok-count.ensures, c.requires.short)

pub read-requires : goal.read-requires
read-requires c =
    let v = c.loop-n.invariant.1 in
    (v.begins, (up_to _ _ _ _ _ _ _ _ _ _ _ v Names, up_to _ _ _ _ _ _ _ _ _ _ _ v Types))

pub returns-in_err-m-clause-answer : goal.returns-in_err-m-clause-answer
returns-in_err-m-clause-answer c = simp (passed _ _ c.from_residual-in_err-m.ensures, ← not_good _ _ _ _ _ _ _ _ _ _ _ c.loop-n.invariant.1 c.in_ok-count.ensures _ _ (omega arith) c.in_err-m.ensures)

pub returns-in_err-m-clause-tables : goal.returns-in_err-m-clause-tables
returns-in_err-m-clause-tables c = refuses _ _ (not_good _ _ _ _ _ _ _ _ _ _ _ c.loop-n.invariant.1 c.in_ok-count.ensures _ _ (omega arith) c.in_err-m.ensures)

pub overflow_add-at-in-loop-n : goal.overflow_add-at-in-loop-n
overflow_add-at-in-loop-n c = omega (arith, in_file _ _ _ _ _ _ _ _ _ _ _ c.loop-n.invariant.1 _ c.in_ok-m.ensures, c.requires.short)

pub frame-requires : goal.frame-requires
frame-requires c =
    let v = c.loop-n.invariant.1 in
    (c.requires.short, omega (arith, in_file _ _ _ _ _ _ _ _ _ _ _ v _ c.in_ok-m.ensures, c.requires.short, v.ready.behind))

pub returns-in_err-at-clause-answer : goal.returns-in_err-at-clause-answer
returns-in_err-at-clause-answer c =
    simp (passed _ _ c.from_residual-in_err-at.ensures, ← not_framed _ _ _ _ _ _ _ _ _ _ _ c.loop-n.invariant.1 c.in_ok-count.ensures _ _ _ (omega arith) c.in_ok-m.ensures c.in_err-at.ensures.answer)

pub returns-in_err-at-clause-tables : goal.returns-in_err-at-clause-tables
returns-in_err-at-clause-tables c = refuses _ _ (not_framed _ _ _ _ _ _ _ _ _ _ _ c.loop-n.invariant.1 c.in_ok-count.ensures _ _ _ (omega arith) c.in_ok-m.ensures c.in_err-at.ensures.answer)

pub overflow_cast-used : goal.overflow_cast-used
overflow_cast-used c =
    let v = c.loop-n.invariant.1 in
    omega (arith, in_file _ _ _ _ _ _ _ _ _ _ _ v _ c.in_ok-m.ensures, c.requires.short, v.ready.behind)

pub put-requires : goal.put-requires
put-requires c =
    let h = has_record _ _ _ _ _ _ _ _ _ _ _ c.loop-n.invariant.1 _ c.in_ok-m.ensures in
    (h Flags, (h Names, (h Types, (h Firsts, h Counts))))

pub overflow_add-used : goal.overflow_add-used
overflow_add-used c =
    let v = c.loop-n.invariant.1 in
    omega (arith, in_file _ _ _ _ _ _ _ _ _ _ _ v _ c.in_ok-m.ensures, c.requires.short, v.ready.behind)

pub loop-n-preserved : goal.loop-n-preserved
loop-n-preserved c =
    (search rules, turn _ _ _ _ _ _ _ _ _ _ _ c.loop-n.invariant.1 _ _ _ (omega arith) c.in_ok-m.ensures c.in_ok-at.ensures.answer c.put.ensures.record c.in_ok-at.ensures.tables)

pub returns-clause-answer : goal.returns-clause-answer
returns-clause-answer c = (finished _ _ _ _ _ _ _ _ _ _ _ c.loop-n.invariant.1 c.in_ok-count.ensures (omega arith)).0

pub returns-clause-tables : goal.returns-clause-tables
returns-clause-tables c = (finished _ _ _ _ _ _ _ _ _ _ _ c.loop-n.invariant.1 c.in_ok-count.ensures (omega arith)).1
