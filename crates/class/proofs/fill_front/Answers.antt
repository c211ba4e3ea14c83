-- `class::fill_front` meets its contract. Assumes nothing.
use native.Mathlib.Omega.{arith}
use lib.ListN.{length}
use Rattle.reads.proofs.Passed.{passed}
use Rattle.class.proofs.Rows.{refuses}
use Rattle.class.proofs.Fronts.{no_pool, no_head, no_list, good_front, head_in}
use Rattle.class.proofs.fill_front.Goals as goal

pub returns-in_err-h-clause-answer : goal.returns-in_err-h-clause-answer
returns-in_err-h-clause-answer c =
    let a = c.args in
    simp (passed _ _ c.from_residual.ensures, ← no_pool a.file.now (length a.table.now) (length a.interfaces.now) _ _ c.in_err-h.ensures.answer)

pub returns-in_err-h-clause-tables : goal.returns-in_err-h-clause-tables
returns-in_err-h-clause-tables c =
    let a = c.args in
    refuses _ _ (no_pool a.file.now (length a.table.now) (length a.interfaces.now) _ _ c.in_err-h.ensures.answer)

pub returns-in_err-c-clause-answer : goal.returns-in_err-c-clause-answer
returns-in_err-c-clause-answer c =
    let a = c.args in
    simp (passed _ _ c.from_residual-in_err-c.ensures, ← no_head a.file.now (length a.table.now) (length a.interfaces.now) _ _ c.in_ok-h.ensures.answer c.in_ok-h.ensures.table _ _ c.in_err-c.ensures)

pub returns-in_err-c-clause-tables : goal.returns-in_err-c-clause-tables
returns-in_err-c-clause-tables c =
    let a = c.args in
    refuses _ _ (no_head a.file.now (length a.table.now) (length a.interfaces.now) _ _ c.in_ok-h.ensures.answer c.in_ok-h.ensures.table _ _ c.in_err-c.ensures)

pub overflow_add-h : goal.overflow_add-h
overflow_add-h c = omega (arith, head_in _ _ _ c.in_ok-c.ensures)

pub returns-in_err-l-clause-answer : goal.returns-in_err-l-clause-answer
returns-in_err-l-clause-answer c =
    let a = c.args in
    simp (passed _ _ c.from_residual-in_err-l.ensures, ← no_list a.file.now (length a.table.now) (length a.interfaces.now) _ _ c.in_ok-h.ensures.answer c.in_ok-h.ensures.table _ c.in_ok-c.ensures _ _ c.in_err-l.ensures.answer)

pub returns-in_err-l-clause-tables : goal.returns-in_err-l-clause-tables
returns-in_err-l-clause-tables c =
    let a = c.args in
    refuses _ _ (no_list a.file.now (length a.table.now) (length a.interfaces.now) _ _ c.in_ok-h.ensures.answer c.in_ok-h.ensures.table _ c.in_ok-c.ensures _ _ c.in_err-l.ensures.answer)

pub returns-clause-answer : goal.returns-clause-answer
returns-clause-answer c =
    let a = c.args in
    (good_front a.file.now (length a.table.now) (length a.interfaces.now) _ _ c.in_ok-h.ensures.answer c.in_ok-h.ensures.table _ c.in_ok-c.ensures _ _ c.in_ok-l.ensures.answer c.in_ok-l.ensures.list).0

pub returns-clause-tables : goal.returns-clause-tables
returns-clause-tables c =
    let a = c.args in
    (good_front a.file.now (length a.table.now) (length a.interfaces.now) _ _ c.in_ok-h.ensures.answer c.in_ok-h.ensures.table _ c.in_ok-c.ensures _ _ c.in_ok-l.ensures.answer c.in_ok-l.ensures.list).1
