-- `class::read_own` meets its contract. Assumes nothing.
use native.Mathlib.Omega.{arith}
use Rattle.reads.proofs.Leaves.{u2_in}
use Rattle.reads.proofs.Passed.{passed}
use Rattle.slot.specs.Shown.{shown}
use Rattle.class.proofs.Rows.{refuses}
use Rattle.class.proofs.Own.{no_count, no_frames, bad_end, good_end}
use Rattle.class.proofs.read_own.Goals as goal

pub returns-in_err-count-clause-answer : goal.returns-in_err-count-clause-answer
returns-in_err-count-clause-answer c =
    let a = c.args in
    simp (passed _ _ c.from_residual.ensures, ← no_count (shown a.p.now) a.used a.start a.attributes.now.titles.now a.attributes.now.bodies.now a.attributes.now.lengths.now _ _ c.in_err-count.ensures)

pub returns-in_err-count-clause-tables : goal.returns-in_err-count-clause-tables
returns-in_err-count-clause-tables c =
    let a = c.args in
    refuses _ _ (no_count (shown a.p.now) a.used a.start a.attributes.now.titles.now a.attributes.now.bodies.now a.attributes.now.lengths.now _ _ c.in_err-count.ensures)

pub overflow_add-start : goal.overflow_add-start
overflow_add-start c = omega (arith, u2_in _ _ _ c.in_ok-count.ensures, c.requires.0)

pub frame-requires : goal.frame-requires
frame-requires c = (c.requires.0, omega (arith, u2_in _ _ _ c.in_ok-count.ensures, c.requires.0, c.requires.1.0))

pub returns-in_err-end-clause-answer : goal.returns-in_err-end-clause-answer
returns-in_err-end-clause-answer c =
    let a = c.args in
    simp (passed _ _ c.from_residual-in_err-end.ensures, ← no_frames (shown a.p.now) a.used a.start a.attributes.now.titles.now a.attributes.now.bodies.now a.attributes.now.lengths.now c.in_ok-count.count c.in_ok-count.ensures c.requires.1.1 _ _ c.in_err-end.ensures.answer)

pub returns-in_err-end-clause-tables : goal.returns-in_err-end-clause-tables
returns-in_err-end-clause-tables c =
    let a = c.args in
    refuses _ _ (no_frames (shown a.p.now) a.used a.start a.attributes.now.titles.now a.attributes.now.bodies.now a.attributes.now.lengths.now c.in_ok-count.count c.in_ok-count.ensures c.requires.1.1 _ _ c.in_err-end.ensures.answer)

pub returns-in_err-check_end-clause-answer : goal.returns-in_err-check_end-clause-answer
returns-in_err-check_end-clause-answer c =
    let a = c.args in
    let r = bad_end (shown a.p.now) a.used a.start a.attributes.now.titles.now a.attributes.now.bodies.now a.attributes.now.lengths.now c.in_ok-count.count c.in_ok-count.ensures c.requires.1.1 _ c.in_ok-end.ensures.answer _ _ _ c.in_ok-end.ensures.tables _ _ c.in_err-check_end.ensures in
    simp (passed _ _ c.from_residual-in_err-check_end.ensures, ← r)

pub returns-in_err-check_end-clause-tables : goal.returns-in_err-check_end-clause-tables
returns-in_err-check_end-clause-tables c =
    let a = c.args in
    refuses _ _ (bad_end (shown a.p.now) a.used a.start a.attributes.now.titles.now a.attributes.now.bodies.now a.attributes.now.lengths.now c.in_ok-count.count c.in_ok-count.ensures c.requires.1.1 _ c.in_ok-end.ensures.answer _ _ _ c.in_ok-end.ensures.tables _ _ c.in_err-check_end.ensures)

pub returns-clause-answer : goal.returns-clause-answer
returns-clause-answer c =
    let a = c.args in
    (good_end (shown a.p.now) a.used a.start a.attributes.now.titles.now a.attributes.now.bodies.now a.attributes.now.lengths.now c.in_ok-count.count c.in_ok-count.ensures c.requires.1.1 _ c.in_ok-end.ensures.answer _ _ _ c.in_ok-end.ensures.tables c.in_ok-check_end.ensures).0

pub returns-clause-tables : goal.returns-clause-tables
returns-clause-tables c =
    let a = c.args in
    (good_end (shown a.p.now) a.used a.start a.attributes.now.titles.now a.attributes.now.bodies.now a.attributes.now.lengths.now c.in_ok-count.count c.in_ok-count.ensures c.requires.1.1 _ c.in_ok-end.ensures.answer _ _ _ c.in_ok-end.ensures.tables c.in_ok-check_end.ensures).1
