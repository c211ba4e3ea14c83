-- `class::read_into` meets its contract. Assumes nothing.
use mathlib.Core.Path.{sym, ◌∙◌}
use lib.ListN.{length}
use Rattle.reads.proofs.Passed.{passed}
use Rattle.class.specs.Steps.{columns}
use Rattle.class.proofs.Files.{cleared, no_front, nothing_begun, short, answers, no_tables, all_good}
use Rattle.class.proofs.read_into.Goals as goal

pub returns-in_err-f-clause-answer : goal.returns-in_err-f-clause-answer
returns-in_err-f-clause-answer c =
    let a = c.args in
    simp (passed _ _ c.from_residual.ensures, ← no_front a.file.now (length a.table.now) (length a.interfaces.now) (columns a.members.now a.attributes.now) _ _ c.in_err-f.ensures.answer)

pub returns-in_err-f-clause-tables : goal.returns-in_err-f-clause-tables
returns-in_err-f-clause-tables c =
    let a = c.args in
    nothing_begun a.file.now (length a.table.now) (length a.interfaces.now) (columns a.members.now a.attributes.now) _ _ _ _ _ c.in_err-f.ensures.answer c.in_err-f.ensures.tables (cleared _ _ c.clear.ensures.zero c.clear-2.ensures.zero)

pub read_tables-answer-requires : goal.read_tables-answer-requires
read_tables-answer-requires c =
    let a = c.args in
    short a.file.now (length a.table.now) (length a.interfaces.now) (columns a.members.now a.attributes.now) _ _ _ c.in_ok-f.ensures.answer c.in_ok-f.ensures.tables

pub returns-then-is_err-clause-answer : goal.returns-then-is_err-clause-answer
returns-then-is_err-clause-answer c =
    let a = c.args in
    c.read_tables-answer.ensures.answer ∙ answers a.file.now (length a.table.now) (length a.interfaces.now) (columns a.members.now a.attributes.now) _ _ _ c.in_ok-f.ensures.answer c.in_ok-f.ensures.tables _ (cleared _ _ c.clear.ensures.zero c.clear-2.ensures.zero)

pub returns-then-is_err-clause-tables : goal.returns-then-is_err-clause-tables
returns-then-is_err-clause-tables c =
    let a = c.args in
    no_tables a.file.now (length a.table.now) (length a.interfaces.now) (columns a.members.now a.attributes.now) _ _ _ c.in_ok-f.ensures.answer c.in_ok-f.ensures.tables _
    (cleared _ _ c.clear.ensures.zero c.clear-2.ensures.zero) _ c.read_tables-answer.ensures.long _ (sym c.if-is_err.ensures.value) c.read_tables-answer.ensures.answer _ _ _ c.clear-then-is_err.ensures c.clear-then-is_err-2.ensures
    (cleared _ _ c.clear-then-is_err-3.ensures.zero c.clear-then-is_err-4.ensures.zero) c.read_front.auto.table c.read_front.auto.interfaces

pub returns-else-is_err-clause-answer : goal.returns-else-is_err-clause-answer
returns-else-is_err-clause-answer c =
    let a = c.args in
    c.read_tables-answer.ensures.answer ∙ answers a.file.now (length a.table.now) (length a.interfaces.now) (columns a.members.now a.attributes.now) _ _ _ c.in_ok-f.ensures.answer c.in_ok-f.ensures.tables _ (cleared _ _ c.clear.ensures.zero c.clear-2.ensures.zero)

pub returns-else-is_err-clause-tables : goal.returns-else-is_err-clause-tables
returns-else-is_err-clause-tables c =
    let a = c.args in
    all_good a.file.now (length a.table.now) (length a.interfaces.now) (columns a.members.now a.attributes.now) _ _ _ c.in_ok-f.ensures.answer c.in_ok-f.ensures.tables _
    (cleared _ _ c.clear.ensures.zero c.clear-2.ensures.zero) _ c.read_tables-answer.ensures.tables _ (sym c.if-is_err.ensures.value) c.read_tables-answer.ensures.answer
