-- `class::read_tables` meets its contract. Assumes nothing.
use Rattle.reads.proofs.Passed.{passed}
use Rattle.slot.specs.Shown.{shown}
use Rattle.class.specs.Steps.{columns}
use Rattle.class.proofs.Rows.{refuses}
use Rattle.class.proofs.Tabled.{no_fields, ready_methods, no_methods, ready_own, no_own, all_good}
use Rattle.class.proofs.read_tables.Goals as goal

pub returns-in_err-a-clause-answer : goal.returns-in_err-a-clause-answer
returns-in_err-a-clause-answer c =
    let a = c.args in
    simp (passed _ _ c.from_residual.ensures, ← no_fields a.f (shown a.p.now) (columns a.members.now a.attributes.now) _ c.is_marked.ensures c.requires _ _ c.in_err-a.ensures.answer)

pub returns-in_err-a-clause-tables : goal.returns-in_err-a-clause-tables
returns-in_err-a-clause-tables c =
    let a = c.args in
    refuses _ _ (no_fields a.f (shown a.p.now) (columns a.members.now a.attributes.now) _ c.is_marked.ensures c.requires _ _ c.in_err-a.ensures.answer)

pub read_sort-requires-2 : goal.read_sort-requires-2
read_sort-requires-2 c =
    let a = c.args in
    ready_methods a.f (shown a.p.now) (columns a.members.now a.attributes.now) _ c.is_marked.ensures c.requires _ _ c.in_ok-a.ensures.answer c.in_ok-a.ensures.tables

pub returns-in_err-b-clause-answer : goal.returns-in_err-b-clause-answer
returns-in_err-b-clause-answer c =
    let a = c.args in
    simp (passed _ _ c.from_residual-in_err-b.ensures, ← no_methods a.f (shown a.p.now) (columns a.members.now a.attributes.now) _ c.is_marked.ensures c.requires _ _ c.in_ok-a.ensures.answer c.in_ok-a.ensures.tables _ _ c.in_err-b.ensures.answer)

pub returns-in_err-b-clause-tables : goal.returns-in_err-b-clause-tables
returns-in_err-b-clause-tables c =
    let a = c.args in
    refuses _ _ (no_methods a.f (shown a.p.now) (columns a.members.now a.attributes.now) _ c.is_marked.ensures c.requires _ _ c.in_ok-a.ensures.answer c.in_ok-a.ensures.tables _ _ c.in_err-b.ensures.answer)

pub read_own-requires : goal.read_own-requires
read_own-requires c =
    let a = c.args in
    (c.requires, ready_own a.f (shown a.p.now) (columns a.members.now a.attributes.now) _ c.is_marked.ensures c.requires _ _ c.in_ok-a.ensures.answer c.in_ok-a.ensures.tables _ _ c.in_ok-b.ensures.answer c.in_ok-b.ensures.tables)

pub returns-in_err-own-clause-answer : goal.returns-in_err-own-clause-answer
returns-in_err-own-clause-answer c =
    let a = c.args in
    simp (passed _ _ c.from_residual-in_err-own.ensures, ← no_own a.f (shown a.p.now) (columns a.members.now a.attributes.now) _ c.is_marked.ensures c.requires _ _ c.in_ok-a.ensures.answer c.in_ok-a.ensures.tables _ _ c.in_ok-b.ensures.answer c.in_ok-b.ensures.tables _ _ c.in_err-own.ensures.answer)

pub returns-in_err-own-clause-tables : goal.returns-in_err-own-clause-tables
returns-in_err-own-clause-tables c =
    let a = c.args in
    refuses _ _ (no_own a.f (shown a.p.now) (columns a.members.now a.attributes.now) _ c.is_marked.ensures c.requires _ _ c.in_ok-a.ensures.answer c.in_ok-a.ensures.tables _ _ c.in_ok-b.ensures.answer c.in_ok-b.ensures.tables _ _ c.in_err-own.ensures.answer)

pub returns-clause-answer : goal.returns-clause-answer
returns-clause-answer c =
    let a = c.args in
    (all_good a.f (shown a.p.now) (columns a.members.now a.attributes.now) _ c.is_marked.ensures c.requires _ _ c.in_ok-a.ensures.answer c.in_ok-a.ensures.tables _ _ c.in_ok-b.ensures.answer c.in_ok-b.ensures.tables _ _ _ c.in_ok-own.ensures.answer c.mask.ensures c.in_ok-own.ensures.tables).0

pub returns-clause-tables : goal.returns-clause-tables
returns-clause-tables c =
    let a = c.args in
    (all_good a.f (shown a.p.now) (columns a.members.now a.attributes.now) _ c.is_marked.ensures c.requires _ _ c.in_ok-a.ensures.answer c.in_ok-a.ensures.tables _ _ c.in_ok-b.ensures.answer c.in_ok-b.ensures.tables _ _ _ c.in_ok-own.ensures.answer c.mask.ensures c.in_ok-own.ensures.tables).1
