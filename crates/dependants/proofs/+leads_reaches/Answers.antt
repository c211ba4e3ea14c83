-- `dependants::leads` and `dependants::reaches` meet their contracts. Assumes nothing.
use mathlib.Core.Path.{sym, ◌∙◌}
use borrow.Author.Tests.{eq-eqb}
use Rattle.dependants.proofs.Steps.{no_reference, itself, goes_on, no_depth, by_one, by_other}
use Rattle.dependants.proofs.+leads_reaches.Goals as goal

pub leads-returns-then-k-eq0 : goal.leads-returns-then-k-eq0
leads-returns-then-k-eq0 t c = no_reference _ _ _ _ _ c.if-k-eq0.true

pub leads-returns-then-m-b : goal.leads-returns-then-m-b
leads-returns-then-m-b t c = eq-eqb _ _ c.if-m-b.true ∙ itself _ _ _ _ _ c.if-k-eq0.false (sym c.field-m.ensures ∙ c.if-m-b.true)

pub leads-returns-else-m-b : goal.leads-returns-else-m-b
leads-returns-else-m-b t c = simp c.field-m.ensures at c.reaches.ensures ∙ goes_on _ _ _ _ _ c.if-k-eq0.false (λ e. c.if-m-b.false (c.field-m.ensures ∙ e))

pub reaches-returns-then-depth-eq0 : goal.reaches-returns-then-depth-eq0
reaches-returns-then-depth-eq0 t c = no_depth _ _ _ _ c.if-depth-eq0.true

pub reaches-returns-then-leads : goal.reaches-returns-then-leads
reaches-returns-then-leads t c = c.if-leads.true ∙ by_one _ _ _ _ c.if-depth-eq0.false (simp (c.row_of-row.ensures, c.tag.ensures, c.if-leads.true) at c.leads.ensures)

pub reaches-returns-else-leads : goal.reaches-returns-else-leads
reaches-returns-else-leads t c =
    c.leads-else-leads.ensures ∙ simp (c.row_of-row.ensures, c.tag.ensures)
    (by_other _ _ _ _ c.if-depth-eq0.false (simp (c.row_of-row.ensures, c.tag.ensures, c.if-leads.false) at c.leads.ensures))
