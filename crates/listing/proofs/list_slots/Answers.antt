-- `listing::list_slots` meets its contract. Assumes nothing.
use mathlib.Core.Path.{ap, sym, ◌∙◌}
use Prim.Native.Nat.{ℕ}
use lib.ListN.{replicate}
use Rattle.reads.proofs.Passed.{passed}
use Rattle.listing.proofs.Edge.{refuses, answers, same_room, short}
use Rattle.reads.proofs.Clauses.{answer_lists}
use Rattle.listing.proofs.list_slots.Goals as goal

pub list_all-requires : goal.list_all-requires
list_all-requires c = (
  short _ _ _ c.in_ok-p.ensures,
  c.clear.ensures ∙ ap (λ (k : ℕ). replicate k 0) (sym c.clear.auto.table),
  c.clear-2.ensures ∙ ap (λ (k : ℕ). replicate k 0) (sym c.clear-2.auto.table),
  c.clear-3.ensures ∙ ap (λ (k : ℕ). replicate k 0) (sym c.clear-3.auto.table),
)

pub returns-in_err-p : goal.returns-in_err-p
returns-in_err-p c = rw (passed _ _ c.from_residual.ensures) (answer_lists (refuses _ _ _ _ _ _ _ _ _ _ _ c.in_err-p.ensures c.clear.ensures c.clear-2.ensures c.clear-3.ensures))

pub returns : goal.returns
returns c =
    answer_lists (answers _ _ _ _ _ _ _ _ _ _ _ c.in_ok-p.ensures
    (same_room _ _ _ _ _ _ _ _ _ _ _ c.clear.auto.table c.clear-2.auto.table c.clear-3.auto.table (c.list_all.ensures.answer, (c.list_all.ensures.tags, (c.list_all.ensures.firsts, c.list_all.ensures.seconds)))))
