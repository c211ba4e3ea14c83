-- `dependants::list_at` meets its contract. Assumes nothing.
use Rattle.std.proofs.Common.{arith, length, ◌≤◌}
use Rattle.reads.proofs.Clauses.{is_list_after}
use Rattle.reads.proofs.Passed.{passed}
use Rattle.dependants.proofs.Edge.{ended, no_slot, no_room, listed}
use Rattle.dependants.proofs.list_at.Goals as goal

pub returns-in_err-check_range : goal.returns-in_err-check_range
returns-in_err-check_range c = rw (passed _ _ c.from_residual.ensures) (is_list_after (no_slot _ _ _ _ _ _ c.in_err-check_range.ensures))

pub returns-then-list-count : goal.returns-then-list-count
returns-then-list-count c =
    rw c.at.ensures (is_list_after (no_room _ _ _ _ c.in_ok-check_range.ensures c.store-count.result c.store-count.ensures.number (omega (arith, c.store-count.auto.list))))

pub returns : goal.returns
returns c =
    let h : c.store-count.result ≤ length c.args.list.now = omega (arith, c.store-count.auto.list) in
    let kept = c.store-count.auto.list in
    is_list_after
    (listed _ _ _ _ c.in_ok-check_range.ensures c.store-count.result c.store-count.ensures.number h
    (ended _ c.store-count.new.list _ _ c.store-count.result c.clear_from.ensures kept (c.store-count.ensures.list h)))
