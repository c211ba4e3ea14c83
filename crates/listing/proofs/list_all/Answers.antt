-- `listing::list_all` meets its contract. Assumes nothing.
use Rattle.std.proofs.Common.{arith}
use Rattle.listing.proofs.Edge.{no_room, all_listed}
use Rattle.reads.proofs.Clauses.{answer_lists}
use Rattle.listing.proofs.list_all.Goals as goal

pub returns-then-room-end : goal.returns-then-room-end
returns-then-room-end c = let q = c.requires in rw c.at.ensures (answer_lists (no_room _ _ _ _ _ _ _ _ _ c.count-end.ensures (omega arith) q.1 q.2 q.3))

pub returns : goal.returns
returns c = let f = c.fill.ensures in answer_lists (all_listed _ _ _ _ _ _ _ _ _ c.count-end.ensures (omega arith) f.0 f.1 f.2)
