-- A statement: more room for interfaces, members or attributes changes nothing but a 13. Document 01, refusal 13. Assumes nothing.
use Rattle.std.specs.Prelude.{ℕ, ◌≤◌, ◌≡◌}
use Rattle.reads.specs.Answer.{Answer, refuse}
use Rattle.class.specs.Class.{Rooms}

-- as many cells, and at least as much room for all else
pub record Roomier (rooms more : Rooms) : Type 0 where
  pub cells : rooms.cells ≡ more.cells
  pub interfaces : rooms.interfaces ≤ more.interfaces
  pub members : rooms.members ≤ more.members
  pub attributes : rooms.attributes ≤ more.attributes

-- the answer with less room is that with more, or a 13
pub data OrFull {A : Type 0} (less more : Answer A) : Type 0 where
  alike : less ≡ more → OrFull less more
  full : (place : ℕ) → less ≡ refuse 13 place → OrFull less more
