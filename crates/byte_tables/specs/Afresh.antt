-- The code's own notion: a handed table held against the entries, which are read afresh with room for so many cells. Assumes nothing.
use Rattle.std.specs.Prelude.{ℕ, List}
use Rattle.reads.specs.Answer.{Answer, Check, accept, ◌>>=◌}
use Rattle.pool.specs.Pool.{Whole, read_pool}
use Rattle.handed.specs.Handed.{agree}

unfoldable pub afresh : List ℕ → List ℕ → ℕ → Check
afresh s table room = do
  w ← read_pool s room
  agree w.pool.cells table

-- the pool that is read so, if it agrees: what the lent cells hold
unfoldable pub taken : List ℕ → List ℕ → ℕ → Answer Whole
taken s table room = do
  w ← read_pool s room
  _ ← agree w.pool.cells table
  accept w
