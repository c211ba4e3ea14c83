-- A handed table, and what is asked of its pool. Document 01, "Refusal numbers" and "Members and lookups". Assumes nothing.
use Rattle.std.specs.Prelude.{ℕ, List, length, get_or, leb, eqb}
use Rattle.reads.specs.Answer.{Answer, Check, accept, ◌>>=◌, require, each}
use Rattle.pool.specs.Pool.{Pool, Whole, read_pool}
use Rattle.slot.specs.Slots.{in_range, of_kind}
use Rattle.checks.specs.Checks.{checked}

-- ---- a handed table

-- 12 at the first cell that is not what the file gives, which past its slots is 0; at its length where it is short
unfoldable pub agree : List ℕ → List ℕ → Check
agree cells table = do
  _ ← each (length table) 0 (λ i. require (eqb (get_or table i 0) (get_or cells i 0)) 12 i)
  require (leb (length cells) (length table)) 12 (length table)

unfoldable pub judged : Pool → List ℕ → Check
judged p table = do
  _ ← agree p.cells table
  checked p

-- more cells than any pool has slots: "without regard to room"
abbrev pub no_limit : ℕ
no_limit = 65536

unfoldable pub handed : List ℕ → List ℕ → Answer Whole
handed s table = do
  w ← read_pool s no_limit
  _ ← judged w.pool table
  accept w

-- ---- lookups: what is asked of the pool of a handed table

unfoldable pub lookup : {A : Type 0} → List ℕ → List ℕ → (Pool → Answer A) → Answer A
lookup s table f = do
  w ← handed s table
  f w.pool

-- slot n is a slot, and of an allowed kind
unfoldable pub asked : Pool → ℕ → ℕ → Check
asked p allowed n = do
  _ ← in_range p n n
  of_kind p n allowed n
