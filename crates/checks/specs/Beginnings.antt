-- A statement: a pool call looks at nothing after the pool. Document 01, "File and lent tables". Assumes nothing.
use Rattle.std.specs.Prelude.{ℕ, ◌≤◌, ◌≡◌, List, length}
use Rattle.reads.specs.Answer.{accept, refuse}
use Rattle.pool.specs.Pool.{Whole, read_pool}
use Rattle.pool.specs.Beginnings.{Begins, Settled}
use Rattle.checks.specs.Checks.{pool}

-- the same cells, versions and end, of the file t
abbrev pub of_file : List ℕ → Whole → Whole
of_file t w = record { pool = record { file = t; major = w.pool.major; cells = w.pool.cells }; minor = w.minor; next = w.next }

-- the pool w that s gives ends inside s, and every file that begins as s does up to the end of its pool, and is not too long, gives it too
pub record NothingAfter (s : List ℕ) (room : ℕ) (w : Whole) : Type 0 where
  pub inside : w.next ≤ length s
  pub gives : (t : List ℕ) → Begins w.next s t → length t ≤ 16777216 → accept (of_file t w) ≡ pool t room

-- a refusal of s: while its entries were read, by the bytes that were read; by one of the pool's checks, by the bytes of the pool w. Every file that begins so is refused so
pub data RefusedSo (s : List ℕ) (room nr place : ℕ) : Type 0 where
  while_read : Settled (λ t. pool t room) s nr place → RefusedSo s room nr place
  by_checks : (w : Whole) → accept w ≡ read_pool s room → ((t : List ℕ) → Begins w.next s t → length t ≤ 16777216 → refuse nr place ≡ pool t room) → RefusedSo s room nr place
