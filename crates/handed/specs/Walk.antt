-- The code's own notion: how a handed table is compared while the entries are read. Assumes nothing.
use Rattle.std.specs.Prelude.{ℕ, suc, ◌+◌, ◌-◌, List, [], ◌∷◌, cond, length, get_or, leb, ltb, eqb}
use Rattle.std.specs.Borrow.{Bor}
use Rattle.reads.specs.Answer.{Check, ◌>>=◌, require, each}
use Rattle.pool.specs.Pool.{Read, Whole, seen, slots}
use Rattle.slot.specs.declared.Pool.{Pool as Lent}
use Rattle.checks.specs.Checks.{checked}
use Rattle.handed.specs.declared.Walked.{Walked}

-- how many cells of a table agree with these, from the first on
unfoldable pub agreeing : List ℕ → List ℕ → ℕ
agreeing [] table = 0
agreeing (c ∷ cells) [] = 0
agreeing (c ∷ cells) (t ∷ table) = cond (eqb t c) (suc (agreeing cells table)) 0

-- ... where `same` of the first n do, and cell n should be x
unfoldable pub onward : List ℕ → ℕ → ℕ → ℕ → ℕ
onward table same n x = cond (ltb same n) same (cond (leb (length table) n) same (cond (eqb (get_or table n 0) x) (n + 1) same))

abbrev pub walked_of : List ℕ → Read → Walked
walked_of table r = record { slots = length r.cells; next = r.next; same = agreeing r.cells table }

-- the cells from n on are zero
abbrev pub zero_at : List ℕ → ℕ → Check
zero_at table i = require (eqb (get_or table i 0) 0) 12 i

unfoldable pub rest : List ℕ → ℕ → Check
rest table n = each (length table - n) n (zero_at table)

-- 12 and the pool's checks, where so many slots were read and `same` cells of the table agree
unfoldable pub judged_as : List ℕ → ℕ → List ℕ → ℕ → ℕ → Check
judged_as s major table slots same = do
  _ ← require (leb slots same) 12 same
  _ ← rest table slots
  checked (seen s major table slots)

-- the pool of a handed table, as the code lends it on
abbrev pub lent : Bor (List ℕ) → Bor (List ℕ) → Whole → Lent
lent file table w = record { file = file; major = w.pool.major; table = table; slots = slots w.pool }
