-- Every slot of a pool by its tag and two numbers, in columns; not document 01's, a form of its lookups. Assumes nothing.
use Rattle.std.specs.Prelude.{ℕ, zero, suc, ◌+◌, min, List, [], ◌∷◌, ◌++◌, cond, length, leb, eqb}
use Rattle.reads.specs.Answer.{Answer, accept, ◌>>=◌, require}
use Rattle.pool.specs.Kinds as kind
use Rattle.pool.specs.Pool.{Pool, slots}
use Rattle.slot.specs.Slots.{cell, tag_of}
use Rattle.handed.specs.Handed.{lookup}
use Rattle.values.specs.Lookups.{cut}
use Rattle.listing.specs.Forms.{form_of, num_of}

-- ---- a slot

-- of a Utf8 where its bytes stand in the file; else the number that its form says
unfoldable pub first_of : Pool → ℕ → ℕ
first_of p n = cond (eqb (tag_of p n) kind.utf8) (cut p.file (cell p n + 3)) (num_of p.file (cell p n + (form_of (tag_of p n)).0) (form_of (tag_of p n)).1)

unfoldable pub second_of : Pool → ℕ → ℕ
second_of p n = num_of p.file (cell p n + (form_of (tag_of p n)).2) (form_of (tag_of p n)).3

-- ---- all slots

-- f 0, f 1, .. , k numbers in all
unfoldable pub up_to : ℕ → (ℕ → ℕ) → List ℕ
up_to zero f = []
up_to (suc k) f = up_to k f ++ f k ∷ []

-- a number of each slot
abbrev pub column : (Pool → ℕ → ℕ) → Pool → List ℕ
column f p = up_to (slots p) (f p)

-- 13 with the number of slots where a list is shorter
unfoldable pub listed_at : ℕ → Pool → Answer Pool
listed_at room p = do
  _ ← require (leb (slots p) room) 13 (slots p)
  accept p

abbrev pub listed : List ℕ → List ℕ → ℕ → Answer Pool
listed s table room = lookup s table (listed_at room)

-- the slots that three lists have room for
abbrev pub room_of : List ℕ → List ℕ → List ℕ → ℕ
room_of a b c = min (min (length a) (length b)) (length c)
