-- The dependants of a slot, asked of a handed table. Document 01, demand 3 and "Refusal numbers". Assumes nothing.
use Rattle.std.specs.Prelude.{ℕ, List, length, leb}
use Rattle.reads.specs.Answer.{Answer, accept, ◌>>=◌, require}
use Rattle.pool.specs.Pool.{Pool}
use Rattle.slot.specs.Slots.{in_range}
use Rattle.handed.specs.Handed.{lookup}
use Rattle.reach.specs.Reach.{dependants_in}

-- every slot that reaches slot n, rising; 13 with the number needed where fewer cells are lent
unfoldable pub dependants_at : ℕ → ℕ → Pool → Answer (List ℕ)
dependants_at n room p = do
  _ ← in_range p n n
  _ ← require (leb (length (dependants_in p n)) room) 13 (length (dependants_in p n))
  accept (dependants_in p n)

abbrev pub dependants : List ℕ → List ℕ → ℕ → ℕ → Answer (List ℕ)
dependants s table n room = lookup s table (dependants_at n room)
