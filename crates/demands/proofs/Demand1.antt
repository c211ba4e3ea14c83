-- Demand 1, over all calls: the numbers of refusals. What is said of each call, from its contract, has a line in TiedBytes, TiedPool, TiedLookups, TiedViews, TiedClass, TiedC or TiedNative: no second answer (nor table) fits, its refusals have only
-- these numbers and places, and after a refusal every lent table that it could write holds only zeros. Assumes nothing.
-- That each ends, whatever bytes come, is what the check of its crate says.
use mathlib.Core.Path.{◌≡◌, refl}
use mathlib.Core.List.{List, Memᴰ}
use Prim.Native.Nat.{ℕ, ◌≤◌}
use Rattle.reads.specs.Answer.{Answer, refuse}
use Rattle.text.specs.Text.{all_of}
use Rattle.pool.specs.Pool.{Pool}
use Rattle.checks.specs.Checks.{pool}
use Rattle.handed.specs.Handed.{lookup}
use Rattle.reach.specs.Reach.{◌∈◌}
use Rattle.dependants.specs.Dependants.{dependants}
use Rattle.class.specs.Class.{Rooms, class_file}
use Rattle.demands.specs.Numbers.{of_pool, of_handed, of_dependants, of_file, lists}
use Rattle.demands.proofs.Only.{within_all}
use Rattle.demands.proofs.Given.{pool_gives, lookup_gives, dependants_gives, file_gives}

-- every number stands in document 01's table
pub one_to_eighteen : (numbers : List ℕ) → Memᴰ numbers lists → (nr : ℕ) → nr ∈ numbers → (1 ≤ nr) × (nr ≤ 18)
unfolding all_of
one_to_eighteen = within_all 1 18 lists refl

-- ---- the lists are exact: each of their numbers is given, for some file

pub pool_given : (nr : ℕ) → nr ∈ of_pool → (s : List ℕ) × (room : ℕ) × (place : ℕ) × (refuse nr place ≡ pool s room)
pool_given = pool_gives

pub lookup_given : {A : Type 0} (f : Pool → Answer A) (nr : ℕ) → nr ∈ of_handed → (s : List ℕ) × (table : List ℕ) × (place : ℕ) × (refuse nr place ≡ lookup s table f)
lookup_given = lookup_gives

pub dependants_given : (nr : ℕ) → nr ∈ of_dependants → (s : List ℕ) × (table : List ℕ) × (n : ℕ) × (room : ℕ) × (place : ℕ) × (refuse nr place ≡ dependants s table n room)
dependants_given = dependants_gives

pub class_given : (nr : ℕ) → nr ∈ of_file → (s : List ℕ) × (rooms : Rooms) × (place : ℕ) × (refuse nr place ≡ class_file s rooms)
class_given = file_gives
