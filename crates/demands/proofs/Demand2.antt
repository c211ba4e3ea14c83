-- Demand 2, over the calls: they agree with each other and with document 01's files. What each definition means is in docs/PROMISES.md. Assumes nothing.
use Prim.Native.Nat.{ℕ, ◌/◌, ◌≤◌}
use mathlib.Core.Path.{◌≡◌, refl, ap, ◌∙◌}
use mathlib.Core.List.{List}
use mathlib.Core.Logic.{◌↔◌, ◌⊎◌}
use lib.ListN.{length}
use Rattle.reads.specs.Answer.{Answer, fine, accept, refuse}
use Rattle.reads.specs.Tables.{padded, after}
use Rattle.reads.proofs.Answers.{first}
use Rattle.pool.specs.Pool.{Pool, Whole, read_pool}
use Rattle.pool.specs.Readings.{head_of}
use Rattle.pool.proofs.Entries.{same}
use Rattle.pool.proofs.Room.{Bytes}
use Rattle.checks.specs.Checks.{checked, pool}
use Rattle.handed.specs.Handed.{agree, judged, no_limit, handed, lookup}
use Rattle.handed.proofs.Own.{left, on_own}
use Rattle.dependants.specs.Dependants.{dependants}
use Rattle.class.specs.Class.{Class, Rooms, marked, front_at, tables_at, class_file}
use Rattle.class.specs.Readings.{class_of}
use Rattle.class.proofs.Fronts.{front_pool}
use Rattle.sound.specs.Sound.{SoundTables}
use Rattle.sound.proofs.Accepted.{class_sound}
use Rattle.cells.specs.Cells.{cells_in}
use Rattle.cases.specs.Cases.{Shown, cases, a_to_p}
use Rattle.demands.specs.Calls.{bytes_after}
use Rattle.demands.specs.Handed.{Differs}
use Rattle.demands.proofs.Roomy.{pool_less}
use Rattle.demands.proofs.Agreement.{taken, taken_back}
use Rattle.demands.proofs.Twelve.{twelve}
use Rattle.demands.proofs.OnBytes.{pool_cells, list_cells}

-- ---- document 01's files

pub files_a_to_p : Shown cases
files_a_to_p = a_to_p

-- ---- room for the pool's table: more changes nothing but refusal 5, which stands at the first slot without a cell

pub pool_room : (s : List ℕ) (room more : ℕ) → room ≤ more → (pool s room ≡ pool s more) ⊎ (pool s room ≡ refuse 5 room)
pool_room = pool_less

-- ---- the pool call and the class call agree on the pool

module _ (s : List ℕ) (rooms : Rooms) where
  -- an accepted class has the pool that the pool call accepts ..
  pub class_pool : (c : Class) → accept c ≡ class_file s rooms → accept c.front.pool ≡ pool s rooms.cells
  unfolding class_file
  class_pool c e =
      let f = first (front_at s rooms.cells rooms.interfaces) _ c e in
      let t = first (tables_at (marked f.0.head.flags) f.0.pool.pool rooms.members rooms.attributes f.0.next) _ c f.2 in
      ap (λ (x : Class). accept x.front.pool) (same t.2) ∙ front_pool s rooms.cells rooms.interfaces f.0 f.1

  -- .. and answers the same P, minor and major
  pub class_numbers : (c : Class) → let h = head_of c.front.pool in ((class_of c).slots ≡ h.slots) × ((class_of c).minor ≡ h.minor) × ((class_of c).major ≡ h.major)
  class_numbers c = (refl, refl, refl)

  -- .. and leaves the same cells
  pub class_cells : (c : Class) → accept c ≡ class_file s rooms → after 0 (λ x. x.front.pool.pool.cells) rooms.cells (class_file s rooms) ≡ after 0 (λ w. w.pool.cells) rooms.cells (pool s rooms.cells)
  class_cells c e = rw (← e, ← class_pool c e) refl

  -- what the pool call refuses the class call refuses, with the same number and place
  pub class_refused : (nr place : ℕ) → refuse nr place ≡ pool s rooms.cells → refuse nr place ≡ class_file s rooms
  unfolding class_file front_at
  class_refused nr place e = rw (← e) refl

  -- the tables of an accepted class are sound, from the byte where the fields' number stands
  pub class_tables : (c : Class) → accept c ≡ class_file s rooms → SoundTables c.front.pool.pool c.front.next c.tables
  class_tables = class_sound s rooms

-- ---- a handed table, and every lookup on it

module _ (s table : List ℕ) where
  -- accepted exactly where the pool call, with as many cells, accepts the file and leaves that table
  pub handed_exactly : Bytes s → (w : Whole) → (accept w ≡ handed s table) ↔ ((accept w ≡ pool s (length table)) × (table ≡ padded 0 (length table) w.pool.cells))
  handed_exactly b w = (taken s table w, taken_back s table w b)

  module _ {A : Type 0} (f : Pool → Answer A) where
    -- what a lookup answers it answers of the pool that the pool call accepts
    pub lookup_accepted : (a : A) → accept a ≡ lookup s table f → (w : Whole) × (accept w ≡ pool s (length table)) × (table ≡ padded 0 (length table) w.pool.cells) × (accept a ≡ f w.pool)
    unfolding lookup
    lookup_accepted a e =
        let h = first (handed s table) _ a e in
        let t = taken s table h.0 h.1 in
        (h.0, t.0, t.1, h.2)

    -- the order of refusals: the entries, 12, the pool's checks, the lookup's own
    pub entries_first : (nr place : ℕ) → refuse nr place ≡ read_pool s no_limit → refuse nr place ≡ lookup s table f
    unfolding lookup handed
    entries_first nr place e = rw (← e) refl

    pub then_the_table : (w : Whole) → accept w ≡ read_pool s no_limit → (nr place : ℕ) → refuse nr place ≡ agree w.pool.cells table → refuse nr place ≡ lookup s table f
    unfolding lookup handed judged
    then_the_table w r nr place e = rw (← r, ← e) refl

    pub then_the_checks : (w : Whole) → accept w ≡ read_pool s no_limit → fine ≡ agree w.pool.cells table → (nr place : ℕ) → refuse nr place ≡ checked w.pool → refuse nr place ≡ lookup s table f
    unfolding lookup handed judged
    then_the_checks w r a nr place e = rw (← r, ← a, ← e) refl

    pub then_its_own : (w : Whole) → accept w ≡ handed s table → lookup s table f ≡ f w.pool
    then_its_own w o = on_own s table w o f

  -- 12 stands at the first cell that differs, or at the table's length
  pub twelve_exactly : (w : Whole) → accept w ≡ read_pool s no_limit → (place : ℕ) → (refuse 12 place ≡ handed s table) ↔ Differs w.pool.cells table place
  twelve_exactly w r place = twelve s table w r place

-- on the table that the pool call leaves a lookup looks at the pool that it read
pub lookup_on_own : (s : List ℕ) → Bytes s → (room : ℕ) (w : Whole) → accept w ≡ pool s room → {A : Type 0} (f : Pool → Answer A) → lookup s (after 0 (λ x. x.pool.cells) room (pool s room)) f ≡ f w.pool
lookup_on_own s b room w e f = on_own s _ w (left s b room w e) f

-- .. and so it does on the table that the class call leaves
pub lookup_on_class : (s : List ℕ) → Bytes s → (rooms : Rooms) (c : Class) → accept c ≡ class_file s rooms → {A : Type 0} (f : Pool → Answer A) →
    lookup s (after 0 (λ x. x.front.pool.pool.cells) rooms.cells (class_file s rooms)) f ≡ f c.front.pool.pool
lookup_on_class s b rooms c e f = rw (class_cells s rooms c e) (lookup_on_own s b rooms.cells c.front.pool (class_pool s rooms c e) f)

-- ---- on bytes: the tables that the calls for C leave stand for those that the calls on cells leave

module _ (s : List ℕ) (b : Bytes s) (len : ℕ) where
  pub luo_pool_cells : cells_in (bytes_after (λ w. w.pool.cells) len (pool s (len / 4))) ≡ after 0 (λ w. w.pool.cells) (len / 4) (pool s (len / 4))
  luo_pool_cells = pool_cells s b len

  pub luo_dependants_cells : (table : List ℕ) (n : ℕ) → cells_in (bytes_after (λ xs. xs) len (dependants s table n (len / 4))) ≡ after 0 (λ xs. xs) (len / 4) (dependants s table n (len / 4))
  luo_dependants_cells table n = list_cells s b table n len
