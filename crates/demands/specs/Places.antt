-- A statement: where refusals stand, as document 01 says it in "Refusal numbers". Assumes nothing.
use Rattle.std.specs.Prelude.{ℕ, ◌≤◌, ◌<◌, ◌≡◌, List, ◌⊎◌, length}
use Rattle.reads.specs.Answer.{accept, refuse}
use Rattle.pool.specs.Pool.{Pool, Whole, read_pool, slots}
use Rattle.checks.specs.Checks.{pool}
use Rattle.handed.specs.Handed.{handed}
use Rattle.reach.specs.Reach.{◌∈◌}
use Rattle.demands.specs.Numbers.{of_entries, of_pool, of_handed, of_bytes, of_indices, of_file}

-- number and place of a refusal while the entries of the file s are read into `room` cells
pub data WhileRead (s : List ℕ) (room : ℕ) : ℕ → ℕ → Type 0 where
  too_long : WhileRead s room 1 0
  past_the_end : {at : ℕ} → at ≤ length s → WhileRead s room 2 at
  wrong_magic : WhileRead s room 3 0
  unknown : {at : ℕ} → at < length s → WhileRead s room 4 at
  no_cell : WhileRead s room 5 room

-- ... and of one of the pool's checks: a slot of the pool that was read
pub record OfAnEntry (s : List ℕ) (room nr place : ℕ) : Type 0 where
  pub whole : Whole
  pub was_read : accept whole ≡ read_pool s room
  pub from_6 : 6 ≤ nr
  pub to_11 : nr ≤ 11
  pub slot : place < slots whole.pool

-- ... and of one after the pool p: a byte of the file, or its end; of the bootstrap indices a slot
pub data AfterPool (p : Pool) : ℕ → ℕ → Type 0 where
  at_byte : {nr place : ℕ} → nr ∈ of_bytes → place ≤ length p.file → AfterPool p nr place
  at_slot : {nr place : ℕ} → nr ∈ of_indices → place < slots p → AfterPool p nr place

pub record Beyond (s : List ℕ) (room nr place : ℕ) : Type 0 where
  pub whole : Whole
  pub accepted : accept whole ≡ pool s room
  pub after : AfterPool whole.pool nr place

-- ---- number and place of a refusal, by call

-- where the entries alone are read, and where the pool is
abbrev pub OfEntries : List ℕ → ℕ → ℕ → ℕ → Type 0
OfEntries s room nr place = (nr ∈ of_entries) × WhileRead s room nr place

abbrev pub OfPool : List ℕ → ℕ → ℕ → ℕ → Type 0
OfPool s room nr place = (nr ∈ of_pool) × (WhileRead s room nr place ⊎ OfAnEntry s room nr place)

-- a lookup: on an accepted table at the slot asked for
abbrev pub OfLookup : List ℕ → List ℕ → ℕ → ℕ → ℕ → Type 0
OfLookup s table n nr place = (nr ∈ of_handed) × ((w : Whole) → accept w ≡ handed s table → place ≡ n)

-- a whole file: that of the pool call, or one after the pool
abbrev pub OfFile : List ℕ → ℕ → ℕ → ℕ → Type 0
OfFile s room nr place = (nr ∈ of_file) × ((refuse nr place ≡ pool s room) ⊎ Beyond s room nr place)
