-- A statement: refusals 6 to 11 of a pool stand at the first slot, in document 01's order, that breaks a rule: self-reference then range for every reference by rising slot; then kinds and texts by rising slot. Assumes nothing.
use Rattle.std.specs.Prelude.{ℕ, ◌≤◌, ◌<◌, ◌≡◌, List}
use Rattle.reads.specs.Answer.{fine, accept}
use Rattle.pool.specs.Rows.{one, other, row_of}
use Rattle.pool.specs.Pool.{Pool, Whole, read_pool, slots}
use Rattle.slot.specs.Slots.{tag_of, field}
use Rattle.checks.specs.Checks.{reference, references, obey}
use Rattle.exact.specs.Stops.{FirstAt}

-- a reference of some slot is bad, and this is the first slot with such a one; or all are good, and this is the first slot that breaks the rule of its tag
pub data Broken (p : Pool) (nr place : ℕ) : Type 0 where
  a_reference : FirstAt (references p) (slots p) nr place → Broken p nr place
  a_rule : ((n : ℕ) → n < slots p → fine ≡ references p n) → FirstAt (obey p) (slots p) nr place → Broken p nr place

-- the entries of the file s were read, and their pool is broken so
pub record BrokenPool (s : List ℕ) (room nr place : ℕ) : Type 0 where
  pub whole : Whole
  pub was_read : accept whole ≡ read_pool s room
  pub broken : Broken whole.pool nr place

-- the reference k bytes after slot n's tag is bad: it names n itself, or, where it does not, no slot
pub data BadReference (p : Pool) (n k nr : ℕ) : Type 0 where
  itself : nr ≡ 6 → (k ≡ 0 → ⊥) → field p n k ≡ n → BadReference p n k nr
  no_slot : nr ≡ 7 → (k ≡ 0 → ⊥) → (field p n k ≡ n → ⊥) → slots p ≤ field p n k → BadReference p n k nr

-- the first reference of slot n is bad, or it is good and the second is
pub data BadReferences (p : Pool) (n nr : ℕ) : Type 0 where
  the_first : BadReference p n (one (row_of (tag_of p n))) nr → BadReferences p n nr
  the_second : fine ≡ reference p n (one (row_of (tag_of p n))) → BadReference p n (other (row_of (tag_of p n))) nr → BadReferences p n nr
