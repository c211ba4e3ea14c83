-- Slot 0 and Unused slots have no dependants. Assumes nothing.
use Prim.Native.Nat.{ℕ, ◌+◌, ◌-◌, ◌<◌}
use native.Mathlib.Omega.{arith}
use mathlib.Core.Path.{◌≡◌, refl}
use mathlib.Core.List.{List, []}
use mathlib.Core.Bool.{Bool, true, false, cond}
use lib.ListN.{get_or}
use lib.Dec.{eqb}
use borrow.Author.Tests.{eqb-false}
use Rattle.reads.specs.Answer.{fine, accept}
use Rattle.reads.specs.Bytes.{num2}
use Rattle.pool.specs.Pool.{Pool, Whole, read_pool, slots}
use Rattle.pool.proofs.Slots.{made, wide_at, cell_zero, slots_made}
use Rattle.slot.specs.Slots.{cell, tag_of}
use Rattle.checks.specs.Checks.{checked}
use Rattle.reach.specs.Reach.{dependants_in}
use Rattle.reach.proofs.Listed.{none_of_no_entry}

-- a slot without an entry: Zero, and the Unused after a wide entry
pub none_of_cell_0 : (p : Pool) → fine ≡ checked p → (b : ℕ) → cell p b ≡ 0 → dependants_in p b ≡ []
unfolding tag_of
none_of_cell_0 p ok b z = none_of_no_entry p ok b (rw z refl)

made_some : (count : ℕ) (wide : Bool) → 0 < made count wide
made_some count wide = go (eqb count 0) refl wide
  where
    go : (b : Bool) → eqb count 0 ≡ b → (wide : Bool) → 0 < cond b 1 (cond wide (count + 1) count)
    go true q wide = omega arith
    go false q true = omega arith
    go false q false = let h = eqb-false count 0 q in omega arith

-- slot 0 is a slot, and its cell is 0
pub zero_is_slot : (s : List ℕ) (room : ℕ) (w : Whole) → accept w ≡ read_pool s room → (0 < slots w.pool) × (cell w.pool 0 ≡ 0)
zero_is_slot s room w e = (rw (slots_made s room w e) (made_some (num2 s 8) (wide_at s (get_or w.pool.cells (num2 s 8 - 1) 0))), cell_zero s room w e)

pub none_of_slot_0 : (s : List ℕ) (room : ℕ) (w : Whole) → accept w ≡ read_pool s room → fine ≡ checked w.pool → dependants_in w.pool 0 ≡ []
none_of_slot_0 s room w e ok = none_of_cell_0 w.pool ok 0 (zero_is_slot s room w e).1
