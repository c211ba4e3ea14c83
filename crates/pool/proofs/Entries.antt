-- What an entry, a slot and a header that were read say of the file. Assumes nothing.
use mathlib.Core.Path.{◌≡◌, ap}
use mathlib.Core.Bool.{Bool, true, false}
use mathlib.Core.List.{List}
use Prim.Native.Nat.{ℕ, zero, suc, ◌+◌, ◌≤◌, ◌<◌}
use native.Mathlib.Omega.{arith}
use lib.ListN.{length}
use lib.Dec.{leb, ltb}
use borrow.Author.Tests.{leb-true, ltb-true}
use Rattle.reads.specs.Answer.{accept}
use Rattle.reads.specs.Bytes.{u1}
pub use Rattle.reads.proofs.Answers.{same}
use Rattle.reads.proofs.Answers.{first, held}
use Rattle.reads.proofs.Leaves.{u1_in}
use Rattle.pool.specs.declared.Entry.{Entry}
use Rattle.pool.specs.declared.Slot.{Slot}
use Rattle.pool.specs.declared.Header.{Header}
use Rattle.pool.specs.Pool.{entry_at, slot_at, header_of}

-- its tag byte stands in the file
pub entry_in : (s : List ℕ) (major at : ℕ) (e : Entry) → accept e ≡ entry_at s major at → at + 1 ≤ length s
unfolding entry_at
entry_in s major at e h = let t = first (u1 s at) _ e h in u1_in s at t.0 t.1

-- it has its cell
pub slot_in : (s : List ℕ) (major room n : ℕ) (owed : Bool) (at : ℕ) (e : Slot) → accept e ≡ slot_at s major room n owed at → n < room
unfolding slot_at
slot_in s major room n owed at e h = ltb-true n room (held (ltb n room) 5 n _ e h).0

-- a cell is 0, or an offset inside the file
abbrev pub InFile : List ℕ → ℕ → Type 0
InFile s c = 0 < c → c < length s

below : (s : List ℕ) (c : ℕ) → InFile s c → c ≤ length s
below s zero h = omega arith
below s (suc c) h = omega (arith, h (omega arith))

pub cell_in : (s : List ℕ) (major room n : ℕ) (owed : Bool) (at : ℕ) (e : Slot) → accept e ≡ slot_at s major room n owed at → InFile s e.cell
unfolding slot_at
cell_in s major room n true at e h =
    let g = ap (λ (x : Slot). x.cell) (same (held (ltb n room) 5 n _ e h).1) in
    λ p. omega arith
cell_in s major room n false at e h =
    let a = first (entry_at s major at) _ e (held (ltb n room) 5 n _ e h).1 in
    let g = ap (λ (x : Slot). x.cell) (same a.2) in
    λ p. omega (arith, entry_in s major at a.0 a.1)

pub cell_below : (s : List ℕ) (major room n : ℕ) (owed : Bool) (at : ℕ) (e : Slot) → accept e ≡ slot_at s major room n owed at → e.cell ≤ length s
cell_below s major room n owed at e h = below s e.cell (cell_in s major room n owed at e h)

-- the file is not too long
pub header_in : (s : List ℕ) (h : Header) → accept h ≡ header_of s → length s ≤ 16777216
unfolding header_of
header_in s h e = leb-true (length s) 16777216 (held (leb (length s) 16777216) 1 0 _ h e).0
