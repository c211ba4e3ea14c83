-- The table that `luo_pool` leaves, handed in again, is the pool that it read: every lookup on it looks at that pool. Assumes nothing.
use mathlib.Core.Path.{◌≡◌, ap, sym, ◌∙◌}
use mathlib.Core.List.{List}
use Prim.Native.Nat.{ℕ, zero, suc, ◌/◌, ◌≤◌, ◌<◌}
use native.Mathlib.Omega.{arith}
use lib.ListN.{length}
use Rattle.reads.specs.Answer.{Answer, accept}
use Rattle.reads.specs.Tables.{padded, after}
use Rattle.reads.proofs.Answers.{first}
use Rattle.reads.proofs.Leaves.{Bytes}
use Rattle.reads.proofs.Tables.{padded_length, padded_at}
use Rattle.pool.specs.Pool.{Pool, Whole, header_of, read_pool}
use Rattle.pool.proofs.Entries.{header_in}
use Rattle.checks.specs.Checks.{pool}
use Rattle.checks.proofs.Room.{was_read, slots_in_room, cells_inside}
use Rattle.handed.specs.Handed.{handed, lookup}
use Rattle.handed.proofs.Own.{left, on_own}
use Rattle.cells.specs.Cells.{cells_in, as_bytes}
use Rattle.cells.proofs.Cells.{Words, there_and_back}

below : (c len : ℕ) → (0 < c → c < len) → len ≤ 16777216 → c < 4294967296
below zero len f h = omega arith
below (suc c) len f h = omega (arith, f (omega arith))

module _ (s : List ℕ) (b : Bytes s) (len : ℕ) (w : Whole) (e : accept w ≡ pool s (len / 4)) where
  short : length s ≤ 16777216
  unfolding read_pool
  short =
      let h = first (header_of s) _ w (was_read s (len / 4) w e) in
      header_in s h.0 h.1

  words : Words (padded 0 (len / 4) w.pool.cells)
  words i = rw (padded_at (len / 4) w.pool.cells i) (below _ (length s) (cells_inside s (len / 4) w e i) short)

  back : cells_in (as_bytes len (padded 0 (len / 4) w.pool.cells)) ≡ padded 0 (len / 4) w.pool.cells
  back = there_and_back len (padded 0 (len / 4) w.pool.cells) (padded_length 0 (len / 4) w.pool.cells (slots_in_room s (len / 4) w e)) words

  -- the bytes as `luo_pool` leaves them
  abbrev pub leaves : List ℕ
  leaves = as_bytes len (after 0 (λ x. x.pool.cells) (len / 4) (pool s (len / 4)))

  pub table_is_taken : accept w ≡ handed s (cells_in leaves)
  table_is_taken = left s b (len / 4) w e ∙ ap (handed s) (rw (← e) (sym back))

  pub lookup_is_on_it : {A : Type 0} (f : Pool → Answer A) → lookup s (cells_in leaves) f ≡ f w.pool
  lookup_is_on_it f = on_own s (cells_in leaves) w table_is_taken f
