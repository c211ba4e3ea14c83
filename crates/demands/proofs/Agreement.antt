-- When a handed table is accepted, and where one that is not differs. Assumes nothing.
use Prim.Native.Nat.{ℕ, ◌≤◌, ◌<◌}
use native.Mathlib.Omega.{arith}
use mathlib.Core.Path.{◌≡◌, refl, sym, ap, ◌∙◌}
use mathlib.Core.List.{List}
use lib.ListN.{length, get_or}
use lib.Seq.{ext_get_or}
use lib.Dec.{leb, eqb}
use borrow.Author.Tests.{leb-true, eqb-true}
use Rattle.reads.specs.Answer.{fine, accept, require, each}
use Rattle.reads.specs.Tables.{padded}
use Rattle.reads.proofs.Answers.{first, required, each_at}
use Rattle.reads.proofs.Tables.{padded_length}
use Rattle.pool.specs.Pool.{Whole, read_pool, slots}
use Rattle.pool.proofs.Room.{Bytes}
use Rattle.checks.specs.Checks.{pool}
use Rattle.checks.proofs.Room.{slots_in_room}
use Rattle.handed.specs.Handed.{agree, judged, no_limit, handed}
use Rattle.handed.proofs.Handed.{same_at}
use Rattle.handed.proofs.Own.{own, own_cells, read_again}
use Rattle.dependants.proofs.Edge.{handed_is}

-- ---- a table that agrees

module _ (cells table : List ℕ) (e : fine ≡ agree cells table) where
  passed : (fine ≡ each (length table) 0 (same_at cells table)) × (fine ≡ require (leb (length cells) (length table)) 12 (length table))
  unfolding agree
  passed = let a = first (each (length table) 0 (same_at cells table)) _ tt e in (a.1, a.2)

  pub same_cell : (i : ℕ) → i < length table → get_or table i 0 ≡ get_or cells i 0
  same_cell i h = eqb-true _ _ (required (eqb (get_or table i 0) (get_or cells i 0)) 12 i (each_at (length table) 0 (same_at cells table) passed.0 i (omega arith) (omega arith)))

  pub long_enough : length cells ≤ length table
  long_enough = leb-true _ _ (required (leb (length cells) (length table)) 12 (length table) passed.1)

-- it is the cells and zeros
pub then_zeros : (cells table : List ℕ) → fine ≡ agree cells table → table ≡ padded 0 (length table) cells
then_zeros cells table e =
    let l = long_enough cells table e in
    let z = padded_length 0 (length table) cells l in
    ext_get_or 0 table (padded 0 (length table) cells) (sym z) (λ i h. same_cell cells table e i h ∙ sym (same_cell cells (padded 0 (length table) cells) (own_cells cells (length table) l) i (omega arith)))

-- ---- a handed table is accepted exactly where the pool is, and the table is its cells and zeros

module _ (s table : List ℕ) (w : Whole) where
  agrees : accept w ≡ handed s table → fine ≡ agree w.pool.cells table
  unfolding handed judged
  agrees e =
      let r = first (read_pool s no_limit) _ w e in
      let j = first (judged r.0.pool table) _ w r.2 in
      let a = first (agree r.0.pool.cells table) _ tt j.1 in
      let q : r.0 ≡ w = cc in
      rw (← q) a.1

  with_room : (room : ℕ) → slots w.pool ≤ room → accept w ≡ handed s table → accept w ≡ pool s room
  unfolding pool
  with_room room h e =
      let k = handed_is s table w e in
      rw (← read_again s no_limit room w h k.0, ← k.1) refl

  pub taken : accept w ≡ handed s table → (accept w ≡ pool s (length table)) × (table ≡ padded 0 (length table) w.pool.cells)
  taken e =
      let a = agrees e in
      (with_room (length table) (long_enough w.pool.cells table a) e, then_zeros w.pool.cells table a)

  pub taken_back : Bytes s → (accept w ≡ pool s (length table)) × (table ≡ padded 0 (length table) w.pool.cells) → accept w ≡ handed s table
  taken_back b h = own s b (length table) w h.0 (length table) (slots_in_room s (length table) w h.0) ∙ ap (handed s) (sym h.1)
