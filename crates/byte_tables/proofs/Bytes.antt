-- A table of bytes held against cells, cell by cell. Assumes nothing.
use mathlib.Core.Path.{◌≡◌}
use mathlib.Core.List.{List}
use Prim.Native.Nat.{ℕ, ◌/◌, ◌≤◌, ◌<◌}
use lib.ListN.{length}
use Rattle.reads.specs.Answer.{fine, refuse, each}
use Rattle.handed.specs.Handed.{agree}
use Rattle.handed.proofs.Handed as table
use Rattle.handed.proofs.Handed.{same_at}
use Rattle.cells.specs.Cells.{cells_in}
use Rattle.cells.proofs.Cells.{length_cells}

module _ (cells bs : List ℕ) where
  pub differs : (nr place : ℕ) → each (length bs / 4) 0 (same_at cells (cells_in bs)) ≡ refuse nr place → refuse nr place ≡ agree cells (cells_in bs)
  differs nr place e = table.differs cells (cells_in bs) nr place (rw (length_cells bs) e)

  pub short : each (length bs / 4) 0 (same_at cells (cells_in bs)) ≡ fine → length bs / 4 < length cells → refuse 12 (length bs / 4) ≡ agree cells (cells_in bs)
  short e h = rw (← length_cells bs) (table.short cells (cells_in bs) (rw (length_cells bs) e) (rw (length_cells bs) h))

  pub alike : each (length bs / 4) 0 (same_at cells (cells_in bs)) ≡ fine → length cells ≤ length bs / 4 → fine ≡ agree cells (cells_in bs)
  alike e h = table.agrees cells (cells_in bs) (rw (length_cells bs) e) (rw (length_cells bs) h)
