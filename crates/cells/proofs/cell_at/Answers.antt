-- `cells::cell_at` meets its contract. Assumes nothing.
use Rattle.std.proofs.Common.{arith, ◌≡◌, ◌∙◌, ◌*◌, add_assoc}
use Rattle.reads.specs.Bytes.{num4}
use Rattle.cells.proofs.Cells.{cell_in, cell_past}
use Rattle.cells.proofs.cell_at.Goals as goal

pub returns-then-table-i : goal.returns-then-table-i
returns-then-table-i c = cell_past _ _ c.if-table-i.true

pub returns : goal.returns
returns c =
    let e : c.from_be_bytes.result ≡ num4 c.args.table.now (c.args.i * 4) = simp add_assoc (omega (arith, c.from_be_bytes.ensures)) in
    e ∙ cell_in _ _ (c.args.i * 4) (λ i. c.args.i * 4) c.if-table-i.false
