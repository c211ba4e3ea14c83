-- `cells::put_cells` meets its contract. Assumes nothing.
use Rattle.std.proofs.Common.{arith, map, ◌∙◌, ap, sym}
use Rattle.std.proofs.lemmas.List.{get_or-map}
use Rattle.std.proofs.lemmas.List.{length-map}
use Rattle.cells.specs.Cells.{cell_bytes}
use Rattle.cells.proofs.Filling.{begin, turn, end}
use Rattle.cells.proofs.put_cells.Goals as goal

pub loop-i-init : goal.loop-i-init
loop-i-init g c = begin (map g.T.Cell.number c.args.numbers.now) c.args.table.now

pub loop-i-preserved : goal.loop-i-preserved
loop-i-preserved g c =
    let f = g.T.Cell.number in
    let xs = c.args.numbers.now in
    let n = length-map xs f in
    let x = get_or-map f xs c.loop-i.i c.index-numbers-i.result 0 c.loop-i-test.true in
    turn (map f xs) _ (omega (arith, c.requires)) _ _ _ c.loop-i.invariant _ (omega (arith, c.loop-i-test.true)) (omega arith) (c.copy_from_slice.ensures.after ∙ c.bytes.ensures ∙ ap cell_bytes (ap f c.index-numbers-i.is ∙ sym x))

pub returns : goal.returns
returns g c =
    let n = length-map c.args.numbers.now g.T.Cell.number in
    end _ _ (omega (arith, c.requires)) _ _ _ c.loop-i.invariant _ (omega arith) (omega (arith, c.loop-i-test.false)) c.clear.ensures
