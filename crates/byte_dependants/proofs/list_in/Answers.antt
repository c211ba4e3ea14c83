-- `byte_dependants::list_in` meets its contract. Assumes nothing.
use Rattle.std.proofs.Common.{arith, length, ◌/◌}
use Rattle.reads.proofs.Clauses.{answer_list}
use Rattle.reads.proofs.Leaves.{Bytes}
use Rattle.cells.specs.Cells.{cells_in}
use Rattle.byte_tables.proofs.Gate.{refused, agreed}
use Rattle.byte_dependants.proofs.Rooms.{same_list, no_list, refuses, lists}
use Rattle.byte_dependants.proofs.list_in.Goals as goal

pub returns-in-Err : goal.returns-in-Err
returns-in-Err c =
    let h = refused c.args.file.now (λ i. (c.type_inv.file i).fits) _ c.requires.enough (cells_in c.args.table.now) _ _ c.in-Err.ensures.answer in
    answer_list (refuses (length c.args.list.now) _ _ _ _ (no_list _ _ c.args.slot (length c.args.list.now / 4) _ _ h) c.clear.ensures)

pub returns : goal.returns
returns c =
    let s = c.args.file.now in
    let t = cells_in c.args.table.now in
    let room = length c.args.list.now / 4 in
    let k = length c.args.slots.now in
    let b : Bytes s = λ i. (c.type_inv.file i).fits in
    let h = agreed s b (length c.args.cells.now) c.requires.enough t c.in_default.ensures.answer in
    let d = same_list s b (length c.args.cells.now) c.requires.enough t c.args.slot room k c.requires.room _ _ c.check_afresh.ensures.cells h in
    answer_list (lists (length c.args.list.now) k (omega (arith, c.requires.room)) _ _ _ _ _ d c.dependants-answer.ensures.answer c.list_out.ensures c.dependants-answer.auto.list c.dependants-answer.ensures.list)
