-- `class_records::read_within` meets its contract. Assumes nothing.
use lib.ListN.{length}
use Rattle.class.specs.Columns.{lent}
use Rattle.reads.proofs.Clauses.{answer_tables}
use Rattle.class_records.proofs.Within.{part_long, within}
use Rattle.class_records.proofs.read_within.Goals as goal

pub slice_bounds-read_class-end-2 : goal.slice_bounds-read_class-end-2
slice_bounds-read_class-end-2 c =
    let a = c.args in
    part_long a.most _ a.flags.now c.clear.new.table c.clear.ensures c.min-room.ensures

pub slice_bounds-read_class-end-4 : goal.slice_bounds-read_class-end-4
slice_bounds-read_class-end-4 c =
    let a = c.args in
    part_long a.limit _ a.titles.now c.clear-2.new.table c.clear-2.ensures c.min-framed.ensures

pub returns : goal.returns
returns c =
    let a = c.args in answer_tables (within a.file.now (length a.table.now) (length a.interfaces.now) a.most a.limit _ _ (lent a.flags.now a.names.now a.types.now a.firsts.now a.counts.now a.titles.now a.bodies.now a.lengths.now)
    c.clear.new.table c.clear-2.new.table c.clear.ensures c.min-room.ensures c.clear-2.ensures c.min-framed.ensures _ _ _ _ (c.read_class.ensures.answer, c.read_class.ensures.tables))
