-- `class_records::read_class_records` meets its contract. Assumes nothing.
use lib.ListN.{length}
use Rattle.class.specs.Columns.{lent}
use Rattle.class_records.proofs.Recorded.{recorded, attributes_recorded}
use Rattle.class_records.proofs.read_class_records.Goals as goal

-- the columns are as `read_within` leaves them, and the records are filled from these
pub returns-clause-records : goal.returns-clause-records
returns-clause-records c =
    let a = c.args in
    let x = c.read_within-answer in
    let old = lent a.flags.now a.names.now a.types.now a.firsts.now a.counts.now a.titles.now a.bodies.now a.lengths.now in
    let new = lent x.new.flags x.new.names x.new.types x.new.firsts x.new.counts x.new.titles x.new.bodies x.new.lengths in
    let n = length a.records.now in
    let k = length a.attributes.now in (
      recorded a.file.now (length a.table.now) (length a.interfaces.now) n k old new x.ensures.tables.1.1 _ c.member_records.ensures,
      attributes_recorded a.file.now (length a.table.now) (length a.interfaces.now) n k old new x.ensures.tables.1.1 _ c.attribute_records.ensures,
    )
