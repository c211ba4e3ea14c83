-- `byte_pools::pool_in` meets its contract. Assumes nothing.
use Rattle.std.proofs.Common.{◌∙◌, ap, arith, length, ◌/◌}
use Rattle.reads.specs.Answer.{mapped}
use Rattle.reads.specs.Tables.{after}
use Rattle.reads.proofs.Clauses.{answer_table}
use Rattle.pool.specs.Pool.{Whole}
use Rattle.pool.specs.Readings.{head_of}
use Rattle.checks.specs.Checks.{pool}
use Rattle.cells.proofs.Cells.{handed_back}
use Rattle.byte_tables.proofs.Rooms.{enough}
use Rattle.byte_pools.proofs.pool_in.Goals as goal

pub returns : goal.returns
returns c =
    let s = c.args.file.now in
    let n = length c.args.cells.now in
    let len = length c.args.table.now in
    let p = c.requires in
    let e = enough s (λ i. (c.type_inv.file i).fits) (len / 4) n p in
    answer_table ((
      c.read_pool-answer.ensures.answer ∙ ap (mapped head_of) e,
      c.cells_out.ensures ∙ handed_back len (λ (w : Whole). w.pool.cells) n (omega arith) _ (pool s (len / 4)) c.read_pool-answer.auto.table (c.read_pool-answer.ensures.table ∙ ap (after 0 (λ (w : Whole). w.pool.cells) n) e),
    ))
