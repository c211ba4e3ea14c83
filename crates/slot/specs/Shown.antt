-- The pool that a struct of the code shows, by its four fields. Assumes nothing.
use Rattle.pool.specs.Pool.{Pool, seen}
use Rattle.slot.specs.declared.Pool.{Pool as Lent}

abbrev pub shown : Lent → Pool
shown p = seen p.file.now p.major p.table.now p.slots
