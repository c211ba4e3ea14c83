-- `ascii::lacks` meets its contract. Assumes nothing.
use lib.Bits.{bit_xor, and_le_r}
use borrow.Author.Rules.{rules}
use Rattle.ascii.specs.Ascii.{lacks, lows}
use Rattle.ascii.proofs.lacks.Goals as goal

pub overflow_add-result : goal.overflow_add-result
overflow_add-result c = let h = and_le_r (bit_xor c.args.w c.args.c) lows in search rules

pub returns : goal.returns
unfolding lacks
returns c = search rules
