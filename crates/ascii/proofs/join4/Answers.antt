-- `ascii::join4` meets its contract. Assumes nothing.
use native.Mathlib.Omega.{arith}
use borrow.Author.Tests.{lt-ltb}
use Rattle.ascii.specs.Ascii.{packed, bytes}
use Rattle.ascii.proofs.join4.Goals as goal

pub returns : goal.returns
unfolding packed bytes
returns c = (let e = c.from_le_bytes.ensures in omega arith, omega arith, simp (lt-ltb c.args.a 256 (omega arith), lt-ltb c.args.b 256 (omega arith), lt-ltb c.args.c 256 (omega arith), lt-ltb c.args.d 256 (omega arith)))
