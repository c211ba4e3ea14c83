-- The zero of each type of number that a lent table may hold is 0. Assumes nothing.
use mathlib.Core.Path.{◌≡◌, refl}
use Rattle.reads.specs.contracts.U8Zero.TheImpl.{ghosts as zero_u8}
use Rattle.reads.specs.contracts.U16Zero.TheImpl.{ghosts as zero_u16}
use Rattle.reads.specs.contracts.U32Zero.TheImpl.{ghosts as zero_u32}

pub of_u8 : zero_u8.ZERO ≡ 0
of_u8 = refl

pub of_u16 : zero_u16.ZERO ≡ 0
of_u16 = refl

pub of_u32 : zero_u32.ZERO ≡ 0
of_u32 = refl
