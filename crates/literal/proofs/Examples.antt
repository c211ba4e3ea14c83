-- Literals of some bits, by computing. Assumes nothing.
use mathlib.Core.Path.{◌≡◌, refl}
use mathlib.Core.Bool.{true, false}
use mathlib.Core.List.{[], ◌∷◌, map}
use lib.IntN.{pos, negsuc}
use lib.Ieee.{inf, fin, nan_bits, of_bits}
use Rattle.literal.specs.Values.{float, float_nan, double, double_nan, twos, single, twofold}

integers : map (twos 32) (0 ∷ 1 ∷ 0x7FFFFFFF ∷ 0x80000000 ∷ 0xFFFFFFFF ∷ []) ≡ pos 0 ∷ pos 1 ∷ pos 2147483647 ∷ negsuc 2147483647 ∷ negsuc 0 ∷ []
unfolding twos
integers = refl

longs : map (twos 64) (1 ∷ 0x7FFFFFFFFFFFFFFF ∷ 0x8000000000000000 ∷ 0xFFFFFFFFFFFFFFFE ∷ []) ≡ pos 1 ∷ pos 9223372036854775807 ∷ negsuc 9223372036854775807 ∷ negsuc 1 ∷ []
unfolding twos
longs = refl

-- 0, -0, 1, -2, the infinities, and NaNs beside them
floats : map single (0 ∷ 0x80000000 ∷ 0x3F800000 ∷ 0xC0000000 ∷ 0x7F800000 ∷ 0xFF800000 ∷ 0x7F800001 ∷ 0x7FC00000 ∷ 0xFFFFFFFF ∷ [])
    ≡ float (fin false 0 (pos 0)) ∷ float (fin true 0 (pos 0)) ∷ float (fin false 1 (pos 0)) ∷ float (fin true 1 (pos 1)) ∷ float (inf false) ∷ float (inf true) ∷ float_nan 0x7F800001 ∷ float_nan 0x7FC00000 ∷ float_nan 0xFFFFFFFF ∷ []
unfolding single nan_bits of_bits
floats = refl

doubles : map twofold (0x8000000000000000 ∷ 0x3FE0000000000000 ∷ 0xFFF0000000000000 ∷ 0xFFF0000000000001 ∷ 0x7FF8000000000000 ∷ [])
    ≡ double (fin true 0 (pos 0)) ∷ double (fin false 1 (negsuc 0)) ∷ double (inf true) ∷ double_nan 0xFFF0000000000001 ∷ double_nan 0x7FF8000000000000 ∷ []
unfolding twofold nan_bits of_bits
doubles = refl
