-- One law for each of the facts that the two widths share. Assumes nothing.
use Rattle.std.proofs.Common.{◌≡◌, ap, ℕ, suc, ◌-◌, ◌*◌, ◌%◌, ◌^◌, ◌≤◌, ◌<◌, arith, true, false}
use Rattle.std.proofs.lemmas.Int.{to_z-of_z}
use mathlib.Core.Path.{◌∙◌}
use mathlib.Core.Bool.{cond}
use lib.IntN.{ℤ, pos, negsuc}
use lib.Dec.{ltb}
use lib.Ieee.{Format, nan_bits, ones, hid, top}
use lib.Ieee.Bits.{nan_bits_above}
use mir.Syntax.{w32, w64}
use mir.Val.{SFits, to_z, of_z}
use borrow.Author.Tests.{le-ltb, lt-ltb}
use Rattle.literal.specs.Values.{twos}

-- ---- integers of bits

by_half : (k x : ℕ) → cond (ltb x (2 ^ (k - 1))) (pos x) (negsuc (2 ^ k - suc x)) ≡ twos k x
unfolding twos
by_half k x =
    let e : 2 ^ k - suc x ≡ 2 ^ k - 1 - x = omega arith in
    ap (λ (m : ℕ). cond (ltb x (2 ^ (k - 1))) (pos x) (negsuc m)) e

-- what the language's cast gives is two's complement
pub single_signed : (z : ℤ) (x : ℕ) → SFits w32 z → z ≡ to_z w32 x → to_z w32 (of_z w32 z) ≡ twos 32 x
single_signed z x f e = to_z-of_z w32 z f ∙ e ∙ by_half 32 x

pub double_signed : (z : ℤ) (x : ℕ) → SFits w64 z → z ≡ to_z w64 x → to_z w64 (of_z w64 z) ≡ twos 64 x
double_signed z x f e = to_z-of_z w64 z f ∙ e ∙ by_half 64 x

-- ---- floats

-- the code's one comparison decides whether a pattern is a NaN's
pub nan_is : (f : Format) (b : ℕ) → ones f * hid f < b % top f → nan_bits f b ≡ true
nan_is f b h = nan_bits_above f b ∙ lt-ltb _ _ h

pub no_nan : (f : Format) (b : ℕ) → b % top f ≤ ones f * hid f → nan_bits f b ≡ false
no_nan f b h = nan_bits_above f b ∙ le-ltb _ _ h
