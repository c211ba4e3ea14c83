-- The values of literals. Document 01, "Members and lookups". Assumes nothing.
use Rattle.std.specs.Prelude.{ℕ, ◌-◌, ◌^◌, List, cond, ℤ, pos, negsuc, Float, ltb, eqb}
use Rattle.std.specs.Float.{binary32, binary64}
use Rattle.std.specs.Float.Ieee.{of_bits, to_bits, nan_bits}
use Rattle.reads.specs.Answer.{Answer, accept, refuse}
use Rattle.reads.specs.Bytes.{num4, num8}
use Rattle.pool.specs.Kinds as kind

-- a float's value, or the bits of a pattern that is not a number: the language has one NaN, and a file has many. A String by its Utf8 slot
pub data Literal : Type 0 where
  integer : ℤ → Literal
  float : Float → Literal
  float_nan : ℕ → Literal
  long : ℤ → Literal
  double : Float → Literal
  double_nan : ℕ → Literal
  string : ℕ → Literal

-- the number that k bits are as two's complement
unfoldable pub twos : ℕ → ℕ → ℤ
twos k x = cond (ltb x (2 ^ (k - 1))) (pos x) (negsuc (2 ^ k - 1 - x))

unfoldable pub single : ℕ → Literal
single b = cond (nan_bits binary32 b) (float_nan b) (float (of_bits binary32 b))

unfoldable pub twofold : ℕ → Literal
twofold b = cond (nan_bits binary64 b) (double_nan b) (double (of_bits binary64 b))

-- the number of an entry of the tag t whose body stands at `at`
unfoldable pub number_at : List ℕ → ℕ → ℕ → Literal
number_at s t at =
    cond (eqb t kind.integer) (integer (twos 32 (num4 s at)))
    (cond (eqb t kind.float) (single (num4 s at))
    (cond (eqb t kind.long) (long (twos 64 (num8 s at)))
    (twofold (num8 s at))))

-- ---- and back to bits

-- the k bits of an integer
abbrev pub pattern : ℕ → ℤ → ℕ
pattern k (pos x) = x
pattern k (negsuc x) = 2 ^ k - 1 - x

abbrev pub bits_of : Literal → ℕ
bits_of (integer z) = pattern 32 z
bits_of (float x) = to_bits binary32 x
bits_of (float_nan b) = b
bits_of (long z) = pattern 64 z
bits_of (double x) = to_bits binary64 x
bits_of (double_nan b) = b
bits_of (string m) = m

abbrev pub bits_in : Answer Literal → ℕ
bits_in (accept l) = bits_of l
bits_in (refuse nr place) = 0
