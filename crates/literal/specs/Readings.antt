-- The code's own notion: how the literals of this crate are read. Assumes nothing.
use Rattle.std.specs.Prelude.{◌≡◌, refl}
use Rattle.reads.specs.Promise.{Reading}
use Rattle.literal.specs.Values.{Literal as Number, integer, float, float_nan, long, double, double_nan, string}
use Rattle.literal.specs.declared.Literal.{Literal}
use Rattle.literal.specs.declared.Literal.TheVariants.{Integer, Float, FloatNan, Long, Double, DoubleNan, Text}

abbrev read_literal : Literal → Number
read_literal (Integer z) = integer z
read_literal (Float x) = float x
read_literal (FloatNan b) = float_nan b
read_literal (Long z) = long z
read_literal (Double x) = double x
read_literal (DoubleNan b) = double_nan b
read_literal (Text m) = string m

abbrev back_literal : Number → Literal
back_literal (integer z) = Integer z
back_literal (float x) = Float x
back_literal (float_nan b) = FloatNan b
back_literal (long z) = Long z
back_literal (double x) = Double x
back_literal (double_nan b) = DoubleNan b
back_literal (string m) = Text m

pub again_literal : (r : Literal) → back_literal (read_literal r) ≡ r
again_literal (Integer z) = refl
again_literal (Float x) = refl
again_literal (FloatNan b) = refl
again_literal (Long z) = refl
again_literal (Double x) = refl
again_literal (DoubleNan b) = refl
again_literal (Text m) = refl

abbrev pub reading_literal : Reading Literal Number
reading_literal = record { read = read_literal; back = back_literal; again = again_literal }
