-- No bit of a literal is lost: the bits that go in come out, on every pattern, a NaN's too. Assumes nothing.
use mathlib.Core.Path.{◌≡◌, refl, ap, sym, ◌∙◌, subst}
use mathlib.Core.Bool.{Bool, true, false, not, ◌||◌, cond}
use mathlib.Core.List.{List}
use Prim.Native.Nat.{ℕ, suc, ◌+◌, ◌-◌, ◌*◌, ◌^◌, ◌≤◌, ◌<◌}
use native.Mathlib.Omega.{arith}
use lib.IntN.{pos, negsuc, ◌-ℤ◌}
use lib.Dec.{T, ltb, eqb}
use borrow.Author.Tests.{lt-ltb, le-ltb}
use lib.Ieee.{Format, binary32, binary64, is_nan, nan_bits, of_bits, to_bits, top}
use lib.Ieee.Bits.{nan_bits_is, to_bits-of_bits}
use Rattle.reads.specs.Bytes.{num4, num8}
use Rattle.reads.proofs.Leaves.{Bytes, pair_below}
use Rattle.pool.specs.Kinds as kind
use Rattle.literal.specs.Values.{Literal, twos, single, twofold, number_at, pattern, bits_of}

-- ---- integers

module _ (k x : ℕ) (h : x < 2 ^ k) where
  by_half : (t : Bool) → pattern k (cond t (pos x) (negsuc (2 ^ k - 1 - x))) ≡ x
  by_half true = refl
  by_half false = omega arith

  pub integer_whole : pattern k (twos k x) ≡ x
  unfolding twos
  integer_whole = by_half (ltb x (2 ^ (k - 1)))

-- two's complement: the bits as a number, less 2 ^ k where the highest is set
minus : (x n : ℕ) → x < suc n → pos x -ℤ pos (suc n) ≡ negsuc (n - x)
minus x n h =
    let e : suc n - suc x ≡ n - x = omega arith in
    simp (lt-ltb x (suc n) h, e)

pub set_bit : (k x : ℕ) → 2 ^ (k - 1) ≤ x → x < 2 ^ k → twos k x ≡ pos x -ℤ pos (2 ^ k)
unfolding twos
set_bit k x l h =
    let e : 2 ^ k ≡ suc (2 ^ k - 1) = omega arith in
    simp (le-ltb _ _ l) (sym (ap (λ (n : ℕ). pos x -ℤ pos n) e ∙ minus x (2 ^ k - 1) (omega arith)))

pub clear_bit : (k x : ℕ) → x < 2 ^ (k - 1) → twos k x ≡ pos x
unfolding twos
clear_bit k x h = simp (lt-ltb _ _ h)

-- ---- floats

module _ (f : Format) (b : ℕ) (h : b < 2 * top f) where
  none : nan_bits f b ≡ false → T (not (is_nan (of_bits f b)))
  none e = subst (λ (t : Bool). T (not t)) (sym (sym (nan_bits_is f b) ∙ e)) tt

  by_nan : {A : Type 0} (bits : A → ℕ) (n x : A) → bits n ≡ b → bits x ≡ to_bits f (of_bits f b) → (t : Bool) → nan_bits f b ≡ t → bits (cond t n x) ≡ b
  by_nan bits n x p q true e = p
  by_nan bits n x p q false e = q ∙ to_bits-of_bits f b h (none e)

pub float_whole : (b : ℕ) → b < 4294967296 → bits_of (single b) ≡ b
unfolding single
float_whole b h = by_nan binary32 b h bits_of _ _ refl refl (nan_bits binary32 b) refl

pub double_whole : (b : ℕ) → b < 18446744073709551616 → bits_of (twofold b) ≡ b
unfolding twofold
double_whole b h = by_nan binary64 b h bits_of _ _ refl refl (nan_bits binary64 b) refl

-- ---- numbers in a file of bytes

by_tag : (w x y z : Literal) {m n : ℕ} → bits_of w ≡ m → bits_of x ≡ m → bits_of y ≡ n → bits_of z ≡ n → (i f l : Bool) → bits_of (cond i w (cond f x (cond l y z))) ≡ cond (i || f) m n
by_tag w x y z p q r e true f l = p
by_tag w x y z p q r e false true l = q
by_tag w x y z p q r e false false true = r
by_tag w x y z p q r e false false false = e

module _ (s : List ℕ) (b : Bytes s) where
  quad_small : (at : ℕ) → num4 s at < 4294967296
  quad_small at = omega (arith, pair_below s b at, pair_below s b (at + 2))

  oct_small : (at : ℕ) → num8 s at < 18446744073709551616
  oct_small at = omega (arith, quad_small at, quad_small (at + 4))

  -- four bytes of an Integer and a Float, eight of a Long and a Double
  pub number_whole : (t at : ℕ) → bits_of (number_at s t at) ≡ cond (eqb t kind.integer || eqb t kind.float) (num4 s at) (num8 s at)
  unfolding number_at
  number_whole t at =
      by_tag _ _ _ _ (integer_whole 32 (num4 s at) (quad_small at)) (float_whole (num4 s at) (quad_small at)) (integer_whole 64 (num8 s at) (oct_small at)) (double_whole (num8 s at) (oct_small at))
      (eqb t kind.integer) (eqb t kind.float) (eqb t kind.long)
