-- A rank for each kind of entry, and that a set of kinds lies below a rank: by computing. Assumes nothing.
use Prim.Native.Nat.{ℕ, ◌≤◌, ◌<◌}
use native.Mathlib.Omega.{arith}
use mathlib.Core.Path.{◌≡◌, refl}
use mathlib.Core.List.{[], ◌∷◌}
use mathlib.Core.Bool.{Bool, false≢true, true, false, not, ◌&&◌, ◌||◌, cond, and-eq-true_iff}
use lib.Dec.{leb, ltb, eqb}
use borrow.Author.Tests.{ltb-true}
use Rattle.pool.specs.Kinds as kind
use Rattle.pool.proofs.Sets.{all, all_at}
use Rattle.checks.specs.Checks.{handled}

-- how far an entry's references can lead: a reference goes to an entry of lower rank
abbrev pub rank : ℕ → ℕ
rank t =
    cond (kind.has (kind.set_of (kind.method_handle ∷ [])) t) 3
    (cond (kind.has (kind.set_of (kind.field_ref ∷ kind.method_ref ∷ kind.interface_method_ref ∷ kind.dynamic ∷ kind.invoke_dynamic ∷ [])) t) 2
    (cond (kind.has (kind.set_of (kind.class ∷ kind.string ∷ kind.name_and_type ∷ kind.method_type ∷ kind.module ∷ kind.package ∷ [])) t) 1 0))

pub rank≤3 : (t : ℕ) → rank t ≤ 3
rank≤3 t = go (kind.has _ t) (kind.has _ t) (kind.has _ t)
  where
    go : (a b c : Bool) → cond a 3 (cond b 2 (cond c 1 0)) ≤ 3
    go true b c = omega arith
    go false true c = omega arith
    go false false true = omega arith
    go false false false = omega arith

-- a tag that is an entry's, of a rank below r
abbrev pub low : ℕ → ℕ → Bool
low r t = not (eqb t 0) && ltb (rank t) r

-- every kind of a set is low
abbrev pub lows : ℕ → ℕ → Bool
lows r set = all set (low r)

pub low_in : (r set : ℕ) → lows r set ≡ true → (t : ℕ) → kind.has set t ≡ true → low r t ≡ true
low_in r set = all_at set (low r)

-- what a low tag says
pub not_none : (r t : ℕ) → low r t ≡ true → t ≡ 0 → ⊥
not_none r t e z = false≢true (rw z at ((and-eq-true_iff (not (eqb t 0)) (ltb (rank t) r)).0 e).0)

pub lower : (r t : ℕ) → low r t ≡ true → rank t < r
lower r t e = ltb-true (rank t) r ((and-eq-true_iff (not (eqb t 0)) (ltb (rank t) r)).0 e).1

-- ---- the sets that the rules name

pub utf8_low : lows 1 (kind.set_of (kind.utf8 ∷ [])) ≡ true
unfolding kind.has
utf8_low = refl

pub class_low : lows 2 (kind.set_of (kind.class ∷ [])) ≡ true
unfolding kind.has
class_low = refl

pub name_and_type_low : lows 2 (kind.set_of (kind.name_and_type ∷ [])) ≡ true
unfolding kind.has
name_and_type_low = refl

pub handled_low : (major k : ℕ) → lows 3 (handled major k) ≡ true
unfolding handled kind.has
handled_low major k = go (leb k 4) (eqb k 9) (leb 52 major && (eqb k 6 || eqb k 7))
  where
    go : (a b c : Bool) → lows 3 (cond a (kind.set_of (kind.field_ref ∷ [])) (cond b (kind.set_of (kind.interface_method_ref ∷ [])) (cond c (kind.set_of (kind.method_ref ∷ kind.interface_method_ref ∷ [])) (kind.set_of (kind.method_ref ∷ []))))) ≡ true
    go true b c = refl
    go false true c = refl
    go false false true = refl
    go false false false = refl
