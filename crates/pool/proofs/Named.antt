-- A kind has its tag, and a tag that is no kind's has none. Assumes nothing.
use mathlib.Core.Path.{◌≡◌, refl, ap, sym, ◌∙◌}
use mathlib.Core.Bool.{Bool, true, false, cond}
use mathlib.Core.List.{List, [], ◌∷◌}
use Rattle.std.specs.Prelude.{Option, None, Some}
use Rattle.std.proofs.lemmas.Option.{none-some}
use Prim.Native.Nat.{ℕ}
use lib.Dec.{eqb}
use borrow.Author.Tests.{eqb-true}
use Rattle.pool.specs.declared.Kind.{Kind}
use Rattle.pool.specs.declared.Kind.TheVariants.{Utf8, Integer, Float, Long, Double, Class, String, FieldRef, MethodRef, InterfaceMethodRef, NameAndType, MethodHandle, MethodType, Dynamic, InvokeDynamic, Module, Package}
use Rattle.pool.specs.Named.{tag_for, kinds, tagged, kind_of}

abbrev Own : ℕ → Option Kind → Type 0
Own t (Some k) = t ≡ tag_for k
Own t None = Unit {0}

own : (t : ℕ) (ks : List Kind) → Own t (tagged t ks)
own t [] = tt
own t (k ∷ ks) = go (eqb t (tag_for k)) refl (own t ks)
  where
    go : (b : Bool) → eqb t (tag_for k) ≡ b → Own t (tagged t ks) → Own t (cond b (Some k) (tagged t ks))
    go true e h = eqb-true t (tag_for k) e
    go false e h = h

-- the kind of a tag has that tag
pub tag_is : (t : ℕ) (k : Kind) → Some k ≡ kind_of t → t ≡ tag_for k
unfolding kind_of
tag_is t k e = rw (← e) at (own t kinds)

-- each kind is found by its tag
pub kind_is : (k : Kind) → Some k ≡ kind_of (tag_for k)
unfolding kind_of
kind_is Utf8 = refl
kind_is Integer = refl
kind_is Float = refl
kind_is Long = refl
kind_is Double = refl
kind_is Class = refl
kind_is String = refl
kind_is FieldRef = refl
kind_is MethodRef = refl
kind_is InterfaceMethodRef = refl
kind_is NameAndType = refl
kind_is MethodHandle = refl
kind_is MethodType = refl
kind_is Dynamic = refl
kind_is InvokeDynamic = refl
kind_is Module = refl
kind_is Package = refl

-- a tag that is no kind's is that of none
pub no_kind : (t : ℕ) → None ≡ kind_of t → (k : Kind) → t ≡ tag_for k → ⊥
no_kind t e k q = none-some k (e ∙ ap kind_of q ∙ sym (kind_is k))
