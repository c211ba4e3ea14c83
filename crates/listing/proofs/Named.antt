-- The form of a kind is that of its tag, and a tag that is no kind's has none. Assumes nothing.
use mathlib.Core.Path.{◌≡◌, refl, ap, sym}
use mathlib.Core.List.{List, [], ◌∷◌}
use Prim.Native.Nat.{ℕ}
use borrow.Author.Tests.{ne_eqb}
use Rattle.std.specs.Prelude.{None, Some}
use Rattle.pool.specs.Named.{tag_for, kind_of}
use Rattle.pool.specs.declared.Kind.{Kind}
use Rattle.pool.specs.declared.Kind.TheVariants.{Utf8, Integer, Float, Long, Double, Class, String, FieldRef, MethodRef, InterfaceMethodRef, NameAndType, MethodHandle, MethodType, Dynamic, InvokeDynamic, Module, Package}
use Rattle.pool.proofs.Named.{tag_is, no_kind}
use Rattle.listing.specs.declared.Form.{Form}
use Rattle.listing.specs.Forms.{none, forms, find, form_of}

pub formed : (t : ℕ) (k : Kind) → Some k ≡ kind_of t → form_of (tag_for k) ≡ form_of t
formed t k e = ap form_of (sym (tag_is t k e))

abbrev Without : ℕ → List (ℕ × Form) → Type 0
Without t [] = Unit {0}
Without t (r ∷ rs) = (t ≡ r.0 → ⊥) × Without t rs

unlisted : (t : ℕ) (rs : List (ℕ × Form)) → Without t rs → none ≡ find t rs
unlisted t [] h = refl
unlisted t (r ∷ rs) h = rw (ne_eqb t r.0 h.0) (unlisted t rs h.1)

pub formless : (t : ℕ) → None ≡ kind_of t → none ≡ form_of t
unfolding form_of
formless t e =
    let no = no_kind t e in
    unlisted t forms (no Utf8, (no Integer, (no Float, (no Long, (no Double, (no Class, (no String, (no FieldRef, (no MethodRef, (no InterfaceMethodRef, (no NameAndType, (no MethodHandle, (no MethodType, (no Dynamic, (no InvokeDynamic, (no Module, (no Package, tt)))))))))))))))))
