-- The rule of a kind is that of its tag, and a tag that the table does not list has none. Assumes nothing.
use mathlib.Core.Path.{◌≡◌, refl, ap, sym}
use mathlib.Core.List.{List, [], ◌∷◌}
use Prim.Native.Nat.{ℕ}
use borrow.Author.Tests.{ne_eqb}
use Rattle.std.specs.Prelude.{None, Some}
use Rattle.reads.specs.Answer.{fine}
use Rattle.pool.specs.Named.{tag_for, kind_of}
use Rattle.pool.specs.declared.Kind.{Kind}
use Rattle.pool.specs.declared.Kind.TheVariants.{Class, String, FieldRef, MethodRef, InterfaceMethodRef, NameAndType, MethodHandle, MethodType, Dynamic, InvokeDynamic, Module, Package}
use Rattle.pool.specs.Pool.{Pool}
use Rattle.pool.proofs.Named.{tag_is, no_kind}
use Rattle.slot.specs.Slots.{tag_of}
use Rattle.checks.specs.Checks.{Rule, rules, follow, obey}

pub ruled : (p : Pool) (n : ℕ) (k : Kind) → Some k ≡ kind_of (tag_of p n) → follow rules (tag_for k) p n ≡ obey p n
unfolding obey
ruled p n k e = ap (λ t. follow rules t p n) (sym (tag_is (tag_of p n) k e))

-- a tag that no rule is for
abbrev pub Without : ℕ → List Rule → Type 0
Without t [] = Unit {0}
Without t (r ∷ rs) = (t ≡ r.0 → ⊥) × Without t rs

unlisted : (t : ℕ) (p : Pool) (n : ℕ) (rs : List Rule) → Without t rs → fine ≡ follow rs t p n
unlisted t p n [] h = refl
unlisted t p n (r ∷ rs) h = rw (ne_eqb t r.0 h.0) (unlisted t p n rs h.1)

pub unruled : (p : Pool) (n t : ℕ) → t ≡ tag_of p n → Without t rules → fine ≡ obey p n
unfolding obey
unruled p n t e h = rw (← e) (unlisted t p n rules h)

pub none : (p : Pool) (n : ℕ) → None ≡ kind_of (tag_of p n) → fine ≡ obey p n
none p n e =
    let no = no_kind (tag_of p n) e in
    unruled p n (tag_of p n) refl (no Class, (no String, (no FieldRef, (no MethodRef, (no InterfaceMethodRef, (no NameAndType, (no MethodHandle, (no MethodType, (no Dynamic, (no InvokeDynamic, (no Module, (no Package, tt))))))))))))
