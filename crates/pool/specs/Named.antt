-- The kinds of pool entries, and the tag of each. Document 01, "Pool slots". Assumes nothing.
use Rattle.std.specs.Prelude.{ℕ, List, [], ◌∷◌, Option, Some, None, cond, eqb}
use Rattle.pool.specs.Kinds as kind
use Rattle.pool.specs.declared.Kind.{Kind}
use Rattle.pool.specs.declared.Kind.TheVariants.{Utf8, Integer, Float, Long, Double, Class, String, FieldRef, MethodRef, InterfaceMethodRef, NameAndType, MethodHandle, MethodType, Dynamic, InvokeDynamic, Module, Package}

-- the tag of a kind
abbrev pub tag_for : Kind → ℕ
tag_for Utf8 = kind.utf8
tag_for Integer = kind.integer
tag_for Float = kind.float
tag_for Long = kind.long
tag_for Double = kind.double
tag_for Class = kind.class
tag_for String = kind.string
tag_for FieldRef = kind.field_ref
tag_for MethodRef = kind.method_ref
tag_for InterfaceMethodRef = kind.interface_method_ref
tag_for NameAndType = kind.name_and_type
tag_for MethodHandle = kind.method_handle
tag_for MethodType = kind.method_type
tag_for Dynamic = kind.dynamic
tag_for InvokeDynamic = kind.invoke_dynamic
tag_for Module = kind.module
tag_for Package = kind.package

abbrev pub kinds : List Kind
kinds = Utf8 ∷ Integer ∷ Float ∷ Long ∷ Double ∷ Class ∷ String ∷ FieldRef ∷ MethodRef ∷ InterfaceMethodRef ∷ NameAndType ∷ MethodHandle ∷ MethodType ∷ Dynamic ∷ InvokeDynamic ∷ Module ∷ Package ∷ []

-- the first of these kinds that has the tag
abbrev pub tagged : ℕ → List Kind → Option Kind
tagged t [] = None
tagged t (k ∷ ks) = cond (eqb t (tag_for k)) (Some k) (tagged t ks)

-- the kind of a tag
unfoldable pub kind_of : ℕ → Option Kind
kind_of t = tagged t kinds
