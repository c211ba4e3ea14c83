-- A statement: the rule of each entry as a list of tests, "checked left to right", each with the number that is given where it fails. Document 01, "Pool slots". Assumes nothing.
use Rattle.std.specs.Prelude.{ℕ, ◌+◌, ◌≡◌, List, [], ◌∷◌, Bool, true, false, ◌||◌, cond, ◌⊎◌, eqb}
use Rattle.reads.specs.Bytes.{num1}
use Rattle.text.specs.Text.{is_text, unqualified, binary, module_name}
use Rattle.descriptors.specs.Descriptors.{stands, array_descriptor, field_descriptor, method_descriptor}
use Rattle.pool.specs.Kinds as kind
use Rattle.pool.specs.Pool.{Pool}
use Rattle.slot.specs.Slots.{cell, tag_of, field, bytes_of}
use Rattle.checks.specs.Checks.{handled}

pub record Test : Type 0 where
  pub holds : Bool
  pub number : ℕ

-- slot m is of a kind of this set, else 8
abbrev pub kinds : ℕ → Pool → ℕ → Test
kinds set p m = record { holds = kind.has set (tag_of p m); number = 8 }

abbrev pub utf8 : Pool → ℕ → Test
utf8 = kinds (kind.set_of (kind.utf8 ∷ []))

-- .. text, else 9
abbrev pub text : Pool → ℕ → Test
text p m = record { holds = is_text (bytes_of p m); number = 9 }

-- .. of a grammar, else nr
abbrev pub of : (List ℕ → Bool) → ℕ → Pool → ℕ → Test
of good nr p m = record { holds = good (bytes_of p m); number = nr }

-- .. a binary name or an array descriptor, else 11 where it begins with `[`, and 10
abbrev pub named_class : Pool → ℕ → Test
named_class p m = record { holds = binary (bytes_of p m) || array_descriptor (bytes_of p m); number = cond (stands 0x5B 0 (bytes_of p m)) 11 10 }

-- a NameAndType "with a descriptor"
abbrev pub described : (List ℕ → Bool) → Pool → ℕ → List Test
described good p m = kinds (kind.set_of (kind.name_and_type ∷ [])) p m ∷ utf8 p (field p m 3) ∷ text p (field p m 3) ∷ of good 11 p (field p m 3) ∷ []

-- a Class; a NameAndType with a descriptor
abbrev pub reference_to : (List ℕ → Bool) → Pool → ℕ → List Test
reference_to good p n = kinds (kind.set_of (kind.class ∷ [])) p (field p n 1) ∷ described good p (field p n 3)

-- Utf8, text, of a grammar
abbrev pub named : (List ℕ → Bool) → ℕ → Pool → ℕ → List Test
named good nr p n = utf8 p (field p n 1) ∷ text p (field p n 1) ∷ of good nr p (field p n 1) ∷ []

abbrev pub Row : Type 0
Row = ℕ × (Pool → ℕ → List Test)

abbrev pub rows : List Row
rows =
    (kind.class, λ p n. utf8 p (field p n 1) ∷ text p (field p n 1) ∷ named_class p (field p n 1) ∷ [])
    ∷ (kind.string, λ p n. utf8 p (field p n 1) ∷ [])
    ∷ (kind.field_ref, λ p n. reference_to field_descriptor p n)
    ∷ (kind.method_ref, λ p n. reference_to method_descriptor p n)
    ∷ (kind.interface_method_ref, λ p n. reference_to method_descriptor p n)
    ∷ (kind.name_and_type, λ p n. utf8 p (field p n 1) ∷ text p (field p n 1) ∷ of unqualified 10 p (field p n 1) ∷ utf8 p (field p n 3) ∷ [])
    ∷ (kind.method_handle, λ p n. kinds (handled p.major (num1 p.file (cell p n + 1))) p (field p n 2) ∷ [])
    ∷ (kind.method_type, λ p n. named method_descriptor 11 p n)
    ∷ (kind.dynamic, λ p n. described field_descriptor p (field p n 3))
    ∷ (kind.invoke_dynamic, λ p n. described method_descriptor p (field p n 3))
    ∷ (kind.module, λ p n. named module_name 10 p n)
    ∷ (kind.package, λ p n. named binary 10 p n)
    ∷ []

-- the tests of slot n by its tag; Zero, Unused, Utf8 and numbers have none
abbrev pub find : List Row → ℕ → Pool → ℕ → List Test
find [] t p n = []
find (r ∷ rs) t p n = cond (eqb t r.0) (r.1 p n) (find rs t p n)

unfoldable pub tests_of : Pool → ℕ → List Test
tests_of p n = find rows (tag_of p n) p n

-- a test fails and has this number, and those before it hold
abbrev pub FirstFails : List Test → ℕ → Type 0
FirstFails [] nr = ⊥
FirstFails (t ∷ ts) nr = ((t.holds ≡ false) × (t.number ≡ nr)) ⊎ ((t.holds ≡ true) × FirstFails ts nr)
