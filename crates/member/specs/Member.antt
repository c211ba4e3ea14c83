-- A field or a method, up to its attributes. Document 01, "Members and lookups". Assumes nothing.
use Rattle.std.specs.Prelude.{ℕ, ◌+◌, List, [], ◌∷◌, Bool, true, false, not, ◌&&◌, ◌||◌, cond, ltb, eqb}
use Rattle.std.specs.Int.Bits.{bit_and}
use Rattle.reads.specs.Answer.{Answer, Check, accept, ◌>>=◌, require}
use Rattle.reads.specs.Bytes.{u2}
use Rattle.text.specs.Text.{same, unqualified, is_init, is_clinit, method_name}
use Rattle.descriptors.specs.Descriptors.{field_descriptor, method_descriptor, returns_void, takes_nothing}
use Rattle.pool.specs.Pool.{Pool}
use Rattle.slot.specs.Slots.{bytes_of, utf8_at}
use Rattle.member.specs.declared.Sort.{Sort}
use Rattle.member.specs.declared.Member.{Member}

-- ---- what fields and methods differ in

unfoldable pub masked : Bool → ℕ → ℕ
masked method flags = cond method (bit_and flags 0x1DFF) (bit_and flags 0x50DF)

unfoldable pub good_name : Sort → List ℕ → Bool
good_name k t = cond k.method (method_name k.in_interface t) (unqualified t)

unfoldable pub good_type : Sort → List ℕ → Bool
good_type k t = cond k.method (method_descriptor t) (field_descriptor t)

-- a bad name is 10, a bad descriptor 11: the number says which of the two is judged
unfoldable pub good_text : Sort → ℕ → List ℕ → Bool
good_text k nr t = cond (eqb nr 10) (good_name k t) (good_type k t)

-- `<init>` and `<clinit>` return `V`; from major 51 `<clinit>` takes nothing
unfoldable pub shape : ℕ → List ℕ → List ℕ → Bool
shape major name type =
    cond (is_init name) (returns_void type)
    (cond (is_clinit name) (returns_void type && (ltb major 51 || takes_nothing type)) true)

-- methods only
unfoldable pub good_shape : Sort → Pool → ℕ → ℕ → Bool
good_shape k p name type = cond k.method (shape p.major (bytes_of p name) (bytes_of p type)) true

-- ---- duplicates: among the names and descriptors of the members before, of the same sort

unfoldable pub alike : Pool → ℕ → ℕ → Bool
alike p m n = same (bytes_of p m) (bytes_of p n)

unfoldable pub twice : Pool → ℕ → ℕ → List ℕ → List ℕ → Bool
twice p name type [] types = false
twice p name type (m ∷ names) [] = false
twice p name type (m ∷ names) (t ∷ types) = alike p name m && alike p type t || twice p name type names types

-- ---- one member

unfoldable pub text_in : Sort → ℕ → Pool → ℕ → ℕ → Check
text_in k nr p place m = do
  _ ← utf8_at p place m
  require (good_text k nr (bytes_of p m)) nr place

-- its name, its descriptor and its shape; `at` is its first byte
unfoldable pub parts_at : Sort → Pool → ℕ → ℕ → ℕ → Check
parts_at k p at name type = do
  _ ← text_in k 10 p (at + 2) name
  _ ← text_in k 11 p (at + 4) type
  require (good_shape k p name type) 15 at

-- record n, which stands at byte `at`, up to its attributes
unfoldable pub member_at : Sort → Pool → ℕ → ℕ → ℕ → List ℕ → List ℕ → Answer Member
member_at k p room n at names types = do
  flags ← u2 p.file at
  name ← u2 p.file (at + 2)
  type ← u2 p.file (at + 4)
  _ ← parts_at k p at name type
  _ ← require (not (twice p name type names types)) 14 at
  _ ← require (ltb n room) 13 at
  count ← u2 p.file (at + 6)
  accept (record { flags = masked k.method flags; name = name; descriptor = type; count = count })
