-- A statement: what attribute records that were framed say of the file, as document 01 asks in "File and lent tables". Assumes nothing.
use Rattle.std.specs.Prelude.{ℕ, ◌+◌, ◌≤◌, ◌<◌, ◌≡◌, List, [], ◌∷◌, true, length}
use Rattle.text.specs.Text.{is_text}
use Rattle.pool.specs.Kinds as kind
use Rattle.pool.specs.Pool.{Pool, slots}
use Rattle.slot.specs.Slots.{tag_of, bytes_of}
use Rattle.attributes.specs.declared.Attribute.{Attribute}

-- slot m of the pool is a Utf8 that is text
pub record Named (p : Pool) (m : ℕ) : Type 0 where
  pub slot : m < slots p
  pub utf8 : tag_of p m ≡ kind.utf8
  pub text : is_text (bytes_of p m) ≡ true

-- an attribute whose first byte is `at`: its name is text, its body begins after a u2 and a u4 and lies in the file
pub record Sound (p : Pool) (at : ℕ) (a : Attribute) : Type 0 where
  pub named : Named p a.name
  pub begins : a.start ≡ at + 6
  pub inside : a.start + a.size ≤ length p.file

-- these attributes tile the file from byte `at` up to byte `end`: each begins where the one before it ends
abbrev pub Tiles : Pool → ℕ → List Attribute → ℕ → Type 0
Tiles p at [] end = at ≡ end
Tiles p at (a ∷ rest) end = Sound p at a × Tiles p (a.start + a.size) rest end
