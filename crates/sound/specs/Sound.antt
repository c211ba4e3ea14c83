-- A statement: what the tables of an accepted file say of the file, as document 01 asks in "File and lent tables". Assumes nothing.
use Rattle.std.specs.Prelude.{ℕ, ◌+◌, ◌≡◌, List, [], ◌∷◌, length}
use Rattle.pool.specs.Pool.{Pool}
use Rattle.attributes.specs.Sound.{Named, Tiles}
use Rattle.class.specs.Members.{Whole}
use Rattle.class.specs.Class.{Tables}

-- a member whose first byte is `at` and before which `used` attribute records were made: its name and its descriptor are texts of the pool; its attribute records follow those before, as many as it says; they tile the file from the byte after its four u2 up to the byte after the member
pub record SoundMember (p : Pool) (at used : ℕ) (w : Whole) : Type 0 where
  pub name : Named p w.member.name
  pub descriptor : Named p w.member.descriptor
  pub follows : w.first ≡ used
  pub count : length w.attributes ≡ w.member.count
  pub tiles : Tiles p (at + 8) w.attributes w.next

-- members from byte `at` and attribute record `used` on, up to byte `end` and record `made`: each begins, in the file and among the records, where the one before ends
abbrev pub InOrder : Pool → ℕ → ℕ → List Whole → ℕ → ℕ → Type 0
InOrder p at used [] end made = (at ≡ end) × (used ≡ made)
InOrder p at used (w ∷ ws) end made = SoundMember p at used w × InOrder p w.next (used + w.member.count) ws end made

-- fields from record 0 on, then methods, then the class's own attributes up to the end of the file; between them stand their numbers, two bytes each
pub record SoundTables (p : Pool) (at : ℕ) (t : Tables) : Type 0 where
  pub middle : ℕ
  pub made : ℕ
  pub last : ℕ
  pub fields : InOrder p (at + 2) 0 t.fields middle made
  pub methods : InOrder p (middle + 2) made t.methods last t.used
  pub own : Tiles p (last + 2) t.own (length p.file)
