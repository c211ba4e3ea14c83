-- Members and attributes as numbers, a list for each, and as records. Document 01, "File and lent tables". Assumes nothing.
use Rattle.std.specs.Prelude.{ℕ, zero, suc, List, [], ◌∷◌, get_or}
use Rattle.records.specs.declared.Member.{Member}
use Rattle.records.specs.declared.Attribute.{Attribute}

-- a list for each number of a member
pub record Numbers : Type 0 where
  pub flags : List ℕ
  pub names : List ℕ
  pub types : List ℕ
  pub firsts : List ℕ
  pub counts : List ℕ

-- member i
unfoldable pub member_of : Numbers → ℕ → Member
member_of c i = record {
  flags = get_or c.flags i 0;
  name = get_or c.names i 0;
  descriptor = get_or c.types i 0;
  first_attribute = get_or c.firsts i 0;
  attributes = get_or c.counts i 0;
}

-- the n records from record i on, where f says each
unfoldable pub records_from : {A : Type 0} → (ℕ → A) → ℕ → ℕ → List A
records_from f i zero = []
records_from f i (suc n) = f i ∷ records_from f (suc i) n

abbrev pub members_from : Numbers → ℕ → ℕ → List Member
members_from c i n = records_from (member_of c) i n

-- the record past the end of a table
abbrev pub none : Member
none = record { flags = 0; name = 0; descriptor = 0; first_attribute = 0; attributes = 0 }

-- a list for each number of an attribute
pub record Parts : Type 0 where
  pub titles : List ℕ
  pub bodies : List ℕ
  pub lengths : List ℕ

-- attribute i
unfoldable pub attribute_of : Parts → ℕ → Attribute
attribute_of c i = record { name = get_or c.titles i 0; body = get_or c.bodies i 0; length = get_or c.lengths i 0 }

abbrev pub attributes_from : Parts → ℕ → ℕ → List Attribute
attributes_from c i n = records_from (attribute_of c) i n

abbrev pub no_attribute : Attribute
no_attribute = record { name = 0; body = 0; length = 0 }
