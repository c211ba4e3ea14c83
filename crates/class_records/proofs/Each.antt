-- The records of an accepted file, one by one: record i is member i, or attribute i, and a record past these is of zeros; after a refusal every one is. Assumes nothing.
use mathlib.Core.Path.{◌≡◌, refl, ap, sym, ◌∙◌}
use mathlib.Core.List.{List, [], ◌∷◌, ◌++◌, map}
use Prim.Native.Nat.{ℕ, zero, suc, ◌-◌, ◌≤◌, ◌<◌}
use native.Mathlib.Nat.{le_of_suc-le-suc, not-suc-le-zero}
use lib.ListN.{length, get_or, replicate}
use Rattle.reads.specs.Answer.{Answer, accept, refuse}
use Rattle.reads.specs.Tables.{padded, after}
use Rattle.attributes.specs.declared.Attribute.{Attribute as FramedAttribute}
use Rattle.class.specs.Members.{Whole}
use Rattle.class.specs.Class.{Class}
use Rattle.class.specs.Columns.{Columns}
use Rattle.records.specs.declared.Member.{Member}
use Rattle.records.specs.declared.Attribute.{Attribute}
use Rattle.records.specs.Records.{none, no_attribute}
use Rattle.records.proofs.Zeros.{alike_at}
use Rattle.class_records.specs.ClassRecords.{class_with, record_of, members_in, records_of, attribute_record_of, attributes_in, attribute_records_of}

-- ---- a table that holds g of each of a list, and z's

module _ {W A : Type 0} (g : W → A) (z : A) where
  at_front : (vs : List W) (rest : List A) (d : W) (i : ℕ) → i < length vs → get_or (map g vs ++ rest) i z ≡ g (get_or vs i d)
  at_front [] rest d i h = absurd (not-suc-le-zero h)
  at_front (v ∷ vs) rest d zero h = refl
  at_front (v ∷ vs) rest d (suc i) h = at_front vs rest d i (le_of_suc-le-suc h)

  at_back : (vs : List W) (m i : ℕ) → length vs ≤ i → get_or (map g vs ++ replicate m z) i z ≡ z
  at_back [] m i h = alike_at z m i
  at_back (v ∷ vs) m zero h = absurd (not-suc-le-zero h)
  at_back (v ∷ vs) m (suc i) h = at_back vs m i (le_of_suc-le-suc h)

  module _ {X : Type 0} (listed : X → List W) (n : ℕ) (a : Answer X) (t : List A) (e : t ≡ after z (λ x. map g (listed x)) n a) where
    was : (x : Answer X) → x ≡ a → (i : ℕ) → get_or t i z ≡ get_or (after z (λ x'. map g (listed x')) n x) i z
    was x h i = ap (λ (l : List A). get_or l i z) (e ∙ ap (after z (λ x'. map g (listed x')) n) (sym h))

    in_order : (x : X) → accept x ≡ a → (d : W) (i : ℕ) → i < length (listed x) → get_or t i z ≡ g (get_or (listed x) i d)
    unfolding padded
    in_order x h d i l = was (accept x) h i ∙ at_front (listed x) _ d i l

    then_none : (x : X) → accept x ≡ a → (i : ℕ) → length (listed x) ≤ i → get_or t i z ≡ z
    unfolding padded
    then_none x h i l = was (accept x) h i ∙ at_back (listed x) (n - length (map g (listed x))) i l

    none_refused : (nr place : ℕ) → refuse nr place ≡ a → (i : ℕ) → get_or t i z ≡ z
    none_refused nr place h i = was (refuse nr place) h i ∙ alike_at z n i

-- ---- the two tables of `read_class_records`

module _ (s : List ℕ) (room len n k : ℕ) (c : Columns) where
  module _ (t : List Member) (e : t ≡ after none records_of n (class_with s room len c n k)) where
    pub record_is_member : (x : Class) → accept x ≡ class_with s room len c n k → (d : Whole) (i : ℕ) → i < length (members_in x) → get_or t i none ≡ record_of (get_or (members_in x) i d)
    record_is_member = in_order record_of none members_in n (class_with s room len c n k) t e

    pub none_past : (x : Class) → accept x ≡ class_with s room len c n k → (i : ℕ) → length (members_in x) ≤ i → get_or t i none ≡ none
    none_past = then_none record_of none members_in n (class_with s room len c n k) t e

    pub none_after_refusal : (nr place : ℕ) → refuse nr place ≡ class_with s room len c n k → (i : ℕ) → get_or t i none ≡ none
    none_after_refusal = none_refused record_of none members_in n (class_with s room len c n k) t e

  module _ (t : List Attribute) (e : t ≡ after no_attribute attribute_records_of k (class_with s room len c n k)) where
    pub record_is_attribute : (x : Class) → accept x ≡ class_with s room len c n k → (d : FramedAttribute) (i : ℕ) → i < length (attributes_in x) → get_or t i no_attribute ≡ attribute_record_of (get_or (attributes_in x) i d)
    record_is_attribute = in_order attribute_record_of no_attribute attributes_in k (class_with s room len c n k) t e

    pub no_attribute_past : (x : Class) → accept x ≡ class_with s room len c n k → (i : ℕ) → length (attributes_in x) ≤ i → get_or t i no_attribute ≡ no_attribute
    no_attribute_past = then_none attribute_record_of no_attribute attributes_in k (class_with s room len c n k) t e

    pub no_attribute_after_refusal : (nr place : ℕ) → refuse nr place ≡ class_with s room len c n k → (i : ℕ) → get_or t i no_attribute ≡ no_attribute
    no_attribute_after_refusal = none_refused attribute_record_of no_attribute attributes_in k (class_with s room len c n k) t e
