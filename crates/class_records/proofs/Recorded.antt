-- The tables of records that are filled from the columns hold the accepted file's members and attributes. Assumes nothing.
use mathlib.Core.Path.{◌≡◌, refl, ap, sym, subst, ◌∙◌}
use mathlib.Core.List.{List, [], ◌∷◌, ◌++◌, map, map-append}
use Prim.Native.Nat.{ℕ, ◌+◌, ◌-◌, ◌≤◌}
use native.Mathlib.Omega.{arith}
use native.Mathlib.Nat.{min-le_left, le_trans}
use lib.ListN.{length, replicate, length-map}
use Rattle.reads.specs.Answer.{Answer, accept, refuse, mapped}
use Rattle.reads.specs.Tables.{padded, after}
use Rattle.attributes.specs.declared.Attribute.{Attribute as FramedAttribute}
use Rattle.class.specs.Members.{Whole}
use Rattle.class.specs.Class.{Class}
use Rattle.class.specs.Columns.{Flags, Names, Types, Firsts, Counts, number, Part, Titles, Bodies, Lengths, part, Columns, member_room, attribute_room, gathered, of_each, member_cells, attribute_cells, tabled}
use Rattle.records.specs.declared.Member.{Member}
use Rattle.records.specs.declared.Attribute.{Attribute}
use Rattle.records.specs.Records.{Numbers, members_from, none, Parts, attributes_from, no_attribute}
use Rattle.records.proofs.Zeros.{refused, attributes_refused}
use Rattle.records.proofs.Listed.{listed, attributes_listed}
use Rattle.class_records.specs.ClassRecords.{rooms_with, class_with, record_of, members_in, records_of, attribute_record_of, attributes_of, attributes_in, attribute_records_of}
use Rattle.class_records.proofs.Within.{class_fits}

-- the columns that hold numbers of members, and of attributes
abbrev pub numbers_in : Columns → Numbers
numbers_in d = record { flags = d.member Flags; names = d.member Names; types = d.member Types; firsts = d.member Firsts; counts = d.member Counts }

abbrev pub parts_in : Columns → Parts
parts_in d = record { titles = d.attribute Titles; bodies = d.attribute Bodies; lengths = d.attribute Lengths }

-- a column of attribute records holds one number of each attribute
one_each : (f : FramedAttribute → ℕ) (ws : List Whole) → gathered (of_each f) ws ≡ map f (attributes_of ws)
unfolding attributes_of
one_each f [] = refl
one_each f (w ∷ ws) = ap (λ (l : List ℕ). map f w.attributes ++ l) (one_each f ws) ∙ sym (map-append f w.attributes (attributes_of ws))

cells_are : (f : FramedAttribute → ℕ) (x : Class) → attribute_cells f x.tables ≡ map f (attributes_in x)
cells_are f x = ap (λ (l : List ℕ). l ++ map f x.tables.own) (one_each f (members_in x)) ∙ sym (map-append f (attributes_of (members_in x)) x.tables.own)

module _ (s : List ℕ) (room len n k : ℕ) (c : Columns) where
  -- no member and no attribute is without a record
  pub none_lost : (x : Class) → accept x ≡ class_with s room len c n k → (length (members_in x) ≤ n) × (length (attributes_in x) ≤ k)
  none_lost x e =
      let h = class_fits s (rooms_with room len c n k) x e in
      let m : length (member_cells (number Flags) x.tables) ≡ length (members_in x) = length-map (members_in x) (number Flags) in
      let l : length (attribute_cells (part Titles) x.tables) ≡ length (attributes_in x) = ap length (cells_are (part Titles) x) ∙ length-map (attributes_in x) (part Titles) in
      let a = subst (λ (j : ℕ). j ≤ n) m (le_trans (h.members (number Flags)) (min-le_left n (member_room c))) in
      (a, subst (λ (j : ℕ). j ≤ k) l (le_trans (h.attributes (part Titles)) (min-le_left k (attribute_room c))))

-- the columns after a call that answered so
abbrev columns_after : Columns → Answer Class → Columns
columns_after c a = tabled c (mapped (λ q. q.tables) a)

members_filled : (c : Columns) (n : ℕ) (a : Answer Class) → ((x : Class) → accept x ≡ a → length (members_in x) ≤ n) → members_from (numbers_in (columns_after c a)) 0 n ≡ after none records_of n a
unfolding padded
members_filled c n (accept x) h =
    let k = h x refl in
    let ws = members_in x in
    let e : n ≡ length ws + (n - length ws) = omega arith in
    ap (members_from (numbers_in (columns_after c (accept x))) 0) e
    ∙ listed (number Flags) (number Names) (number Types) (number Firsts) (number Counts) ws
    (length (c.member Flags)) (length (c.member Names)) (length (c.member Types)) (length (c.member Firsts)) (length (c.member Counts)) (n - length ws)
    ∙ ap (λ (j : ℕ). records_of x ++ replicate (n - j) none) (sym (length-map ws record_of))
members_filled c n (refuse nr place) h = refused (length (c.member Flags)) (length (c.member Names)) (length (c.member Types)) (length (c.member Firsts)) (length (c.member Counts)) 0 n

attributes_filled : (c : Columns) (n : ℕ) (a : Answer Class) → ((x : Class) → accept x ≡ a → length (attributes_in x) ≤ n) → attributes_from (parts_in (columns_after c a)) 0 n ≡ after no_attribute attribute_records_of n a
unfolding padded
attributes_filled c n (accept x) h =
    let k = h x refl in
    let ws = attributes_in x in
    let e : n ≡ length ws + (n - length ws) = omega arith in
    let cells : (j : Part) → (columns_after c (accept x)).attribute j ≡ padded 0 (length (c.attribute j)) (map (part j) ws) = λ j. ap (padded 0 (length (c.attribute j))) (cells_are (part j) x) in
    (λ i. attributes_from (record { titles = cells Titles i; bodies = cells Bodies i; lengths = cells Lengths i }) 0 (e i))
    ∙ attributes_listed (part Titles) (part Bodies) (part Lengths) ws (length (c.attribute Titles)) (length (c.attribute Bodies)) (length (c.attribute Lengths)) (n - length ws)
    ∙ ap (λ (j : ℕ). attribute_records_of x ++ replicate (n - j) no_attribute) (sym (length-map ws attribute_record_of))
attributes_filled c n (refuse nr place) h = attributes_refused (length (c.attribute Titles)) (length (c.attribute Bodies)) (length (c.attribute Lengths)) 0 n

module _ (s : List ℕ) (room len n k : ℕ) (c d : Columns) (e : d ≡ columns_after c (class_with s room len c n k)) where
  pub recorded : (t : List Member) → t ≡ members_from (numbers_in d) 0 n → t ≡ after none records_of n (class_with s room len c n k)
  recorded t f = f ∙ ap (λ (y : Columns). members_from (numbers_in y) 0 n) e ∙ members_filled c n (class_with s room len c n k) (λ x g. (none_lost s room len n k c x g).0)

  pub attributes_recorded : (t : List Attribute) → t ≡ attributes_from (parts_in d) 0 k → t ≡ after no_attribute attribute_records_of k (class_with s room len c n k)
  attributes_recorded t f = f ∙ ap (λ (y : Columns). attributes_from (parts_in y) 0 k) e ∙ attributes_filled c k (class_with s room len c n k) (λ x g. (none_lost s room len n k c x g).1)
