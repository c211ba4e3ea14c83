-- A class that is read with a part of the flags and of the attributes' names lent on: the room is the least of the columns' and of what may be used, and the cells after the part stay zero. Assumes nothing.
use mathlib.Core.Path.{◌≡◌, refl, ap, sym, subst, ◌∙◌}
use mathlib.Core.List.{List, ◌++◌, append_assoc}
use Prim.Native.Nat.{ℕ, zero, suc, ◌+◌, ◌-◌, ◌≤◌, min}
use native.Mathlib.Omega.{arith}
use native.Mathlib.Nat.{sub-zero, zero-sub, min-eq_right}
use lib.ListN.{length, take, drop, replicate, length-take, length-replicate, replicate-append-replicate}
use Rattle.reads.specs.Answer.{Answer, accept, refuse, mapped}
use Rattle.reads.specs.Tables.{padded, after}
use Rattle.reads.proofs.Answers.{first, whole_only}
use Rattle.attributes.specs.declared.Attribute.{Attribute}
use Rattle.class.specs.declared.Class.{Class as ClassValue}
use Rattle.class.specs.Members.{Whole}
use Rattle.class.specs.Class.{Rooms, Tables, Class, marked, front_at, tables_at, class_file}
use Rattle.class.specs.Columns.{Flags, Names, Types, Firsts, Counts, number, Titles, Bodies, Lengths, part, Columns, lent, member_room, attribute_room, member_cells, attribute_cells, tabled, rooms_of}
use Rattle.class.specs.Readings.{class_of}
use Rattle.class.proofs.Rows.{all_numbers, all_parts}
use Rattle.class.proofs.Tabled.{tables_in}
use Rattle.class_records.specs.ClassRecords.{rooms_with, class_with}

-- ---- an accepted file's members and attributes have their room

pub record Fits (rooms : Rooms) (t : Tables) : Type 0 where
  pub members : (f : Whole → ℕ) → length (member_cells f t) ≤ rooms.members
  pub attributes : (f : Attribute → ℕ) → length (attribute_cells f t) ≤ rooms.attributes

pub class_fits : (s : List ℕ) (rooms : Rooms) (x : Class) → accept x ≡ class_file s rooms → Fits rooms x.tables
unfolding class_file
class_fits s rooms x e =
    let f = first (front_at s rooms.cells rooms.interfaces) _ x e in
    let t = first (tables_at (marked f.0.head.flags) f.0.pool.pool rooms.members rooms.attributes f.0.next) _ x f.2 in
    let i = tables_in (marked f.0.head.flags) f.0.pool.pool rooms.members rooms.attributes f.0.next t.0 t.1 in
    let h : x ≡ record { front = f.0; tables = t.0 } = cc in
    rw h (record { members = i.0; attributes = i.1 })

-- where no table of records is shorter than its columns, the file is answered as `read_class` answers it
pub as_read_class : (s : List ℕ) (room len n k : ℕ) (c : Columns) → member_room c ≤ n → attribute_room c ≤ k → class_with s room len c n k ≡ class_file s (rooms_of room len c)
as_read_class s room len n k c h g = λ i. class_file s (record { cells = room; interfaces = len; members = min-eq_right h i; attributes = min-eq_right g i })

-- ---- a column of which a part is lent on

lengthened : {X : Type 0} (holds : X → List ℕ) (m k : ℕ) (x : Answer X) → ((a : X) → accept a ≡ x → length (holds a) ≤ m) → after 0 holds m x ++ replicate k 0 ≡ after 0 holds (m + k) x
unfolding padded
lengthened holds m k (accept a) h =
    let g = h a refl in
    let e : m - length (holds a) + k ≡ m + k - length (holds a) = omega arith in
    append_assoc (holds a) (replicate (m - length (holds a)) 0) (replicate k 0) ∙ ap (λ (l : List ℕ). holds a ++ l) (replicate-append-replicate (m - length (holds a)) k 0 ∙ ap (λ (j : ℕ). replicate j 0) e)
lengthened holds m k (refuse nr place) h = replicate-append-replicate m k 0

zeros_after : (m k : ℕ) → drop {A = ℕ} m (replicate k 0) ≡ replicate (k - m) 0
zeros_after zero k = ap (λ (j : ℕ). replicate {A = ℕ} j 0) (sym (sub-zero k))
zeros_after (suc m) zero = ap (λ (j : ℕ). replicate {A = ℕ} j 0) (sym (zero-sub (suc m)))
zeros_after (suc m) (suc k) =
    let e : k - m ≡ suc k - suc m = omega arith in
    zeros_after m k ∙ ap (λ (j : ℕ). replicate {A = ℕ} j 0) e

module _ (n m : ℕ) (column zeroed : List ℕ) (z : zeroed ≡ replicate (length column) 0) (e : m ≡ min n (length column)) where
  pub part_long : m ≡ length (take m zeroed)
  part_long =
      let l : length zeroed ≡ length column = ap length z ∙ length-replicate (length column) 0 in
      omega (arith, length-take m zeroed)

  -- with the zeros after it, it is the column after the call
  whole_column : {X : Type 0} (holds : X → List ℕ) (x : Answer X) (front : List ℕ) → front ≡ after 0 holds (length (take m zeroed)) x → ((a : X) → accept a ≡ x → length (holds a) ≤ m) → front ++ drop m zeroed ≡ after 0 holds (length column) x
  whole_column holds x front f h =
      let back : drop m zeroed ≡ replicate (length column - m) 0 = ap (drop m) z ∙ zeros_after m (length column) in
      let l : m + (length column - m) ≡ length column = omega (arith, e) in
      (λ i. f i ++ back i) ∙ ap (λ (j : ℕ). after 0 holds j x ++ replicate (length column - m) 0) (sym part_long) ∙ lengthened holds m (length column - m) x h ∙ ap (λ (j : ℕ). after 0 holds j x) l

min_assoc : (a b c : ℕ) → min (min a b) c ≡ min a (min b c)
min_assoc a b c = omega arith

-- ---- what the call leaves

module _ (s : List ℕ) (room len n k m j : ℕ) (c : Columns) (flags titles : List ℕ) (z : flags ≡ replicate (length (c.member Flags)) 0) (e : m ≡ min n (length (c.member Flags)))
    (y : titles ≡ replicate (length (c.attribute Titles)) 0) (g : j ≡ min k (length (c.attribute Titles))) where
  -- the columns with other flags and names of attributes
  abbrev with_these : List ℕ → List ℕ → Columns → Columns
  with_these a b d = lent a (d.member Names) (d.member Types) (d.member Firsts) (d.member Counts) b (d.attribute Bodies) (d.attribute Lengths)

  -- the columns that are lent on
  abbrev cut : Columns
  cut = with_these (take m flags) (take j titles) c

  fewer : member_room cut ≡ min n (member_room c)
  unfolding member_room
  fewer =
      let others = min (length (c.member Names)) (min (length (c.member Types)) (min (length (c.member Firsts)) (length (c.member Counts)))) in
      ap (λ (i : ℕ). min i others) (sym (part_long n m (c.member Flags) flags z e) ∙ e) ∙ min_assoc n (length (c.member Flags)) others

  fewer_attributes : attribute_room cut ≡ min k (attribute_room c)
  fewer_attributes =
      let bodies = length (c.attribute Bodies) in
      let lengths = length (c.attribute Lengths) in
      ap (λ (i : ℕ). min (min i bodies) lengths) (sym (part_long k j (c.attribute Titles) titles y g) ∙ g)
      ∙ ap (λ (i : ℕ). min i lengths) (min_assoc k (length (c.attribute Titles)) bodies)
      ∙ min_assoc k (min (length (c.attribute Titles)) bodies) lengths

  rooms : rooms_of room len cut ≡ rooms_with room len c n k
  rooms = λ i. record { cells = room; interfaces = len; members = fewer i; attributes = fewer_attributes i }

  -- the answer and the tables, where a call answered so
  abbrev Leaves : Columns → Answer ClassValue → List ℕ → List ℕ → Columns → Answer Class → Type 0
  Leaves into x table list d a = (x ≡ mapped class_of a)
      × ((table ≡ after 0 (λ q. q.front.pool.pool.cells) room a) × ((list ≡ after 0 (λ q. q.front.interfaces) len a) × (d ≡ tabled into (mapped (λ q. q.tables) a))))

  abbrev whole : Answer Tables
  whole = mapped (λ q. q.tables) (class_with s room len c n k)

  all_fit : (t : Tables) → accept t ≡ whole → Fits (rooms_with room len c n k) t
  all_fit t h =
      let w = whole_only (λ (q : Class). q.tables) (class_with s room len c n k) t h in
      subst (Fits (rooms_with room len c n k)) w.2 (class_fits s (rooms_with room len c n k) w.0 w.1)

  flags_fit : (t : Tables) → accept t ≡ whole → length (member_cells (number Flags) t) ≤ m
  unfolding member_room
  flags_fit t h = omega (arith, (all_fit t h).members (number Flags), e)

  titles_fit : (t : Tables) → accept t ≡ whole → length (attribute_cells (part Titles) t) ≤ j
  titles_fit t h = omega (arith, (all_fit t h).attributes (part Titles), g)

  pub within : (x : Answer ClassValue) (table list : List ℕ) (d : Columns) → Leaves cut x table list d (class_file s (rooms_of room len cut))
      → Leaves c x table list (with_these (d.member Flags ++ drop m flags) (d.attribute Titles ++ drop j titles) d) (class_with s room len c n k)
  within x table list d v =
      let u : Leaves cut x table list d (class_with s room len c n k) = subst (λ (r : Rooms). Leaves cut x table list d (class_file s r)) rooms v in
      let q = u.1.1.1 in
      let new = with_these (d.member Flags ++ drop m flags) (d.attribute Titles ++ drop j titles) d in
      let f = whole_column n m (c.member Flags) flags z e (member_cells (number Flags)) whole (d.member Flags) (λ i. (q i).member Flags) flags_fit in
      let t = whole_column k j (c.attribute Titles) titles y g (attribute_cells (part Titles)) whole (d.attribute Titles) (λ i. (q i).attribute Titles) titles_fit in
      let a = all_numbers (λ l. new.member l ≡ (tabled c whole).member l) f (λ i. (q i).member Names) (λ i. (q i).member Types) (λ i. (q i).member Firsts) (λ i. (q i).member Counts) in
      let b = all_parts (λ l. new.attribute l ≡ (tabled c whole).attribute l) t (λ i. (q i).attribute Bodies) (λ i. (q i).attribute Lengths) in
      (u.0, (u.1.0, (u.1.1.0, λ i. record { member = λ l. a l i; attribute = λ l. b l i })))
