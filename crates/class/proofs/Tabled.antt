-- Fields, methods and the class's own attributes, in columns of their own. Assumes nothing.
use mathlib.Core.Path.{◌≡◌, refl, ap, sym, subst, ◌∙◌}
use mathlib.Core.Bool.{Bool}
use mathlib.Core.List.{List, [], ◌∷◌, ◌++◌, map, append_assoc}
use Prim.Native.Nat.{ℕ, zero, suc, ◌+◌, ◌≤◌}
use native.Mathlib.Omega.{arith}
use lib.ListN.{length, length-append}
use Rattle.reads.specs.Answer.{Answer, accept, refuse, mapped}
use Rattle.reads.specs.Bytes.{u2}
use Rattle.reads.proofs.Answers.{first, whole_only, refused_of}
use Rattle.reads.proofs.Answers as answers
use Rattle.pool.specs.Pool.{Pool}
use Rattle.attributes.specs.declared.Attribute.{Attribute}
use Rattle.reads.specs.Records.{Many, records, placed}
use Rattle.reads.proofs.Columns.{made, roomy}
use Rattle.member.specs.declared.Sort.{Sort}
use Rattle.reads.proofs.Placed.{placed_append}
use Rattle.class.specs.declared.Sorted.{Sorted}
use Rattle.class.specs.declared.Front.{Front}
use Rattle.class.specs.declared.Class.{Class}
use Rattle.class.specs.Members.{Whole, Reached, a_field, a_method, whole_at, reach, begun_at, members_of, sort_at}
use Rattle.class.specs.Class.{Tables, marked, class_flags, own_at, tables_at}
use Rattle.class.specs.Columns.{Number, Part, number, part, Columns, member_room, attribute_room, gathered, of_each, member_cells, attribute_cells}
use Rattle.reads.specs.Promise.{Accepted}
use Rattle.class.specs.Steps.{Long, Ready, after_many, after_records, after_all}
use Rattle.class.specs.Readings.{sorted_of, filled_of}
use Rattle.class.proofs.Rows.{map_length, whole_in, long_refl, long_placed, same_limit, same_room}
use Rattle.class.proofs.Own.{own_in}

-- ---- what is reached after members in order

record Ended (limit : ℕ) (s : Reached) (m : Many Whole Reached) : Type 0 where
  pub used : (f : Attribute → ℕ) → s.used + length (gathered (of_each f) m.list) ≡ m.end.used
  pub within : s.used ≤ limit → m.end.used ≤ limit
  pub behind : s.used ≤ s.at → m.end.used ≤ m.end.at

module _ (k : Sort) (p : Pool) (room limit : ℕ) where
  ended : (j n : ℕ) (s : Reached) (m : Many Whole Reached) → accept m ≡ members_of k p room limit j n s → Ended limit s m
  unfolding records
  ended zero n s m e =
      let h : m ≡ record { list = []; end = s } = cc in
      rw h (record { used = λ f. omega arith; within = λ l. l; behind = λ l. l })
  ended (suc j) n s m e =
      let t = first (whole_at k p room limit n s) _ m e in
      let u = first (records (whole_at k p room limit) reach j (n + 1) (reach t.0 s)) _ m t.2 in
      let h : m ≡ record { list = t.0 ∷ u.0.list; end = u.0.end } = cc in
      let i = whole_in k p room limit n s t.0 t.1 in
      let r = ended j (n + 1) (reach t.0 s) u.0 u.1 in
      rw h (record {
        used = λ f. (let l = length-append (of_each f t.0) (gathered (of_each f) u.0.list) in let g = map_length f t.0.attributes in omega (arith, r.used f, i.count));
        within = λ l. r.within (i.within l);
        behind = λ l. r.behind (omega (arith, i.moved));
      })

  -- from their number on
  record SortedIn (n at used : ℕ) (m : Many Whole Reached) : Type 0 where
    pub ends : Ended limit (begun_at at used) m
    pub fits : n ≤ room → n + length m.list ≤ room

  sorted_in : (n at used : ℕ) (m : Many Whole Reached) → accept m ≡ sort_at k p room limit n at used → SortedIn n (at + 2) used m
  unfolding sort_at
  sorted_in n at used m e =
      let t = first (u2 p.file at) _ m e in
      let s = begun_at (at + 2) used in
      let l = made (whole_at k p room limit) reach t.0 n s m t.2 in
      record {
        ends = ended t.0 n s m t.2;
        fits = λ h. (let r = roomy (whole_at k p room limit) reach room (λ j q w g. (whole_in k p room limit j q w g).fits) t.0 n s m t.2 h in omega arith);
      }

-- ---- cells of one list after the other

gathered_append : {R : Type 0} (g : R → List ℕ) (a b : List R) → gathered g (a ++ b) ≡ gathered g a ++ gathered g b
gathered_append g [] b = refl
gathered_append g (r ∷ a) b = ap (λ (l : List ℕ). g r ++ l) (gathered_append g a b) ∙ sym (append_assoc (g r) (gathered g a) (gathered g b))

map_append : {R : Type 0} (f : R → ℕ) (a b : List R) → map f (a ++ b) ≡ map f a ++ map f b
map_append f [] b = refl
map_append f (r ∷ a) b = ap (λ (l : List ℕ). f r ∷ l) (map_append f a b)

joined : (t xs ys : List ℕ) (n : ℕ) → n ≡ length xs → placed (placed t 0 xs) n ys ≡ placed t 0 (xs ++ ys)
joined t xs ys n e =
    let z : n ≡ 0 + length xs = omega arith in
    ap (λ (j : ℕ). placed (placed t 0 xs) j ys) z ∙ sym (placed_append t 0 xs ys)

-- ---- all of them have their room

pub tables_in : (interface : Bool) (p : Pool) (room limit at : ℕ) (t : Tables) → accept t ≡ tables_at interface p room limit at
    → ((f : Whole → ℕ) → length (member_cells f t) ≤ room) × ((f : Attribute → ℕ) → length (attribute_cells f t) ≤ limit)
unfolding tables_at
tables_in interface p room limit at t e =
    let x = first (sort_at a_field p room limit 0 at 0) _ t e in
    let y = first (sort_at (a_method interface) p room limit (length x.0.list) x.0.end.at x.0.end.used) _ t x.2 in
    let z = first (own_at p limit y.0.end.used y.0.end.at) _ t y.2 in
    let h : t ≡ record { fields = x.0.list; methods = y.0.list; used = y.0.end.used; own = z.0.list } = cc in
    let i = sorted_in a_field p room limit 0 at 0 x.0 x.1 in
    let j = sorted_in (a_method interface) p room limit (length x.0.list) x.0.end.at x.0.end.used y.0 y.1 in
    let m = j.fits (omega (arith, i.fits (omega arith))) in
    let o = own_in p limit y.0.end.used y.0.end.at z.0 z.1 (j.ends.within (i.ends.within (omega arith))) in
    let l = length-append x.0.list y.0.list in
    rw h (
      (λ f. (let a = map_length f (x.0.list ++ y.0.list) in omega (arith, a, l, m))),
      λ f.
          (let g = length-append (gathered (of_each f) x.0.list) (gathered (of_each f) y.0.list) in
          let k = ap length (gathered_append (of_each f) x.0.list y.0.list) in
          let q = length-append (gathered (of_each f) (x.0.list ++ y.0.list)) (map f z.0.list) in
          let n = map_length f z.0.list in
          omega (arith, g, k, q, n, i.ends.used f, j.ends.used f, o)),
    )

-- ---- the code's steps

module _ (f : Front) (p : Pool) (c : Columns) (interface : Bool) (ei : interface ≡ marked f.class.flags) (short : length p.file ≤ 16777216) where
  abbrev room : ℕ
  room = member_room c

  abbrev limit : ℕ
  limit = attribute_room c

  abbrev at : ℕ
  at = f.interfaces.next

  abbrev whole : Answer Tables
  whole = tables_at (marked f.class.flags) p room limit at

  -- what the call answers, and what it leaves where it accepts
  abbrev pub Leaves : Answer Class → Columns → Type 0
  Leaves x d = (x ≡ mapped (filled_of f) whole) × Accepted whole (after_all c) d

  as_asked : tables_at interface p room limit at ≡ whole
  as_asked = λ i. tables_at (ei i) p room limit at

  pub ready_fields : Ready p.file 0 at 0 c
  ready_fields = record { short = short; roomy = omega arith; behind = omega arith }

  abbrev fields : Answer (Many Whole Reached)
  fields = sort_at a_field p room limit 0 at 0

  fieldless : (nr place : ℕ) → refuse nr place ≡ fields → refuse nr place ≡ tables_at interface p room limit at
  unfolding tables_at
  fieldless nr place e = rw (← e)

  pub no_fields : (nr place : ℕ) → refuse nr place ≡ mapped sorted_of fields → refuse nr place ≡ whole
  no_fields nr place e = fieldless nr place (refused_of sorted_of fields nr place e) ∙ as_asked

  module _ (a : Sorted) (c₁ : Columns) (e₁ : accept a ≡ mapped sorted_of fields) (h₁ : Accepted fields (after_many c 0 0) c₁) where
    abbrev got_fields : (m : Many Whole Reached) × (accept m ≡ fields) × (sorted_of m ≡ a)
    got_fields = whole_only sorted_of fields a e₁

    abbrev fs : Many Whole Reached
    fs = got_fields.0

    in_fields : SortedIn a_field p room limit 0 (at + 2) 0 fs
    in_fields = sorted_in a_field p room limit 0 at 0 fs got_fields.1

    placed_fields : c₁ ≡ after_many c 0 0 fs
    placed_fields = h₁ fs got_fields.1

    long₁ : Long c₁ c
    long₁ = subst (λ (x : Columns). Long x c) (sym placed_fields) (long_placed c c 0 0 (λ g. map g fs.list) (λ g. gathered (of_each g) fs.list) (long_refl c))

    pub ready_methods : Ready p.file a.count a.at a.used c₁
    ready_methods =
        subst (λ (x : Sorted). Ready p.file x.count x.at x.used c₁) got_fields.2
        (record { short = short; roomy = omega (arith, in_fields.fits (omega arith), same_room c₁ c long₁); behind = in_fields.ends.behind (omega arith) })

    abbrev methods_of : ℕ → ℕ → Sorted → Answer (Many Whole Reached)
    methods_of r l x = sort_at (a_method interface) p r l x.count x.at x.used

    abbrev methods : Answer (Many Whole Reached)
    methods = methods_of (member_room c₁) (attribute_room c₁) a

    same₁ : methods ≡ methods_of room limit (sorted_of fs)
    same₁ = λ i. methods_of (same_room c₁ c long₁ i) (same_limit c₁ c long₁ i) (sym got_fields.2 i)

    methodless : (nr place : ℕ) → refuse nr place ≡ methods_of room limit (sorted_of fs) → refuse nr place ≡ tables_at interface p room limit at
    unfolding tables_at
    methodless nr place e = rw (← got_fields.1, ← e)

    pub no_methods : (nr place : ℕ) → refuse nr place ≡ mapped sorted_of methods → refuse nr place ≡ whole
    no_methods nr place e = methodless nr place (refused_of sorted_of methods nr place e ∙ same₁) ∙ as_asked

    module _ (b : Sorted) (c₂ : Columns) (e₂ : accept b ≡ mapped sorted_of methods) (h₂ : Accepted methods (after_many c₁ a.count a.used) c₂) where
      abbrev got_methods : (m : Many Whole Reached) × (accept m ≡ methods) × (sorted_of m ≡ b)
      got_methods = whole_only sorted_of methods b e₂

      abbrev ms : Many Whole Reached
      ms = got_methods.0

      in_methods : SortedIn (a_method interface) p room limit (length fs.list) (fs.end.at + 2) fs.end.used ms
      in_methods = sorted_in (a_method interface) p room limit (length fs.list) fs.end.at fs.end.used ms (got_methods.1 ∙ same₁)

      placed_methods : c₂ ≡ after_many (after_many c 0 0 fs) (length fs.list) fs.end.used ms
      placed_methods = h₂ ms got_methods.1 ∙ (λ i. after_many (placed_fields i) (sym got_fields.2 i).count (sym got_fields.2 i).used ms)

      long₂ : Long c₂ c
      long₂ =
          let l = long_placed c c 0 0 (λ g. map g fs.list) (λ g. gathered (of_each g) fs.list) (long_refl c) in
          subst (λ (x : Columns). Long x c) (sym placed_methods) (long_placed (after_many c 0 0 fs) c (length fs.list) fs.end.used (λ g. map g ms.list) (λ g. gathered (of_each g) ms.list) l)

      used_is : ms.end.used ≡ b.used
      used_is = ap (λ (x : Sorted). x.used) got_methods.2

      pub ready_own : (b.used ≤ b.at) × (b.used ≤ attribute_room c₂)
      ready_own = (
        subst (λ (x : Sorted). x.used ≤ x.at) got_methods.2 (in_methods.ends.behind (omega (arith, in_fields.ends.behind (omega arith)))),
        omega (arith, in_methods.ends.within (in_fields.ends.within (omega arith)), used_is, same_limit c₂ c long₂),
      )

      abbrev own_of : ℕ → Sorted → Answer (Many Attribute ℕ)
      own_of l x = own_at p l x.used x.at

      abbrev own : Answer (Many Attribute ℕ)
      own = own_of (attribute_room c₂) b

      same₂ : own ≡ own_of limit (sorted_of ms)
      same₂ = λ i. own_of (same_limit c₂ c long₂ i) (sym got_methods.2 i)

      ownless : (nr place : ℕ) → refuse nr place ≡ own_of limit (sorted_of ms) → refuse nr place ≡ tables_at interface p room limit at
      unfolding tables_at
      ownless nr place e = rw (← got_fields.1, ← (got_methods.1 ∙ same₁), ← e)

      pub no_own : (nr place : ℕ) → refuse nr place ≡ mapped (λ m. length m.list) own → refuse nr place ≡ whole
      no_own nr place e = ownless nr place (refused_of (λ (m : Many Attribute ℕ). length m.list) own nr place e ∙ same₂) ∙ as_asked

      complete : (o : Many Attribute ℕ) → accept o ≡ own_of limit (sorted_of ms) → accept (record { fields = fs.list; methods = ms.list; used = ms.end.used; own = o.list }) ≡ tables_at interface p room limit at
      unfolding tables_at
      complete o e = rw (← got_fields.1, ← (got_methods.1 ∙ same₁), ← e)

      member_column : (g : Whole → ℕ) (t : List ℕ) → placed (placed t 0 (map g fs.list)) (length fs.list) (map g ms.list) ≡ placed t 0 (map g (fs.list ++ ms.list))
      member_column g t = joined t (map g fs.list) (map g ms.list) (length fs.list) (sym (map_length g fs.list)) ∙ ap (placed t 0) (sym (map_append g fs.list ms.list))

      attribute_column : (g : Attribute → ℕ) (t : List ℕ) (o : List Attribute)
          → placed (placed (placed t 0 (gathered (of_each g) fs.list)) fs.end.used (gathered (of_each g) ms.list)) ms.end.used (map g o) ≡ placed t 0 (gathered (of_each g) (fs.list ++ ms.list) ++ map g o)
      attribute_column g t o =
          let x = gathered (of_each g) fs.list in
          let y = gathered (of_each g) ms.list in
          let n : fs.end.used ≡ length x = omega (arith, in_fields.ends.used g) in
          let z = sym (gathered_append (of_each g) fs.list ms.list) in
          let l : length (x ++ y) ≡ length x + length y = length-append x y in
          let m : ms.end.used ≡ length (gathered (of_each g) (fs.list ++ ms.list)) = omega (arith, in_methods.ends.used g, n, l, ap length z) in
          ap (λ (u : List ℕ). placed u ms.end.used (map g o)) (joined t x y fs.end.used n ∙ ap (placed t 0) z) ∙ joined t (gathered (of_each g) (fs.list ++ ms.list)) (map g o) ms.end.used m

      pub all_good : (k : ℕ) (masked : ℕ) (t : Part → List ℕ) → accept k ≡ mapped (λ m. length m.list) own → masked ≡ class_flags f.class.flags → Accepted own (after_records c₂.attribute b.used) t
          → Leaves (accept (record { slots = f.pool.slots; minor = f.pool.minor; major = f.pool.major; flags = masked; this = f.class.this; parent = f.class.parent; interfaces = f.interfaces.count; fields = a.count; methods = b.count; used = b.used; own = k }))
          (record { member = c₂.member; attribute = t })
      all_good k masked t e em h =
          let o = whole_only (λ (m : Many Attribute ℕ). length m.list) own k e in
          let w = complete o.0 (o.1 ∙ same₂) ∙ as_asked in
          let s : t ≡ after_records c₂.attribute b.used o.0 = h o.0 o.1 in
          let x : (j : Part) → t j ≡ placed (c.attribute j) 0 (gathered (of_each (part j)) (fs.list ++ ms.list) ++ map (part j) o.0.list) =
          λ j. (λ i. s i j) ∙ (λ i. placed ((placed_methods i).attribute j) (sym used_is i) (map (part j) o.0.list)) ∙ attribute_column (part j) (c.attribute j) o.0.list in
          let y : (j : Number) → c₂.member j ≡ placed (c.member j) 0 (map (number j) (fs.list ++ ms.list)) = λ j. (λ i. (placed_methods i).member j) ∙ member_column (number j) (c.member j) in
          let d : record { member = c₂.member; attribute = t } ≡ after_all c (record { fields = fs.list; methods = ms.list; used = ms.end.used; own = o.0.list }) = λ i. record { member = λ j. y j i; attribute = λ j. x j i } in
          let q = sym got_fields.2 in
          let r = sym got_methods.2 in
          let n = sym o.2 in (
            (λ i. accept (record { slots = f.pool.slots; minor = f.pool.minor; major = f.pool.major; flags = em i; this = f.class.this; parent = f.class.parent; interfaces = f.interfaces.count; fields = (q i).count; methods = (r i).count; used = (r i).used; own = n i }))
                ∙ ap (mapped (filled_of f)) w,
            λ u g. d ∙ ap (after_all c) (answers.same (w ∙ sym g)),
          )
