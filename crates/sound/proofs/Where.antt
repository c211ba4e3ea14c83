-- An accepted class file's parts stand where document 01 says, and keep its rules. Assumes nothing.
use mathlib.Core.Path.{◌≡◌, refl, ap, sym, subst, ◌∙◌}
use mathlib.Core.Bool.{Bool, true, false, not, ◌&&◌, ◌||◌, true≢false}
use mathlib.Core.List.{List, [], ◌∷◌, ◌++◌, append-nil, append_assoc}
use Prim.Native.Nat.{ℕ, zero, suc, ◌+◌, ◌*◌, ◌<◌}
use native.Mathlib.Omega.{arith}
use lib.ListN.{length, get_or, length-map, get_or-append}
use lib.Seq.{get_or_at}
use lib.Dec.{ltb, eqb}
use borrow.Author.Tests.{ltb-true, eqb-true, eqb-false, ne_eqb}
use Rattle.reads.specs.Answer.{fine, accept, each}
use Rattle.reads.specs.Bytes.{num2, u2}
use Rattle.reads.proofs.Answers.{same, first, held, required, each_at}
use Rattle.reads.proofs.Leaves.{u2_is}
use Rattle.reads.proofs.Tables.{longer}
use Rattle.text.specs.Text.{is_text, binary}
use Rattle.text.proofs.Names.{decides}
use Rattle.pool.specs.Kinds as kind
use Rattle.pool.specs.Pool.{Pool, Whole as WholePool, read_pool, slots}
use Rattle.pool.proofs.Sets.{all_at}
use Rattle.slot.specs.Slots.{tag_of, field, bytes_of, of_kind, text_at, utf8_at, class_text}
use Rattle.checks.specs.Checks.{references, obey, checked, pool}
use Rattle.checks.proofs.Lower.{tagged}
use Rattle.attributes.specs.declared.Attribute.{Attribute}
use Rattle.reads.specs.Records.{Many, records, column}
use Rattle.attributes.specs.Attributes.{record_at, body_end, framed}
use Rattle.attributes.specs.Sound.{Named}
use Rattle.reads.proofs.Columns.{made}
use Rattle.member.specs.declared.Sort.{Sort}
use Rattle.member.specs.declared.Member.{Member}
use Rattle.member.specs.Member.{masked, good_name, good_type, good_text, good_shape, alike, twice, text_in, parts_at, member_at}
use Rattle.class_head.specs.declared.ClassHead.{ClassHead}
use Rattle.class_head.specs.Header.{class_at, super_at, head_at, interface_at, past, interfaces_at}
use Rattle.class.specs.Members.{Whole, Reached, whole_at, reach, members_of, begun_at, sort_at, a_field, a_method}
use Rattle.class.specs.Class.{Rooms, Front, Tables, Class, marked, end_at, own_at, tables_at, front_at, class_file}
use Rattle.sound.specs.Sound.{InOrder}
use Rattle.sound.specs.Where.{BinaryClass, SoundFront, RuledMember, Ruled, names, types, NoTwo, SoundClass}
use Rattle.sound.proofs.Accepted.{class_sound}

-- ---- classes

utf8_only : (t : ℕ) → kind.has (kind.set_of (kind.utf8 ∷ [])) t ≡ true → t ≡ kind.utf8
unfolding kind.has
utf8_only t e = eqb-true t kind.utf8 (all_at (kind.set_of (kind.utf8 ∷ [])) (λ u. eqb u kind.utf8) refl t e)

class_only : (t : ℕ) → kind.has (kind.set_of (kind.class ∷ [])) t ≡ true → t ≡ kind.class
unfolding kind.has
class_only t e = eqb-true t kind.class (all_at (kind.set_of (kind.class ∷ [])) (λ u. eqb u kind.class) refl t e)

module _ (p : Pool) (ok : fine ≡ checked p) where
  obeyed : (n : ℕ) → n < slots p → fine ≡ obey p n
  unfolding checked
  obeyed n l = each_at (slots p) 0 (λ n. obey p n) (first (each (slots p) 0 (λ n. references p n)) _ tt ok).2 n (omega arith) (omega arith)

  -- a Class entry of the pool names a Utf8 text
  class_named : (m : ℕ) → m < slots p → tag_of p m ≡ kind.class → Named p (field p m 1)
  unfolding obey class_text text_at of_kind
  class_named m l t =
      let e : fine ≡ class_text p m (field p m 1) = rw t at (obeyed m l) in
      let a = first (text_at p m (field p m 1)) _ tt e in
      let b = held (kind.has (kind.set_of (kind.utf8 ∷ [])) (tag_of p (field p m 1))) 8 m _ tt a.1 in
      let u = utf8_only (tag_of p (field p m 1)) b.0 in
      record { slot = tagged p (field p m 1) (λ z. absurd (omega (arith, u, z))); utf8 = u; text = required (is_text (bytes_of p (field p m 1))) 9 m b.1 }

  class_is : (place m : ℕ) → fine ≡ class_at p place m → BinaryClass p m
  unfolding class_at of_kind
  class_is place m e =
      let a = held (ltb m (slots p)) 7 place _ tt e in
      let b = held (kind.has (kind.set_of (kind.class ∷ [])) (tag_of p m)) 8 place _ tt a.1 in
      let l = ltb-true m (slots p) a.0 in
      let t = class_only (tag_of p m) b.0 in
      record { slot = l; class = t; name = class_named m l t; is_binary = required (binary (bytes_of p (field p m 1))) 10 place b.1 }

  super_is : (place m : ℕ) → fine ≡ super_at p place m → (m ≡ 0 → ⊥) → BinaryClass p m
  unfolding super_at
  super_is place m e d = class_is place m (rw (ne_eqb m 0 d) at e)

  -- flags, this and super
  record Head (at : ℕ) (h : ClassHead) : Type 0 where
    flags : h.flags ≡ num2 p.file at
    this : h.this ≡ num2 p.file (at + 2)
    super : h.parent ≡ num2 p.file (at + 4)
    this_class : BinaryClass p h.this
    super_class : (h.parent ≡ 0 → ⊥) → BinaryClass p h.parent

  head_is : (at : ℕ) (h : ClassHead) → accept h ≡ head_at p at → Head at h
  unfolding head_at
  head_is at h e =
      let f = first (u2 p.file at) _ h e in
      let t = first (u2 p.file (at + 2)) _ h f.2 in
      let c = first (class_at p (at + 2) t.0) _ h t.2 in
      let s = first (u2 p.file (at + 4)) _ h c.2 in
      let d = first (super_at p (at + 4) s.0) _ h s.2 in
      subst (Head at) (sym (same d.2))
      (record {
        flags = u2_is p.file at f.0 f.1;
        this = u2_is p.file (at + 2) t.0 t.1;
        super = u2_is p.file (at + 4) s.0 s.1;
        this_class = class_is (at + 2) t.0 c.1;
        super_class = super_is (at + 4) s.0 d.1;
      })

  -- interfaces: each is a u2 of its own
  record Listed (at : ℕ) (m : Many ℕ ℕ) : Type 0 where
    each_at_its : (i : ℕ) → i < length m.list → get_or m.list i 0 ≡ num2 p.file (at + 2 * i)
    each_class : (i : ℕ) → i < length m.list → BinaryClass p (get_or m.list i 0)
    ends : m.end ≡ at + 2 * length m.list

  one_more : (at : ℕ) (x : ℕ) (m : Many ℕ ℕ) → x ≡ num2 p.file at → BinaryClass p x → Listed (at + 2) m → Listed at (record { list = x ∷ m.list; end = m.end })
  one_more at x m e c l = record { each_at_its = number; each_class = classes; ends = let z = l.ends in omega arith }
    where
      number : (i : ℕ) → i < length (x ∷ m.list) → get_or (x ∷ m.list) i 0 ≡ num2 p.file (at + 2 * i)
      number zero h = let z : at + 2 * 0 ≡ at = omega arith in rw z e
      number (suc i) h = let z : at + 2 * suc i ≡ at + 2 + 2 * i = omega arith in rw z (l.each_at_its i (omega arith))

      classes : (i : ℕ) → i < length (x ∷ m.list) → BinaryClass p (get_or (x ∷ m.list) i 0)
      classes zero h = c
      classes (suc i) h = l.each_class i (omega arith)

  listed : (room k n at : ℕ) (m : Many ℕ ℕ) → accept m ≡ records (interface_at p room) past k n at → Listed at m
  unfolding records interface_at
  listed room zero n at m e = subst (Listed at) (sym (same e)) (record { each_at_its = λ i h. absurd (omega arith); each_class = λ i h. absurd (omega arith); ends = omega arith })
  listed room (suc k) n at m e =
      let t = first (interface_at p room n at) _ m e in
      let r = first (records (interface_at p room) past k (n + 1) (past t.0 at)) _ m t.2 in
      let x = first (u2 p.file at) _ t.0 t.1 in
      let c = first (class_at p at x.0) _ t.0 x.2 in
      let v = held (ltb n room) 13 at _ t.0 c.2 in
      let z : t.0 ≡ x.0 = same v.1 in
      subst (Listed at) (sym (same r.2)) (one_more at t.0 r.0 (z ∙ u2_is p.file at x.0 x.1) (subst (BinaryClass p) (sym z) (class_is at x.0 c.1)) (listed room k (n + 1) (at + 2) r.0 r.1))

-- ---- one member

module _ (k : Sort) (p : Pool) where
  name_good : (place m : ℕ) → fine ≡ text_in k 10 p place m → good_name k (bytes_of p m) ≡ true
  unfolding text_in good_text
  name_good place m e = required (good_name k (bytes_of p m)) 10 place (first (utf8_at p place m) _ tt e).2

  type_good : (place m : ℕ) → fine ≡ text_in k 11 p place m → good_type k (bytes_of p m) ≡ true
  unfolding text_in good_text
  type_good place m e = required (good_type k (bytes_of p m)) 11 place (first (utf8_at p place m) _ tt e).2

  was_false : (t : Bool) → not t ≡ true → t ≡ false
  was_false true e = absurd (true≢false (sym e))
  was_false false e = refl

  -- ... and it is none of those before it
  abbrev MemberIs : ℕ → List ℕ → List ℕ → Member → Type 0
  MemberIs at ns ts m = RuledMember k p at m × (twice p m.name m.descriptor ns ts ≡ false)

  member_is : (room n at : ℕ) (ns ts : List ℕ) (m : Member) → accept m ≡ member_at k p room n at ns ts → MemberIs at ns ts m
  unfolding member_at parts_at
  member_is room n at ns ts m e =
      let f = first (u2 p.file at) _ m e in
      let a = first (u2 p.file (at + 2)) _ m f.2 in
      let b = first (u2 p.file (at + 4)) _ m a.2 in
      let q = first (parts_at k p at a.0 b.0) _ m b.2 in
      let d = held (not (twice p a.0 b.0 ns ts)) 14 at _ m q.2 in
      let r = held (ltb n room) 13 at _ m d.1 in
      let c = first (u2 p.file (at + 6)) _ m r.1 in
      let x = first (text_in k 10 p (at + 2) a.0) _ tt q.1 in
      let y = first (text_in k 11 p (at + 4) b.0) _ tt x.2 in
      subst (MemberIs at ns ts) (sym (same c.2)) (
        record {
          flags = ap (masked k.method) (u2_is p.file at f.0 f.1);
          name = u2_is p.file (at + 2) a.0 a.1;
          descriptor = u2_is p.file (at + 4) b.0 b.1;
          count = u2_is p.file (at + 6) c.0 c.1;
          well_named = name_good (at + 2) a.0 x.1;
          well_described = type_good (at + 4) b.0 y.1;
          well_shaped = required (good_shape k p a.0 b.0) 15 at y.2;
        },
        was_false (twice p a.0 b.0 ns ts) d.0,
      )

  whole_is : (room limit n : ℕ) (r : Reached) (w : Whole) → accept w ≡ whole_at k p room limit n r → MemberIs r.at r.names r.types w.member
  unfolding whole_at
  whole_is room limit n r w e =
      let t = first (member_at k p room n r.at r.names r.types) _ w e in
      let u = first (framed false p limit t.0.count r.used (r.at + 8)) _ w t.2 in
      subst (λ (x : Whole). MemberIs r.at r.names r.types x.member) (sym (same u.2)) (member_is room n r.at r.names r.types t.0 t.1)

  -- ---- all of a sort

  ruled : (room limit j n : ℕ) (r : Reached) (m : Many Whole Reached) → accept m ≡ members_of k p room limit j n r → Ruled k p r.at m.list m.end.at
  unfolding records
  ruled room limit zero n r m e = subst (λ (x : Many Whole Reached). Ruled k p r.at x.list x.end.at) (sym (same e)) refl
  ruled room limit (suc j) n r m e =
      let t = first (whole_at k p room limit n r) _ m e in
      let u = first (records (whole_at k p room limit) reach j (n + 1) (reach t.0 r)) _ m t.2 in
      subst (λ (x : Many Whole Reached). Ruled k p r.at x.list x.end.at) (sym (same u.2))
      ((whole_is room limit n r t.0 t.1).0, ruled room limit j (n + 1) (reach t.0 r) u.0 u.1)

-- ---- no two of a sort are alike

module _ (p : Pool) where
  -- the names and descriptors at i and at j are not both alike
  abbrev Unlike : List ℕ → List ℕ → ℕ → ℕ → Type 0
  Unlike ns ts i j = bytes_of p (get_or ns i 0) ≡ bytes_of p (get_or ns j 0) → bytes_of p (get_or ts i 0) ≡ bytes_of p (get_or ts j 0) → ⊥

  abbrev AllUnlike : List ℕ → List ℕ → Type 0
  AllUnlike ns ts = (i j : ℕ) → i < j → j < length ns → Unlike ns ts i j

  alike_is : (m n : ℕ) → bytes_of p m ≡ bytes_of p n → alike p m n ≡ true
  unfolding alike
  alike_is m n e = sym (decides true (bytes_of p m) (bytes_of p n) (λ _. e, λ _. refl))

  or_false : (a b : Bool) → (a || b) ≡ false → (a ≡ false) × (b ≡ false)
  or_false true b e = absurd (true≢false e)
  or_false false b e = (refl, e)

  -- what is none of those before differs from each
  apart : (a b : ℕ) (ns ts : List ℕ) → length ns ≡ length ts → twice p a b ns ts ≡ false → (i : ℕ) → i < length ns → bytes_of p a ≡ bytes_of p (get_or ns i 0) → bytes_of p b ≡ bytes_of p (get_or ts i 0) → ⊥
  unfolding twice
  apart a b [] ts l e i h x y = omega arith
  apart a b (n ∷ ns) [] l e i h x y = omega arith
  apart a b (n ∷ ns) (t ∷ ts) l e zero h x y =
      let o = or_false (alike p a n && alike p b t) (twice p a b ns ts) e in
      true≢false (sym (rw (alike_is a n x, alike_is b t y) refl) ∙ o.0)
  apart a b (n ∷ ns) (t ∷ ts) l e (suc i) h x y =
      let o = or_false (alike p a n && alike p b t) (twice p a b ns ts) e in
      apart a b ns ts (omega arith) o.1 i (omega arith) x y

  grow : (a b : ℕ) (ns ts : List ℕ) → length ns ≡ length ts → AllUnlike ns ts → twice p a b ns ts ≡ false → AllUnlike (ns ++ a ∷ []) (ts ++ b ∷ [])
  grow a b ns ts l all e i j h m = go (eqb j (length ns)) refl
    where
      old : (i : ℕ) → i < length ns → (get_or (ns ++ a ∷ []) i 0 ≡ get_or ns i 0) × (get_or (ts ++ b ∷ []) i 0 ≡ get_or ts i 0)
      old i h = (get_or-append ns (a ∷ []) 0 i h, get_or-append ts (b ∷ []) 0 i (omega arith))

      go : (t : Bool) → eqb j (length ns) ≡ t → Unlike (ns ++ a ∷ []) (ts ++ b ∷ []) i j
      go true q x y =
          let z = eqb-true j (length ns) q in
          let o = old i (omega arith) in
          let u = get_or_at ns a [] 0 j (sym z) in
          let v = get_or_at ts b [] 0 j (omega arith) in
          apart a b ns ts l e i (omega arith) (sym (rw (o.0, u) at x)) (sym (rw (o.1, v) at y))
      go false q x y =
          let d = eqb-false j (length ns) q in
          let g = longer ns a in
          let o = old i (omega arith) in
          let u = old j (omega arith) in
          all i j h (omega arith) (rw (o.0, u.0) at x) (rw (o.1, u.1) at y)

  module _ (k : Sort) (room limit : ℕ) where
    abbrev After : Reached → List Whole → Type 0
    After r ws = AllUnlike (r.names ++ names ws) (r.types ++ types ws)

    unlike : (j n : ℕ) (r : Reached) (m : Many Whole Reached) → length r.names ≡ length r.types → AllUnlike r.names r.types → accept m ≡ members_of k p room limit j n r → After r m.list
    unfolding records
    unlike zero n r m l all e = subst (λ (x : Many Whole Reached). After r x.list) (sym (same e)) (rw (append-nil r.names, append-nil r.types) all)
    unlike (suc j) n r m l all e =
        let t = first (whole_at k p room limit n r) _ m e in
        let u = first (records (whole_at k p room limit) reach j (n + 1) (reach t.0 r)) _ m t.2 in
        let a = t.0.member.name in
        let b = t.0.member.descriptor in
        let g = grow a b r.names r.types l all (whole_is k p room limit n r t.0 t.1).1 in
        let h = unlike j (n + 1) (reach t.0 r) u.0 (omega (arith, longer r.names a, longer r.types b)) g u.1 in
        subst (λ (x : Many Whole Reached). After r x.list) (sym (same u.2)) (rw (append_assoc r.names (a ∷ []) (names u.0.list), append_assoc r.types (b ∷ []) (types u.0.list)) at h)

-- ---- the members of one sort

record Sorted (k : Sort) (p : Pool) (at : ℕ) (m : Many Whole Reached) : Type 0 where
  number : length m.list ≡ num2 p.file at
  all : Ruled k p (at + 2) m.list m.end.at
  none_twice : NoTwo p m.list

sort_is : (k : Sort) (p : Pool) (room limit n at used : ℕ) (m : Many Whole Reached) → accept m ≡ sort_at k p room limit n at used → Sorted k p at m
unfolding sort_at
sort_is k p room limit n at used m e =
    let t = first (u2 p.file at) _ m e in
    let u = unlike p k room limit t.0 n (begun_at (at + 2) used) m refl (λ i j h l. absurd (omega arith)) t.2 in
    record {
      number = made (whole_at k p room limit) reach t.0 n (begun_at (at + 2) used) m t.2 ∙ u2_is p.file at t.0 t.1;
      all = ruled k p room limit t.0 n (begun_at (at + 2) used) m t.2;
      none_twice = record { unlike = λ i j h l. u i j h (omega (arith, length-map m.list (λ w. w.member.name))) };
    }

-- members that end at one byte, told in two ways
ends_once : (k : Sort) (p : Pool) (at used : ℕ) (ws : List Whole) (end made end' : ℕ) → InOrder p at used ws end made → Ruled k p at ws end' → end' ≡ end
ends_once k p at used [] end made end' a b = sym b ∙ a.0
ends_once k p at used (w ∷ ws) end made end' a b = ends_once k p w.next (used + w.member.count) ws end made end' a.1 b.1

-- ---- all tables

record Tabled (interface : Bool) (p : Pool) (at : ℕ) (t : Tables) : Type 0 where
  middle : ℕ
  last : ℕ
  fields_number : length t.fields ≡ num2 p.file at
  fields : Ruled a_field p (at + 2) t.fields middle
  no_two_fields : NoTwo p t.fields
  methods_number : length t.methods ≡ num2 p.file middle
  methods : Ruled (a_method interface) p (middle + 2) t.methods last
  no_two_methods : NoTwo p t.methods
  own_number : length t.own ≡ num2 p.file last

own_number_is : (p : Pool) (limit used at : ℕ) (m : Many Attribute ℕ) → accept m ≡ own_at p limit used at → length m.list ≡ num2 p.file at
unfolding own_at
own_number_is p limit used at m e =
    let t = first (u2 p.file at) _ m e in
    let u = first (framed true p limit t.0 used (at + 2)) _ m t.2 in
    let v = first (end_at p u.0.end (column (λ a. a.name) u.0) (column (λ a. a.start) u.0)) _ m u.2 in
    ap (λ (y : Many Attribute ℕ). length y.list) (same v.2) ∙ made (record_at true p limit) body_end t.0 used (at + 2) u.0 u.1 ∙ u2_is p.file at t.0 t.1

tables_are : (interface : Bool) (p : Pool) (room limit at : ℕ) (t : Tables) → accept t ≡ tables_at interface p room limit at → Tabled interface p at t
unfolding tables_at
tables_are interface p room limit at t e =
    let f = first (sort_at a_field p room limit 0 at 0) _ t e in
    let m = first (sort_at (a_method interface) p room limit (length f.0.list) f.0.end.at f.0.end.used) _ t f.2 in
    let o = first (own_at p limit m.0.end.used m.0.end.at) _ t m.2 in
    let x = sort_is a_field p room limit 0 at 0 f.0 f.1 in
    let y = sort_is (a_method interface) p room limit (length f.0.list) f.0.end.at f.0.end.used m.0 m.1 in
    subst (Tabled interface p at) (sym (same o.2))
    (record {
      middle = f.0.end.at;
      last = m.0.end.at;
      fields_number = x.number;
      fields = x.all;
      no_two_fields = x.none_twice;
      methods_number = y.number;
      methods = y.all;
      no_two_methods = y.none_twice;
      own_number = own_number_is p limit m.0.end.used m.0.end.at o.0 o.1;
    })

-- ---- what stands before the members

checks_held : (s : List ℕ) (room : ℕ) (w : WholePool) → accept w ≡ pool s room → fine ≡ checked w.pool
unfolding pool
checks_held s room w e =
    let a = first (read_pool s room) _ w e in
    let c = first (checked a.0.pool) _ w a.2 in
    c.1 ∙ ap (λ (z : WholePool). checked z.pool) (sym (same c.2))

front_is : (s : List ℕ) (room len : ℕ) (f : Front) → accept f ≡ front_at s room len → SoundFront f
unfolding front_at interfaces_at
front_is s room len f e =
    let w = first (pool s room) _ f e in
    let h = first (head_at w.0.pool w.0.next) _ f w.2 in
    let i = first (interfaces_at w.0.pool len (w.0.next + 6)) _ f h.2 in
    let k = first (u2 w.0.pool.file (w.0.next + 6)) _ i.0 i.1 in
    let ok = checks_held s room w.0 w.1 in
    let a = head_is w.0.pool ok w.0.next h.0 h.1 in
    let z : w.0.next + 6 + 2 ≡ w.0.next + 8 = omega arith in
    let l = subst (λ (x : ℕ). Listed w.0.pool ok x i.0) z (listed w.0.pool ok len k.0 0 (w.0.next + 6 + 2) i.0 k.2) in
    subst SoundFront (sym (same i.2))
    (record {
      flags = a.flags;
      this = a.this;
      super = a.super;
      this_is = a.this_class;
      super_is = a.super_class;
      number = made (interface_at w.0.pool len) past k.0 0 (w.0.next + 6 + 2) i.0 k.2 ∙ u2_is w.0.pool.file (w.0.next + 6) k.0 k.1;
      interface = l.each_at_its;
      interface_is = l.each_class;
      fields_at = l.ends;
    })

-- ---- the whole file

record Both (c : Class) : Type 0 where
  front : SoundFront c.front
  tables : Tabled (marked c.front.head.flags) c.front.pool.pool c.front.next c.tables

both : (s : List ℕ) (rooms : Rooms) (c : Class) → accept c ≡ class_file s rooms → Both c
unfolding class_file
both s rooms c e =
    let f = first (front_at s rooms.cells rooms.interfaces) _ c e in
    let t = first (tables_at (marked f.0.head.flags) f.0.pool.pool rooms.members rooms.attributes f.0.next) _ c f.2 in
    subst Both (sym (same t.2)) (record { front = front_is s rooms.cells rooms.interfaces f.0 f.1; tables = tables_are (marked f.0.head.flags) f.0.pool.pool rooms.members rooms.attributes f.0.next t.0 t.1 })

pub class_stands : (s : List ℕ) (rooms : Rooms) (c : Class) → accept c ≡ class_file s rooms → SoundClass c
class_stands s rooms c e =
    let v = class_sound s rooms c e in
    let b = both s rooms c e in
    let t = b.tables in
    let p = c.front.pool.pool in
    let k = a_method (marked c.front.head.flags) in
    let m : t.middle ≡ v.middle = ends_once a_field p (c.front.next + 2) 0 c.tables.fields v.middle v.made t.middle v.fields t.fields in
    let g : Ruled k p (v.middle + 2) c.tables.methods t.last = subst (λ (z : ℕ). Ruled k p (z + 2) c.tables.methods t.last) m t.methods in
    let l : t.last ≡ v.last = ends_once k p (v.middle + 2) v.made c.tables.methods v.last c.tables.used t.last v.methods g in
    record {
      front = b.front;
      tables = v;
      fields_number = t.fields_number;
      fields = subst (Ruled a_field p (c.front.next + 2) c.tables.fields) m t.fields;
      no_two_fields = t.no_two_fields;
      methods_number = t.methods_number ∙ ap (num2 p.file) m;
      methods = subst (Ruled k p (v.middle + 2) c.tables.methods) l g;
      no_two_methods = t.no_two_methods;
      own_number = t.own_number ∙ ap (num2 p.file) l;
    }
