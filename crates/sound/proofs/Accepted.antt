-- An accepted file's tables are sound: every name slot is a Utf8 text of the pool, every body lies in the file, attribute records tile the file in order, records of members are contiguous. Assumes nothing.
use mathlib.Core.Path.{◌≡◌, refl, sym, subst}
use mathlib.Core.Bool.{Bool, true, false, not}
use mathlib.Core.List.{List, []}
use Prim.Native.Nat.{ℕ, zero, suc, ◌+◌}
use lib.ListN.{length}
use lib.Dec.{ltb, eqb}
use borrow.Author.Tests.{eqb-true}
use Rattle.reads.specs.Answer.{fine, accept}
use Rattle.reads.specs.Bytes.{u2}
use Rattle.reads.proofs.Answers.{same, first, held}
use Rattle.pool.specs.Pool.{Pool}
use Rattle.slot.specs.Slots.{utf8_at}
use Rattle.attributes.specs.declared.Attribute.{Attribute}
use Rattle.reads.specs.Records.{Many, records, column}
use Rattle.attributes.specs.Attributes.{record_at, body_end, framed}
use Rattle.attributes.specs.Sound.{Named, Tiles}
use Rattle.reads.proofs.Columns.{made}
use Rattle.attributes.proofs.Tiled.{named_by, tiled}
use Rattle.member.specs.declared.Sort.{Sort}
use Rattle.member.specs.declared.Member.{Member}
use Rattle.member.specs.Member.{twice, text_in, parts_at, member_at}
use Rattle.class.specs.Members.{Whole, Reached, whole_at, reach, members_of, sort_at, a_field, a_method}
use Rattle.class.specs.Class.{Rooms, Tables, Class, marked, end_at, own_at, tables_at, front_at, class_file}
use Rattle.sound.specs.Sound.{SoundMember, InOrder, SoundTables}

-- ---- one member

module _ (k : Sort) (p : Pool) where
  text_named : (nr place m : ℕ) → fine ≡ text_in k nr p place m → Named p m
  unfolding text_in
  text_named nr place m e = named_by p place m (first (utf8_at p place m) _ tt e).1

  parts_named : (at name type : ℕ) → fine ≡ parts_at k p at name type → Named p name × Named p type
  unfolding parts_at
  parts_named at name type e =
      let a = first (text_in k 10 p (at + 2) name) _ tt e in
      let b = first (text_in k 11 p (at + 4) type) _ tt a.2 in
      (text_named 10 (at + 2) name a.1, text_named 11 (at + 4) type b.1)

  member_named : (room n at : ℕ) (names types : List ℕ) (m : Member) → accept m ≡ member_at k p room n at names types → Named p m.name × Named p m.descriptor
  unfolding member_at
  member_named room n at names types m e =
      let t1 = first (u2 p.file at) _ m e in
      let t2 = first (u2 p.file (at + 2)) _ m t1.2 in
      let t3 = first (u2 p.file (at + 4)) _ m t2.2 in
      let t4 = first (parts_at k p at t2.0 t3.0) _ m t3.2 in
      let t5 = held (not (twice p t2.0 t3.0 names types)) 14 at _ m t4.2 in
      let t6 = held (ltb n room) 13 at _ m t5.1 in
      let t7 = first (u2 p.file (at + 6)) _ m t6.1 in
      subst (λ (x : Member). Named p x.name × Named p x.descriptor) (sym (same t7.2)) (parts_named at t2.0 t3.0 t4.1)

  member_sound : (room limit n : ℕ) (s : Reached) (w : Whole) → accept w ≡ whole_at k p room limit n s → SoundMember p s.at s.used w
  unfolding whole_at
  member_sound room limit n s w e =
      let t = first (member_at k p room n s.at s.names s.types) _ w e in
      let u = first (framed false p limit t.0.count s.used (s.at + 8)) _ w t.2 in
      let m = member_named room n s.at s.names s.types t.0 t.1 in
      subst (SoundMember p s.at s.used) (sym (same u.2))
      (record {
        name = m.0;
        descriptor = m.1;
        follows = refl;
        count = made (record_at false p limit) body_end t.0.count s.used (s.at + 8) u.0 u.1;
        tiles = tiled false p limit t.0.count s.used (s.at + 8) u.0 u.1;
      })

  -- ---- in order

  in_order : (room limit j n : ℕ) (s : Reached) (m : Many Whole Reached) → accept m ≡ members_of k p room limit j n s → InOrder p s.at s.used m.list m.end.at m.end.used
  unfolding records
  in_order room limit zero n s m e = subst (λ (x : Many Whole Reached). InOrder p s.at s.used x.list x.end.at x.end.used) (sym (same e)) (refl, refl)
  in_order room limit (suc j) n s m e =
      let t = first (whole_at k p room limit n s) _ m e in
      let u = first (records (whole_at k p room limit) reach j (n + 1) (reach t.0 s)) _ m t.2 in
      subst (λ (x : Many Whole Reached). InOrder p s.at s.used x.list x.end.at x.end.used) (sym (same u.2))
      (member_sound room limit n s t.0 t.1, in_order room limit j (n + 1) (reach t.0 s) u.0 u.1)

  sort_in_order : (room limit n at used : ℕ) (m : Many Whole Reached) → accept m ≡ sort_at k p room limit n at used → InOrder p (at + 2) used m.list m.end.at m.end.used
  unfolding sort_at
  sort_in_order room limit n at used m e =
      let t = first (u2 p.file at) _ m e in
      in_order room limit t.0 n (record { at = at + 2; used = used; names = []; types = [] }) m t.2

-- ---- all tables

module _ (p : Pool) where
  own_sound : (limit used at : ℕ) (m : Many Attribute ℕ) → accept m ≡ own_at p limit used at → Tiles p (at + 2) m.list (length p.file)
  unfolding own_at end_at
  own_sound limit used at m e =
      let t = first (u2 p.file at) _ m e in
      let u = first (framed true p limit t.0 used (at + 2)) _ m t.2 in
      let v = first (end_at p u.0.end (column (λ a. a.name) u.0) (column (λ a. a.start) u.0)) _ m u.2 in
      let h = held (eqb u.0.end (length p.file)) 18 u.0.end _ tt v.1 in
      let q : u.0.end ≡ length p.file = eqb-true _ _ h.0 in
      let x = tiled true p limit t.0 used (at + 2) u.0 u.1 in
      subst (λ (y : Many Attribute ℕ). Tiles p (at + 2) y.list (length p.file)) (sym (same v.2)) (subst (Tiles p (at + 2) u.0.list) q x)

  pub tables_sound : (interface : Bool) (room limit at : ℕ) (t : Tables) → accept t ≡ tables_at interface p room limit at → SoundTables p at t
  unfolding tables_at
  tables_sound interface room limit at t e =
      let f = first (sort_at a_field p room limit 0 at 0) _ t e in
      let m = first (sort_at (a_method interface) p room limit (length f.0.list) f.0.end.at f.0.end.used) _ t f.2 in
      let o = first (own_at p limit m.0.end.used m.0.end.at) _ t m.2 in
      subst (SoundTables p at) (sym (same o.2))
      (record {
        middle = f.0.end.at;
        made = f.0.end.used;
        last = m.0.end.at;
        fields = sort_in_order a_field p room limit 0 at 0 f.0 f.1;
        methods = sort_in_order (a_method interface) p room limit (length f.0.list) f.0.end.at f.0.end.used m.0 m.1;
        own = own_sound limit m.0.end.used m.0.end.at o.0 o.1;
      })

-- ---- the whole file

-- from the byte where the fields' number stands
pub class_sound : (s : List ℕ) (rooms : Rooms) (c : Class) → accept c ≡ class_file s rooms → SoundTables c.front.pool.pool c.front.next c.tables
unfolding class_file
class_sound s rooms c e =
    let f = first (front_at s rooms.cells rooms.interfaces) _ c e in
    let t = first (tables_at (marked f.0.head.flags) f.0.pool.pool rooms.members rooms.attributes f.0.next) _ c f.2 in
    subst (λ (x : Class). SoundTables x.front.pool.pool x.front.next x.tables) (sym (same t.2)) (tables_sound f.0.pool.pool (marked f.0.head.flags) rooms.members rooms.attributes f.0.next t.0 t.1)
