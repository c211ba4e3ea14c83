-- More room for interfaces, members or attributes changes nothing but a 13. Assumes nothing.
use mathlib.Core.Path.{◌≡◌, refl, ap, subst}
use mathlib.Core.List.{List}
use mathlib.Core.Bool.{Bool, true, false, not}
use Prim.Native.Nat.{ℕ, zero, suc, ◌+◌, ◌≤◌}
use native.Mathlib.Omega.{arith}
use lib.ListN.{length}
use lib.Dec.{ltb}
use borrow.Author.Tests.{ltb-true, lt-ltb}
use Rattle.reads.specs.Answer.{Answer, accept, refuse, ◌>>=◌, require}
use Rattle.reads.specs.Bytes.{u2}
use Rattle.pool.specs.Pool.{Pool}
use Rattle.checks.specs.Checks.{pool}
use Rattle.reads.specs.Records.{records}
use Rattle.attributes.specs.Attributes.{attribute_at, ruled, record_at, body_end, framed}
use Rattle.member.specs.Member.{twice, parts_at, member_at}
use Rattle.member.specs.declared.Sort.{Sort}
use Rattle.class_head.specs.Header.{class_at, head_at, interface_at, past, interfaces_at}
use Rattle.class.specs.Members.{Reached, a_field, a_method, begun_at, whole_at, reach, sort_at}
use Rattle.class.specs.Class.{Rooms, marked, front_at, own_at, tables_at, class_file}
use Rattle.exact.specs.Roomier.{Roomier, OrFull, alike, full}

-- ---- lines of a `do`

-- a line that is the same but for room, and lines after it that are
both : {A B : Type 0} (x y : Answer A) (f g : A → Answer B) → OrFull x y → ((a : A) → OrFull (f a) (g a)) → OrFull (x >>= f) (y >>= g)
both x y f g (full place e) h = full place (ap (λ z. z >>= f) e)
both x y f g (alike e) h = subst (λ (z : Answer _). OrFull (x >>= f) (z >>= g)) e (go x)
  where
    go : (z : Answer _) → OrFull (z >>= f) (z >>= g)
    go (accept a) = h a
    go (refuse nr place) = alike refl

-- the same line first
after : {A B : Type 0} (x : Answer A) (f g : A → Answer B) → ((a : A) → OrFull (f a) (g a)) → OrFull (x >>= f) (x >>= g)
after x f g h = both x x f g (alike refl) h

-- the same lines after it
before : {A B : Type 0} (x y : Answer A) (f : A → Answer B) → OrFull x y → OrFull (x >>= f) (y >>= f)
before x y f h = both x y f f h (λ a. alike refl)

room_first : {A : Type 0} (n room more at : ℕ) (x : Answer A) → room ≤ more → OrFull (require (ltb n room) 13 at >>= λ _. x) (require (ltb n more) 13 at >>= λ _. x)
room_first n room more at x l = go (ltb n room) refl
  where
    go : (t : Bool) → ltb n room ≡ t → OrFull (require t 13 at >>= λ _. x) (require (ltb n more) 13 at >>= λ _. x)
    go true q = let k = ltb-true n room q in alike (rw (lt-ltb n more (omega arith)) refl)
    go false q = full at refl

many : {R S : Type 0} (judge judge' : ℕ → S → Answer R) (reach : R → S → S) → ((n : ℕ) (s : S) → OrFull (judge n s) (judge' n s)) → (k n : ℕ) (s : S) → OrFull (records judge reach k n s) (records judge' reach k n s)
unfolding records
many judge judge' reach h zero n s = alike refl
many judge judge' reach h (suc k) n s = both (judge n s) (judge' n s) _ _ (h n s) (λ r. before (records judge reach k (n + 1) (reach r s)) (records judge' reach k (n + 1) (reach r s)) _ (many judge judge' reach h k (n + 1) (reach r s)))

-- ---- interfaces, members, attributes

module _ (p : Pool) (room more : ℕ) (l : room ≤ more) where
  interface_more : (n at : ℕ) → OrFull (interface_at p room n at) (interface_at p more n at)
  unfolding interface_at
  interface_more n at = after (u2 p.file at) _ _ (λ m. after (class_at p at m) _ _ (λ _. room_first n room more at _ l))

  interfaces_more : (at : ℕ) → OrFull (interfaces_at p room at) (interfaces_at p more at)
  unfolding interfaces_at
  interfaces_more at = after (u2 p.file at) _ _ (λ k. many (interface_at p room) (interface_at p more) past interface_more k 0 (at + 2))

  record_more : (own : Bool) (n at : ℕ) → OrFull (record_at own p room n at) (record_at own p more n at)
  unfolding record_at
  record_more own n at = after (attribute_at p at) _ _ (λ a. after (ruled own p at a) _ _ (λ _. room_first n room more at _ l))

  framed_more : (own : Bool) (k n at : ℕ) → OrFull (framed own p room k n at) (framed own p more k n at)
  framed_more own k n at = many (record_at own p room) (record_at own p more) body_end (record_more own) k n at

  own_more : (used at : ℕ) → OrFull (own_at p room used at) (own_at p more used at)
  unfolding own_at
  own_more used at = after (u2 p.file at) _ _ (λ k. before (framed true p room k used (at + 2)) (framed true p more k used (at + 2)) _ (framed_more true k used (at + 2)))

  member_more : (k : Sort) (n at : ℕ) (names types : List ℕ) → OrFull (member_at k p room n at names types) (member_at k p more n at names types)
  unfolding member_at
  member_more k n at names types =
      after (u2 p.file at) _ _ (λ flags.
      after (u2 p.file (at + 2)) _ _ (λ name.
      after (u2 p.file (at + 4)) _ _ (λ type.
      after (parts_at k p at name type) _ _ (λ _.
      after (require (not (twice p name type names types)) 14 at) _ _ (λ _. room_first n room more at _ l)))))

module _ (p : Pool) (room more limit further : ℕ) (l : room ≤ more) (h : limit ≤ further) where
  whole_more : (k : Sort) (n : ℕ) (r : Reached) → OrFull (whole_at k p room limit n r) (whole_at k p more further n r)
  unfolding whole_at
  whole_more k n r =
      both (member_at k p room n r.at r.names r.types) (member_at k p more n r.at r.names r.types) _ _ (member_more p room more l k n r.at r.names r.types) (λ m.
      before (framed false p limit m.count r.used (r.at + 8)) (framed false p further m.count r.used (r.at + 8)) _ (framed_more p limit further h false m.count r.used (r.at + 8)))

  sort_more : (k : Sort) (n at used : ℕ) → OrFull (sort_at k p room limit n at used) (sort_at k p more further n at used)
  unfolding sort_at
  sort_more k n at used = after (u2 p.file at) _ _ (λ j. many (whole_at k p room limit) (whole_at k p more further) reach (whole_more k) j n (begun_at (at + 2) used))

  tables_more : (interface : Bool) (at : ℕ) → OrFull (tables_at interface p room limit at) (tables_at interface p more further at)
  unfolding tables_at
  tables_more interface at =
      both (sort_at a_field p room limit 0 at 0) (sort_at a_field p more further 0 at 0) _ _ (sort_more a_field 0 at 0) (λ fs.
      both (sort_at (a_method interface) p room limit (length fs.list) fs.end.at fs.end.used) (sort_at (a_method interface) p more further (length fs.list) fs.end.at fs.end.used) _ _ (sort_more (a_method interface) (length fs.list) fs.end.at fs.end.used) (λ ms.
      before (own_at p limit ms.end.used ms.end.at) (own_at p further ms.end.used ms.end.at) _ (own_more p limit further h ms.end.used ms.end.at)))

-- ---- the file

module _ (s : List ℕ) where
  front_more : (cells room more : ℕ) → room ≤ more → OrFull (front_at s cells room) (front_at s cells more)
  unfolding front_at
  front_more cells room more l =
      after (pool s cells) _ _ (λ w.
      after (head_at w.pool w.next) _ _ (λ h.
      before (interfaces_at w.pool room (w.next + 6)) (interfaces_at w.pool more (w.next + 6)) _ (interfaces_more w.pool room more l (w.next + 6))))

  same_cells : (rooms more : Rooms) → rooms.interfaces ≤ more.interfaces → rooms.members ≤ more.members → rooms.attributes ≤ more.attributes → (cells : ℕ) → rooms.cells ≡ cells → OrFull (front_at s rooms.cells rooms.interfaces) (front_at s cells more.interfaces)
  same_cells rooms more i m a cells e = subst (λ (c : ℕ). OrFull (front_at s rooms.cells rooms.interfaces) (front_at s c more.interfaces)) e (front_more rooms.cells rooms.interfaces more.interfaces i)

  pub class_room : (rooms more : Rooms) → Roomier rooms more → OrFull (class_file s rooms) (class_file s more)
  unfolding class_file
  class_room rooms more r =
      both (front_at s rooms.cells rooms.interfaces) (front_at s more.cells more.interfaces) _ _ (same_cells rooms more r.interfaces r.members r.attributes more.cells r.cells) (λ f.
      before (tables_at (marked f.head.flags) f.pool.pool rooms.members rooms.attributes f.next) (tables_at (marked f.head.flags) f.pool.pool more.members more.attributes f.next) _
      (tables_more f.pool.pool rooms.members more.members rooms.attributes more.attributes r.members r.attributes (marked f.head.flags) f.next))
