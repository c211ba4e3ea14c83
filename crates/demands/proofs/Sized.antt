-- With the room that luohtemik_tables.h computes from a file's size no class is refused for want of room: never 5, never 13. Assumes nothing.
use mathlib.Core.Path.{◌≡◌, refl, ap, sym, ◌∙◌}
use mathlib.Core.Bool.{Bool, false≢true, true, false, not, ◌&&◌}
use mathlib.Core.List.Memᴰ
use mathlib.Core.List.{List, [], ◌∷◌, ◌++◌}
use mathlib.Core.Logic.{⊎_elim}
use Prim.Native.Nat.{ℕ, zero, suc, ◌+◌, ◌*◌, ◌/◌, ◌≤◌, ◌<◌, min}
use native.Mathlib.Omega.{arith}
use lib.ListN.{length}
use lib.Dec.{ltb, eqb}
use borrow.Author.Tests.{lt-ltb, eq-eqb}
use Rattle.reads.specs.Answer.{Answer, accept, refuse, require}
use Rattle.reads.specs.Bytes.{u2, u4, skipped}
use Rattle.reads.proofs.Answers.{same, first}
use Rattle.reads.proofs.Leaves.{Bytes, pair_below, u2_in, u2_is, u4_in}
use Rattle.text.proofs.Laws.{and_both}
use Rattle.pool.specs.Pool.{Pool}
use Rattle.pool.proofs.Slots.{its_file}
use Rattle.slot.specs.Slots.{utf8_at}
use Rattle.checks.specs.Checks.{pool}
use Rattle.checks.proofs.Room.{was_read, enough}
use Rattle.reach.specs.Reach.{◌∈◌}
use Rattle.reads.specs.Records.{Many, records, column}
use Rattle.attributes.specs.Attributes.{attribute_at, ruled, record_at, body_end, framed}
use Rattle.attributes.specs.declared.Attribute.{Attribute}
use Rattle.attributes.proofs.Tiled.{record_sound, tiled, tiles_far}
use Rattle.reads.proofs.Columns.{made}
use Rattle.member.specs.declared.Sort.{Sort}
use Rattle.member.specs.Member.{good_shape, twice, text_in, parts_at, member_at}
use Rattle.class_head.specs.Header.{class_at, head_at, interface_at, past, interfaces_at}
use Rattle.class.specs.Members.{Whole, Reached, a_field, a_method, whole_at, reach, begun_at, sort_at}
use Rattle.class.specs.Class.{Rooms, marked, front_at, end_at, own_at, tables_at, class_file}
use Rattle.class.proofs.Fronts.{front_pool, not_too_long}
use Rattle.byte_tables.proofs.Rooms.{read_same, enough_few}
use Rattle.demands.specs.Calls.{Refuses, Only}
use Rattle.demands.specs.Numbers.{of_read, of_unbounded, of_checks, of_class, of_head, of_index, of_body, of_indices}
use Rattle.demands.proofs.Only.{done, then, need, pick, weaken, less, only}
use Rattle.demands.proofs.Numbered.{u2_at, u4_at, skipped_at, pool_only}
use Rattle.demands.proofs.NumberedClass.{own_only, indices_only, index_of_at, text_in_at, class_only_at, head_only}

-- ---- the room: LUO_ROOM_SLOTS, LUO_ROOM_INTERFACES, LUO_ROOM_MEMBERS and LUO_ROOM_ATTRIBUTES

abbrev pub room_for : ℕ → Rooms
room_for size = record {
  cells = min (size / 3 + 2) 65536;
  interfaces = min (size / 2 + 1) 65535;
  members = min (size / 8 + 1) 131070;
  attributes = min size 16777216 / 6 + 1;
}

-- a refusal is not for want of room
abbrev Roomy : {A : Type 0} → Answer A → Type 0
Roomy x = Refuses (λ nr place. (nr ≡ 5 → ⊥) × (nr ≡ 13 → ⊥)) x

-- ---- numbers that are neither

abbrev other : List ℕ → Bool
other [] = true
other (m ∷ ms) = (not (eqb m 5) && not (eqb m 13)) && other ms

unlike : (m k : ℕ) → not (eqb m k) ≡ true → m ≡ k → ⊥
unlike m k h e = false≢true (rw (eq-eqb m k e) at h)

others : (ms : List ℕ) → other ms ≡ true → (n : ℕ) → n ∈ ms → (n ≡ 5 → ⊥) × (n ≡ 13 → ⊥)
others [] h n k = absurd (Memᴰ.not-nil k)
others (m ∷ ms) h n k =
    let b = and_both (not (eqb m 5) && not (eqb m 13)) (other ms) h in
    let c = and_both (not (eqb m 5)) (not (eqb m 13)) b.0 in
    ⊎_elim (λ e. rw e (unlike m 5 c.0, unlike m 13 c.1)) (λ l. others ms b.1 n l) (Memᴰ.cases_cons k)

free : {A : Type 0} (ms : List ℕ) {x : Answer A} → Only ms x → other ms ≡ true → Roomy x
free ms p h = weaken (λ nr place m. others ms h nr m) p

passes : (t : Bool) (nr place : ℕ) → t ≡ true → Roomy (require t nr place)
passes true nr place h = done tt
passes false nr place h = absurd (false≢true h)

-- ---- records, each by its number

module _ {R S : Type 0} (I : ℕ → S → Type 0) (judge : ℕ → S → Answer R) (go : R → S → S) (on : (n : ℕ) (s : S) (r : R) → I n s → accept r ≡ judge n s → I (n + 1) (go r s)) where
  all_roomy : (end k n : ℕ) (s : S) → n + k ≡ end → I n s → ((n : ℕ) (s : S) → n < end → I n s → Roomy (judge n s)) → Roomy (records judge go k n s)
  unfolding records
  all_roomy end zero n s l i h = done _
  all_roomy end (suc k) n s l i h = then (judge n s) _ (h n s (omega arith) i) (λ r e.
      then (records judge go k (n + 1) (go r s)) _ (all_roomy end k (n + 1) (go r s) (omega arith) (on n s r i e) h) (λ _ _. done _))

  reached : (end k n : ℕ) (s : S) (m : Many R S) → n + k ≡ end → I n s → accept m ≡ records judge go k n s → I end m.end
  unfolding records
  reached end zero n s m l i e =
      let q : m.end ≡ s = ap (λ (x : Many _ _). x.end) (same e) in
      let z : end ≡ n = omega arith in
      rw (q, z) i
  reached end (suc k) n s m l i e =
      let a = first (judge n s) _ m e in
      let b = first (records judge go k (n + 1) (go a.0 s)) _ m a.2 in
      let q : m.end ≡ b.0.end = ap (λ (x : Many _ _). x.end) (same b.2) in
      rw q (reached end k (n + 1) (go a.0 s) b.0 (omega arith) (on n s a.0 i a.1) b.1)

-- ---- reads

module _ (s : List ℕ) (at : ℕ) where
  u2_roomy : Roomy (u2 s at)
  u2_roomy = free of_read (only (u2_at s at)) refl

  u4_roomy : Roomy (u4 s at)
  u4_roomy = free of_read (only (u4_at s at)) refl

  skipped_roomy : (n : ℕ) → Roomy (skipped s at n)
  skipped_roomy n = free of_read (only (skipped_at s at n)) refl

few : (s : List ℕ) → Bytes s → (at v : ℕ) → accept v ≡ u2 s at → v < 65536
few s b at v e = omega (arith, u2_is s at v e, pair_below s b at)

-- ---- attributes: six bytes each

module _ (p : Pool) (limit : ℕ) (room : length p.file < 6 * limit) where
  abbrev Behind : ℕ → ℕ → Type 0
  Behind n at = 6 * n ≤ at

  attribute_roomy : (at : ℕ) → Roomy (attribute_at p at)
  unfolding attribute_at
  attribute_roomy at =
      then (u2 p.file at) _ (u2_roomy p.file at) (λ m _.
      then (utf8_at p at m) _ (free of_index (only (index_of_at p at m)) refl) (λ _ _.
      then (u4 p.file (at + 2)) _ (u4_roomy p.file (at + 2)) (λ size _.
      then (skipped p.file (at + 6) size) _ (skipped_roomy p.file (at + 6) size) (λ _ _. done _))))

  six : (at : ℕ) (a : Attribute) → accept a ≡ attribute_at p at → at + 6 ≤ length p.file
  unfolding attribute_at
  six at a e =
      let m = first (u2 p.file at) _ a e in
      let n = first (utf8_at p at m.0) _ a m.2 in
      let t = first (u4 p.file (at + 2)) _ a n.2 in
      omega (arith, u4_in p.file (at + 2) t.0 t.1)

  record_roomy : (own : Bool) (n at : ℕ) → Behind n at → Roomy (record_at own p limit n at)
  unfolding record_at ruled
  record_roomy own n at i =
      then (attribute_at p at) _ (attribute_roomy at) (λ a e.
      then (ruled own p at a) _ (pick own _ _ (free of_body (own_only p at a.name a.start a.size) refl) (done _)) (λ _ _.
      then (require (ltb n limit) 13 at) _ (passes (ltb n limit) 13 at (lt-ltb n limit (omega (arith, i, room, six at a e)))) (λ _ _. done _)))

  record_on : (own : Bool) (n at : ℕ) (a : Attribute) → Behind n at → accept a ≡ record_at own p limit n at → Behind (n + 1) (body_end a at)
  record_on own n at a i e = omega (arith, i, (record_sound own p limit n at a e).begins)

  framed_roomy : (own : Bool) (k n at : ℕ) → Behind n at → Roomy (framed own p limit k n at)
  framed_roomy own k n at i = all_roomy Behind (record_at own p limit) body_end (record_on own) (n + k) k n at refl i (λ n at _ i. record_roomy own n at i)

-- ---- members: eight bytes each

module _ (p : Pool) (b : Bytes p.file) (limit : ℕ) (room-a : length p.file < 6 * limit) (room : ℕ) (room-m : min (length p.file / 8 + 1) 131070 ≤ room) (k : Sort) where
  abbrev Placed : ℕ → Reached → Type 0
  Placed n s = (8 * n ≤ s.at) × (6 * s.used ≤ s.at)

  parts_roomy : (at name type : ℕ) → Roomy (parts_at k p at name type)
  unfolding parts_at
  parts_roomy at name type =
      then (text_in k 10 p (at + 2) name) _ (free (10 ∷ of_index) (only (text_in_at k p 10 (at + 2) name refl refl)) refl) (λ _ _.
      then (text_in k 11 p (at + 4) type) _ (free (11 ∷ of_index) (only (text_in_at k p 11 (at + 4) type refl refl)) refl) (λ _ _.
      free (15 ∷ []) (need (good_shape k p name type) 15 at refl) refl))

  member_roomy : (n at : ℕ) (names types : List ℕ) → 8 * n ≤ at → n < 131070 → Roomy (member_at k p room n at names types)
  unfolding member_at
  member_roomy n at names types i l =
      then (u2 p.file at) _ (u2_roomy p.file at) (λ flags e.
      then (u2 p.file (at + 2)) _ (u2_roomy p.file (at + 2)) (λ name _.
      then (u2 p.file (at + 4)) _ (u2_roomy p.file (at + 4)) (λ type _.
      then (parts_at k p at name type) _ (parts_roomy at name type) (λ _ _.
      then (require (not (twice p name type names types)) 14 at) _ (free (14 ∷ []) (need (not (twice p name type names types)) 14 at refl) refl) (λ _ _.
      then (require (ltb n room) 13 at) _ (passes (ltb n room) 13 at (lt-ltb n room (omega (arith, i, l, room-m, u2_in p.file at flags e)))) (λ _ _.
      then (u2 p.file (at + 6)) _ (u2_roomy p.file (at + 6)) (λ _ _. done _)))))))

  whole_roomy : (n : ℕ) (s : Reached) → n < 131070 → Placed n s → Roomy (whole_at k p room limit n s)
  unfolding whole_at
  whole_roomy n s l i =
      then (member_at k p room n s.at s.names s.types) _ (member_roomy n s.at s.names s.types i.0 l) (λ m _.
      then (framed false p limit m.count s.used (s.at + 8)) _ (framed_roomy p limit room-a false m.count s.used (s.at + 8) (omega (arith, i.1))) (λ _ _. done _))

  whole_on : (n : ℕ) (s : Reached) (w : Whole) → Placed n s → accept w ≡ whole_at k p room limit n s → Placed (n + 1) (reach w s)
  unfolding whole_at
  whole_on n s w i e =
      let t = first (member_at k p room n s.at s.names s.types) _ w e in
      let u = first (framed false p limit t.0.count s.used (s.at + 8)) _ w t.2 in
      let x = tiles_far p (s.at + 8) u.0.list u.0.end (tiled false p limit t.0.count s.used (s.at + 8) u.0 u.1) in
      let c = made (record_at false p limit) body_end t.0.count s.used (s.at + 8) u.0 u.1 in
      let y = ap (λ (v : Whole). v.next) (same u.2) in
      let z = ap (λ (v : Whole). v.member.count) (same u.2) in
      (omega (arith, i.0, x, y), omega (arith, i.1, x, c, y, z))

  sort_roomy : (n at used : ℕ) → n ≤ 65535 → 8 * n ≤ at → 6 * used ≤ at → Roomy (sort_at k p room limit n at used)
  unfolding sort_at
  sort_roomy n at used l i j =
      then (u2 p.file at) _ (u2_roomy p.file at) (λ c e.
      all_roomy Placed (whole_at k p room limit) reach whole_on (n + c) c n (begun_at (at + 2) used) refl (omega (arith, i), omega (arith, j))
      (λ m s h v. whole_roomy m s (omega (arith, h, l, few p.file b at c e)) v))

  sort_reached : (n at used : ℕ) (m : Many Whole Reached) → 8 * n ≤ at → 6 * used ≤ at → accept m ≡ sort_at k p room limit n at used → Placed (n + length m.list) m.end × (length m.list ≤ 65535)
  unfolding sort_at
  sort_reached n at used m i j e =
      let t = first (u2 p.file at) _ m e in
      let c = made (whole_at k p room limit) reach t.0 n (begun_at (at + 2) used) m t.2 in
      let r = reached Placed (whole_at k p room limit) reach whole_on (n + length m.list) t.0 n (begun_at (at + 2) used) m (omega (arith, c)) (omega (arith, i), omega (arith, j)) t.2 in
      (r, omega (arith, c, few p.file b at t.0 t.1))

-- ---- all tables

module _ (p : Pool) (b : Bytes p.file) (limit : ℕ) (room-a : length p.file < 6 * limit) (room : ℕ) (room-m : min (length p.file / 8 + 1) 131070 ≤ room) where
  end_roomy : (end : ℕ) (names bodies : List ℕ) → Roomy (end_at p end names bodies)
  unfolding end_at
  end_roomy end names bodies =
      then (require (eqb end (length p.file)) 18 end) _ (free (18 ∷ []) (need (eqb end (length p.file)) 18 end refl) refl) (λ _ _.
      free of_indices (indices_only p names bodies) refl)

  own_roomy : (used at : ℕ) → 6 * used ≤ at → Roomy (own_at p limit used at)
  unfolding own_at
  own_roomy used at i =
      then (u2 p.file at) _ (u2_roomy p.file at) (λ k _.
      then (framed true p limit k used (at + 2)) _ (framed_roomy p limit room-a true k used (at + 2) (omega (arith, i))) (λ own _.
      then (end_at p own.end (column (λ a. a.name) own) (column (λ a. a.start) own)) _ (end_roomy own.end (column (λ a. a.name) own) (column (λ a. a.start) own)) (λ _ _. done _)))

  tables_roomy : (interface : Bool) (at : ℕ) → Roomy (tables_at interface p room limit at)
  unfolding tables_at
  tables_roomy interface at =
      then (sort_at a_field p room limit 0 at 0) _ (sort_roomy p b limit room-a room room-m a_field 0 at 0 (omega arith) (omega arith) (omega arith)) (λ fs e.
      let f = sort_reached p b limit room-a room room-m a_field 0 at 0 fs (omega arith) (omega arith) e in
      let m = a_method interface in
      then (sort_at m p room limit (length fs.list) fs.end.at fs.end.used) _
      (sort_roomy p b limit room-a room room-m m (length fs.list) fs.end.at fs.end.used f.1 (omega (arith, f.0.0)) f.0.1) (λ ms g.
      let h = sort_reached p b limit room-a room room-m m (length fs.list) fs.end.at fs.end.used ms (omega (arith, f.0.0)) f.0.1 g in
      then (own_at p limit ms.end.used ms.end.at) _ (own_roomy ms.end.used ms.end.at h.0.1) (λ _ _. done _)))

-- ---- interfaces: two bytes each

module _ (p : Pool) (b : Bytes p.file) (room : ℕ) (room-i : min (length p.file / 2 + 1) 65535 ≤ room) where
  abbrev Twice : ℕ → ℕ → Type 0
  Twice n at = 2 * n ≤ at

  interface_roomy : (n at : ℕ) → n < 65535 → Twice n at → Roomy (interface_at p room n at)
  unfolding interface_at
  interface_roomy n at l i =
      then (u2 p.file at) _ (u2_roomy p.file at) (λ m e.
      then (class_at p at m) _ (free of_class (only (class_only_at p at m)) refl) (λ _ _.
      then (require (ltb n room) 13 at) _ (passes (ltb n room) 13 at (lt-ltb n room (omega (arith, i, l, room-i, u2_in p.file at m e)))) (λ _ _. done _)))

  interfaces_roomy : (at : ℕ) → Roomy (interfaces_at p room at)
  unfolding interfaces_at
  interfaces_roomy at =
      then (u2 p.file at) _ (u2_roomy p.file at) (λ k e.
      all_roomy Twice (interface_at p room) past (λ n s r i _. omega (arith, i)) (0 + k) k 0 (at + 2) refl (omega arith) (λ n s h i. interface_roomy n s (omega (arith, h, few p.file b at k e)) i))

-- ---- the whole file

module _ (s : List ℕ) (b : Bytes s) where
  pool_roomy : (cells : ℕ) → min (length s / 3 + 2) 65536 ≤ cells → Roomy (pool s cells)
  unfolding pool
  pool_roomy cells h = free (of_unbounded ++ of_checks) (less 5 (pool_only s cells) never_5 refl) refl
    where
      never_5 : (place : ℕ) → refuse 5 place ≡ pool s cells → ⊥
      never_5 place e = enough s b place (e ∙ rw (read_same s b cells 65536 (omega (arith, h, enough_few s b)) (enough_few s b)) refl)

  module _ (rooms : Rooms) (c : min (length s / 3 + 2) 65536 ≤ rooms.cells) (i : min (length s / 2 + 1) 65535 ≤ rooms.interfaces) where
    front_roomy : Roomy (front_at s rooms.cells rooms.interfaces)
    unfolding front_at
    front_roomy =
        then (pool s rooms.cells) _ (pool_roomy rooms.cells c) (λ w e.
        let f = sym (its_file s rooms.cells w (was_read s rooms.cells w e)) in
        then (head_at w.pool w.next) _ (free of_head (head_only w.pool w.next) refl) (λ _ _.
        then (interfaces_at w.pool rooms.interfaces (w.next + 6)) _ (interfaces_roomy w.pool (rw f at b) rooms.interfaces (rw f at i) (w.next + 6)) (λ _ _. done _)))

    module _ (m : min (length s / 8 + 1) 131070 ≤ rooms.members) (a : min (length s) 16777216 / 6 + 1 ≤ rooms.attributes) where
      pub never_short : Roomy (class_file s rooms)
      unfolding class_file
      never_short =
          then (front_at s rooms.cells rooms.interfaces) _ front_roomy (λ g e.
          let q = front_pool s rooms.cells rooms.interfaces g e in
          let f = sym (its_file s rooms.cells g.pool (was_read s rooms.cells g.pool q)) in
          let l = not_too_long s rooms.cells g.pool q in
          let r : length s < 6 * rooms.attributes = omega (arith, a, l) in
          then (tables_at (marked g.head.flags) g.pool.pool rooms.members rooms.attributes g.next) _
          (tables_roomy g.pool.pool (rw f at b) rooms.attributes (rw f at r) rooms.members (rw f at m) (marked g.head.flags) g.next) (λ _ _. done _))

-- at least the room that the header computes
pub no_room_refused : (s : List ℕ) → Bytes s → (rooms : Rooms)
    → (room_for (length s)).cells ≤ rooms.cells
    → (room_for (length s)).interfaces ≤ rooms.interfaces
    → (room_for (length s)).members ≤ rooms.members
    → (room_for (length s)).attributes ≤ rooms.attributes
    → (place : ℕ) → (refuse 5 place ≡ class_file s rooms → ⊥) × (refuse 13 place ≡ class_file s rooms → ⊥)
no_room_refused s b rooms c i m a place =
    let h = never_short s b rooms c i m a in
    (λ e. (h.with 5 place e).0 refl, λ e. (h.with 13 place e).1 refl)
