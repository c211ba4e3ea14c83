-- Where the refusals after the pool stand. Assumes nothing.
use Prim.Native.Nat.{ℕ, ◌+◌, ◌≤◌, ◌<◌}
use native.Mathlib.Omega.{arith}
use mathlib.Core.Path.{◌≡◌, refl, ap}
use mathlib.Core.Bool.{Bool, true, false, not}
use mathlib.Core.List.{List, ◌++◌}
use mathlib.Core.Logic.{◌⊎◌, inl, inr}
use lib.ListN.{length}
use lib.Dec.{leb, ltb, eqb}
use borrow.Author.Tests.{leb-true}
use Rattle.reads.specs.Answer.{Answer, accept, refuse, require}
use Rattle.reads.specs.Bytes.{u2, u4, skipped}
use Rattle.reads.proofs.Answers.{first, held}
use Rattle.reads.proofs.Leaves.{skipped_in, u2_in, u4_in}
use Rattle.pool.specs.Pool.{Pool, Whole as WholePool, slots}
use Rattle.pool.proofs.Entries.{same}
use Rattle.pool.proofs.Slots.{its_file}
use Rattle.slot.specs.Slots.{tag_of, field, in_range, of_kind, utf8_at}
use Rattle.checks.specs.Checks.{pool}
use Rattle.checks.proofs.Room.{was_read}
use Rattle.bootstrap.specs.Bootstrap.{is_bootstrap, handles, loadable, body_u2, index_at, steps, method_at, bootstrap_body, own_rule}
use Rattle.bootstrap.specs.Indices.{bootstraps, below_each, dynamic, bootstrap_index, bootstrap_indices}
use Rattle.attributes.specs.declared.Attribute.{Attribute}
use Rattle.reads.specs.Records.{Many, column}
use Rattle.attributes.specs.Attributes.{attribute_at, ruled, record_at, body_end, framed}
use Rattle.attributes.proofs.Tiled.{record_sound, tiled, tiles_in}
use Rattle.member.specs.declared.Sort.{Sort}
use Rattle.member.specs.Member.{good_shape, twice, text_in, parts_at, member_at}
use Rattle.member.proofs.Inside.{member_in}
use Rattle.class_head.specs.Header.{class_at, super_at, head_at, interface_at, past, interfaces_at}
use Rattle.class.specs.Members.{Whole, Reached, whole_at, reach, sort_at, a_field, a_method}
use Rattle.class.specs.Class.{Rooms, Front, marked, front_at, end_at, own_at, tables_at, class_file}
use Rattle.class.proofs.Fronts.{head_in, front_pool}
use Rattle.demands.specs.Calls.{Refuses, OnlyAt}
use Rattle.demands.specs.Numbers.{of_index, of_spelling, of_descriptor, of_bytes}
use Rattle.demands.specs.Places.{AfterPool, at_byte, at_slot, Beyond}
use Rattle.demands.proofs.Only.{among, covers, covered, stands, done, then, need_at, pick, all_in, stepped, many_with, many_end, weaken}
use Rattle.demands.proofs.Numbered.{u2_at, u4_at, skipped_at, range_at, kind_only_at}
use Rattle.demands.proofs.NumberedClass.{body_u2_at, index_of_at, text_in_at, class_only_at, super_only_at}
use Rattle.demands.proofs.Places.{read_next}

module _ (p : Pool) where
  abbrev Stands : {A : Type 0} → Answer A → Type 0
  Stands x = Refuses (AfterPool p) x

  -- at a byte of the file, or its end
  abbrev In : ℕ → Type 0
  In at = at ≤ length p.file

  byte : {A : Type 0} {ns : List ℕ} {there : ℕ} {x : Answer A} → In there → covers of_bytes ns ≡ true → OnlyAt ns there x → Stands x
  byte {ns} h k q = weaken (λ nr place m. let z = m.1 in at_byte (covered of_bytes ns k nr m.0) (omega arith)) q

  need_byte : (t : Bool) (nr place : ℕ) → In place → among nr of_bytes ≡ true → Stands (require t nr place)
  need_byte t nr place h k = need_at t nr place (at_byte (stands nr of_bytes k) h)

  -- ---- BootstrapMethods

  module _ (at end : ℕ) (ha : In at) (he : In end) where
    body_in : (i m : ℕ) → accept m ≡ body_u2 p at end i → i + 2 ≤ end
    unfolding body_u2
    body_in i m e = leb-true _ _ (held (leb (i + 2) end) 18 at _ m e).0

    index_stands : (allowed i : ℕ) → Stands (index_at allowed p at end i)
    unfolding index_at
    index_stands allowed i =
        then (body_u2 p at end i) _ (byte ha refl (body_u2_at p at end i)) (λ m e.
        let l = body_in i m e in
        let b : In i = omega arith in
        then (in_range p i m) _ (byte b refl (range_at p i m)) (λ _ _.
        then (of_kind p i allowed m) _ (byte b refl (kind_only_at p i allowed m)) (λ _ _. done _)))

    method_stands : (i : ℕ) → Stands (method_at p at end i)
    unfolding method_at
    method_stands i =
        then (index_at handles p at end i) _ (index_stands handles i) (λ j _.
        then (body_u2 p at end j) _ (byte ha refl (body_u2_at p at end j)) (λ k _.
        stepped (index_at loadable p at end) k (j + 2) (index_stands loadable)))

    body_stands : (start : ℕ) → Stands (bootstrap_body p at start end)
    unfolding bootstrap_body
    body_stands start =
        then (body_u2 p at end start) _ (byte ha refl (body_u2_at p at end start)) (λ n _.
        then (steps (method_at p at end) n (start + 2)) _ (stepped (method_at p at end) n (start + 2) method_stands) (λ next _.
        need_byte (eqb next end) 18 at ha refl))

  own_stands : (at name start size : ℕ) → In at → In (start + size) → Stands (own_rule p at name start size)
  unfolding own_rule
  own_stands at name start size ha he = pick (is_bootstrap p name) _ _ (body_stands at (start + size) ha he start) (done _)

  indices_stand : (names bodies : List ℕ) → Stands (bootstrap_indices p names bodies)
  unfolding bootstrap_indices bootstrap_index
  indices_stand names bodies = all_in (slots p) 0 _ (λ n l.
      let b : n < slots p = omega arith in
      pick (dynamic (tag_of p n)) _ _
      (then (require (below_each p (field p n 1) names bodies) 17 n) _ (need_at (below_each p (field p n 1) names bodies) 17 n (at_slot (stands 17 _ refl) b)) (λ _ _. need_at (eqb (bootstraps p names bodies) 1) 16 n (at_slot (stands 16 _ refl) b)))
      (done _))

  -- ---- attributes

  attribute_stands : (at : ℕ) → In at → Stands (attribute_at p at)
  unfolding attribute_at
  attribute_stands at h =
      then (u2 p.file at) _ (byte h refl (u2_at p.file at)) (λ m e.
      let i = u2_in p.file at m e in
      then (utf8_at p at m) _ (byte h refl (index_of_at p at m)) (λ _ _.
      then (u4 p.file (at + 2)) _ (byte i refl (u4_at p.file (at + 2))) (λ size q.
      let j = u4_in p.file (at + 2) size q in
      let k : In (at + 6) = omega arith in
      then (skipped p.file (at + 6) size) _ (byte k refl (skipped_at p.file (at + 6) size)) (λ _ _. done _))))

  attribute_end : (at : ℕ) (a : Attribute) → accept a ≡ attribute_at p at → In (a.start + a.size)
  unfolding attribute_at
  attribute_end at a e =
      let m = first (u2 p.file at) _ a e in
      let n = first (utf8_at p at m.0) _ a m.2 in
      let s = first (u4 p.file (at + 2)) _ a n.2 in
      let b = first (skipped p.file (at + 6) s.0) _ a s.2 in
      let k = skipped_in p.file (at + 6) s.0 b.0 b.1 in
      let x = ap (λ (x : Attribute). x.start + x.size) (same b.2) in
      omega arith

  module _ (own : Bool) (room : ℕ) where
    record_stands : (n at : ℕ) → In at → Stands (record_at own p room n at)
    unfolding record_at ruled
    record_stands n at h =
        then (attribute_at p at) _ (attribute_stands at h) (λ a e.
        then (ruled own p at a) _ (pick own _ _ (own_stands at a.name a.start a.size h (attribute_end at a e)) (done _)) (λ _ _.
        then (require (ltb n room) 13 at) _ (need_byte (ltb n room) 13 at h refl) (λ _ _. done _)))

    framed_stands : (k n at : ℕ) → In at → Stands (framed own p room k n at)
    framed_stands k n at h = many_with In (record_at own p room) body_end (λ n at a _ e. (record_sound own p room n at a e).inside) k n at h record_stands

    framed_end : (k n at : ℕ) (m : Many Attribute ℕ) → In at → accept m ≡ framed own p room k n at → In m.end
    framed_end k n at m h e = tiles_in p at m.list m.end h (tiled own p room k n at m e)

  -- ---- members

  module _ (k : Sort) where
    parts_stand : (at name type : ℕ) → In (at + 4) → Stands (parts_at k p at name type)
    unfolding parts_at
    parts_stand at name type h =
        let i : In (at + 2) = omega arith in
        let j : In at = omega arith in
        then (text_in k 10 p (at + 2) name) _ (byte i refl (text_in_at k p 10 (at + 2) name {ns = of_index ++ of_spelling} refl refl)) (λ _ _.
        then (text_in k 11 p (at + 4) type) _ (byte h refl (text_in_at k p 11 (at + 4) type {ns = of_index ++ of_descriptor} refl refl)) (λ _ _.
        need_byte (good_shape k p name type) 15 at j refl))

    member_stands : (room n at : ℕ) (names types : List ℕ) → In at → Stands (member_at k p room n at names types)
    unfolding member_at
    member_stands room n at names types h =
        then (u2 p.file at) _ (byte h refl (u2_at p.file at)) (λ flags e.
        let i = u2_in p.file at flags e in
        then (u2 p.file (at + 2)) _ (byte i refl (u2_at p.file (at + 2))) (λ name f.
        let j = u2_in p.file (at + 2) name f in
        let l : In (at + 4) = omega arith in
        then (u2 p.file (at + 4)) _ (byte l refl (u2_at p.file (at + 4))) (λ type g.
        let o = u2_in p.file (at + 4) type g in
        let m : In (at + 6) = omega arith in
        then (parts_at k p at name type) _ (parts_stand at name type l) (λ _ _.
        then (require (not (twice p name type names types)) 14 at) _ (need_byte (not (twice p name type names types)) 14 at h refl) (λ _ _.
        then (require (ltb n room) 13 at) _ (need_byte (ltb n room) 13 at h refl) (λ _ _.
        then (u2 p.file (at + 6)) _ (byte m refl (u2_at p.file (at + 6))) (λ _ _. done _)))))))

    module _ (room limit : ℕ) where
      whole_stands : (n : ℕ) (s : Reached) → In s.at → Stands (whole_at k p room limit n s)
      unfolding whole_at
      whole_stands n s h =
          then (member_at k p room n s.at s.names s.types) _ (member_stands room n s.at s.names s.types h) (λ m e.
          let i = member_in k p room n s.at s.names s.types m e in
          then (framed false p limit m.count s.used (s.at + 8)) _ (framed_stands false limit m.count s.used (s.at + 8) i.1) (λ _ _. done _))

      whole_end : (n : ℕ) (s : Reached) (w : Whole) → In s.at → accept w ≡ whole_at k p room limit n s → In w.next
      unfolding whole_at
      whole_end n s w h e =
          let t = first (member_at k p room n s.at s.names s.types) _ w e in
          let u = first (framed false p limit t.0.count s.used (s.at + 8)) _ w t.2 in
          let i = member_in k p room n s.at s.names s.types t.0 t.1 in
          let x = ap (λ (x : Whole). x.next) (same u.2) in
          omega (arith, framed_end false limit t.0.count s.used (s.at + 8) u.0 i.1 u.1)

      sort_stands : (n at used : ℕ) → In at → Stands (sort_at k p room limit n at used)
      unfolding sort_at
      sort_stands n at used h = then (u2 p.file at) _ (byte h refl (u2_at p.file at)) (λ c e.
          many_with (λ s. In s.at) (whole_at k p room limit) reach whole_end c n _ (u2_in p.file at c e) whole_stands)

      sort_end : (n at used : ℕ) (m : Many Whole Reached) → accept m ≡ sort_at k p room limit n at used → In m.end.at
      unfolding sort_at
      sort_end n at used m e =
          let c = first (u2 p.file at) _ m e in
          many_end (λ s. In s.at) (whole_at k p room limit) reach whole_end c.0 n _ m (u2_in p.file at c.0 c.1) c.2

  -- ---- the end, the header and the interfaces

  own_at_stands : (limit used at : ℕ) → In at → Stands (own_at p limit used at)
  unfolding own_at end_at
  own_at_stands limit used at h =
      then (u2 p.file at) _ (byte h refl (u2_at p.file at)) (λ k e.
      let i = u2_in p.file at k e in
      then (framed true p limit k used (at + 2)) _ (framed_stands true limit k used (at + 2) i) (λ own q.
      let j = framed_end true limit k used (at + 2) own i q in
      then (end_at p own.end (column (λ a. a.name) own) (column (λ a. a.start) own)) _
      (then (require (eqb own.end (length p.file)) 18 own.end) _ (need_byte (eqb own.end (length p.file)) 18 own.end j refl) (λ _ _. indices_stand (column (λ a. a.name) own) (column (λ a. a.start) own)))
      (λ _ _. done _)))

  tables_stand : (interface : Bool) (room limit at : ℕ) → In at → Stands (tables_at interface p room limit at)
  unfolding tables_at
  tables_stand interface room limit at h =
      then (sort_at a_field p room limit 0 at 0) _ (sort_stands a_field room limit 0 at 0 h) (λ fs e.
      let m = a_method interface in
      let i = sort_end a_field room limit 0 at 0 fs e in
      then (sort_at m p room limit (length fs.list) fs.end.at fs.end.used) _ (sort_stands m room limit (length fs.list) fs.end.at fs.end.used i) (λ ms f.
      let j = sort_end m room limit (length fs.list) fs.end.at fs.end.used ms f in
      then (own_at p limit ms.end.used ms.end.at) _ (own_at_stands limit ms.end.used ms.end.at j) (λ _ _. done _)))

  head_stands : (at : ℕ) → In at → Stands (head_at p at)
  unfolding head_at
  head_stands at h =
      then (u2 p.file at) _ (byte h refl (u2_at p.file at)) (λ flags e.
      let i = u2_in p.file at flags e in
      then (u2 p.file (at + 2)) _ (byte i refl (u2_at p.file (at + 2))) (λ this f.
      let j = u2_in p.file (at + 2) this f in
      let l : In (at + 4) = omega arith in
      then (class_at p (at + 2) this) _ (byte i refl (class_only_at p (at + 2) this)) (λ _ _.
      then (u2 p.file (at + 4)) _ (byte l refl (u2_at p.file (at + 4))) (λ super _.
      then (super_at p (at + 4) super) _ (byte l refl (super_only_at p (at + 4) super)) (λ _ _. done _)))))

  module _ (room : ℕ) where
    interface_stands : (n at : ℕ) → In at → Stands (interface_at p room n at)
    unfolding interface_at
    interface_stands n at h =
        then (u2 p.file at) _ (byte h refl (u2_at p.file at)) (λ m _.
        then (class_at p at m) _ (byte h refl (class_only_at p at m)) (λ _ _.
        then (require (ltb n room) 13 at) _ (need_byte (ltb n room) 13 at h refl) (λ _ _. done _)))

    interface_end : (n at r : ℕ) → In at → accept r ≡ interface_at p room n at → In (at + 2)
    unfolding interface_at
    interface_end n at r h e = let m = first (u2 p.file at) _ r e in u2_in p.file at m.0 m.1

    interfaces_stand : (at : ℕ) → In at → Stands (interfaces_at p room at)
    unfolding interfaces_at
    interfaces_stand at h = then (u2 p.file at) _ (byte h refl (u2_at p.file at)) (λ k e.
        many_with In (interface_at p room) past interface_end k 0 (at + 2) (u2_in p.file at k e) interface_stands)

    interfaces_end : (at : ℕ) (m : Many ℕ ℕ) → accept m ≡ interfaces_at p room at → In m.end
    unfolding interfaces_at
    interfaces_end at m e =
        let k = first (u2 p.file at) _ m e in
        many_end In (interface_at p room) past interface_end k.0 0 (at + 2) m (u2_in p.file at k.0 k.1) k.2

-- ---- the whole file: the pool's refusal, or one after the pool

module _ (s : List ℕ) where
  pool_in : (room : ℕ) (w : WholePool) → accept w ≡ pool s room → w.next ≤ length w.pool.file
  pool_in room w e =
      let r = was_read s room w e in
      let q = ap length (its_file s room w r) in
      omega (arith, read_next s room w r)

  front_in : (room len : ℕ) (f : Front) → accept f ≡ front_at s room len → f.next ≤ length f.pool.pool.file
  unfolding front_at
  front_in room len f e =
      let w = first (pool s room) _ f e in
      let h = first (head_at w.0.pool w.0.next) _ f w.2 in
      let i = first (interfaces_at w.0.pool len (w.0.next + 6)) _ f h.2 in
      let l = interfaces_end w.0.pool len (w.0.next + 6) i.0 i.1 in
      let q : f.next ≡ i.0.end = ap (λ (x : Front). x.next) (same i.2) in
      let z = ap (λ (x : Front). length x.pool.pool.file) (same i.2) in
      omega arith

  abbrev Placed : {A : Type 0} → ℕ → Answer A → Type 0
  Placed room x = Refuses (λ nr place. (refuse nr place ≡ pool s room) ⊎ Beyond s room nr place) x

  beyond : {A : Type 0} (room : ℕ) (w : WholePool) → accept w ≡ pool s room → {x : Answer A} → Stands w.pool x → Placed room x
  beyond room w e h = weaken (λ nr place a. inr (record { whole = w; accepted = e; after = a })) h

  front_placed : (room len : ℕ) → Placed room (front_at s room len)
  unfolding front_at
  front_placed room len =
      then (pool s room) _ (record { with = λ nr place e. inl e }) (λ w e.
      then (head_at w.pool w.next) _ (beyond room w e (head_stands w.pool w.next (pool_in room w e))) (λ h g.
      let i = head_in w.pool w.next h g in
      then (interfaces_at w.pool len (w.next + 6)) _ (beyond room w e (interfaces_stand w.pool len (w.next + 6) i)) (λ _ _. done _)))

  pub class_placed : (rooms : Rooms) → Placed rooms.cells (class_file s rooms)
  unfolding class_file
  class_placed rooms =
      then (front_at s rooms.cells rooms.interfaces) _ (front_placed rooms.cells rooms.interfaces) (λ f e.
      let w = front_pool s rooms.cells rooms.interfaces f e in
      let i = marked f.head.flags in
      let t = tables_stand f.pool.pool i rooms.members rooms.attributes f.next (front_in rooms.cells rooms.interfaces f e) in
      then (tables_at i f.pool.pool rooms.members rooms.attributes f.next) _ (beyond rooms.cells f.pool w t) (λ _ _. done _))
