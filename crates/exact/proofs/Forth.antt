-- What is refused with 13 to 18 has the fault: from the file on, line by line. Assumes nothing.
use mathlib.Core.Path.{◌≡◌, refl, sym}
use mathlib.Core.List.{List}
use mathlib.Core.Bool.{Bool, true, false, not, true≢false}
use mathlib.Core.Logic.{◌⊎◌, inl, inr, ⊎_elim}
use Prim.Native.Nat.{ℕ, ◌+◌, ◌≤◌, ◌<◌}
use native.Mathlib.Omega.{arith}
use lib.ListN.{length}
use lib.Dec.{leb, ltb, eqb}
use borrow.Author.Tests.{ltb-false, eqb-true, eqb-false}
use Rattle.reads.specs.Answer.{Answer, Check, fine, accept, refuse, require}
use Rattle.reads.specs.Bytes.{num2, u2, u4, skipped}
use Rattle.text.specs.Text.{binary}
use Rattle.pool.specs.Pool.{Pool, Whole as WholePool, slots}
use Rattle.slot.specs.Slots.{tag_of, field, bytes_of, in_range, of_kind, utf8_at}
use Rattle.checks.specs.Checks.{pool}
use Rattle.bootstrap.specs.Bootstrap.{is_bootstrap, handles, loadable, body_u2, index_at, steps, method_at, bootstrap_body, own_rule}
use Rattle.bootstrap.specs.Indices.{bootstraps, below_each, dynamic, bootstrap_index, bootstrap_indices}
use Rattle.reads.specs.Records.{Many}
use Rattle.attributes.specs.Attributes.{attribute_at, ruled, record_at, body_end, framed}
use Rattle.attributes.specs.declared.Attribute.{Attribute}
use Rattle.member.specs.Member.{good_text, good_shape, twice, text_in, parts_at, member_at}
use Rattle.member.specs.declared.Sort.{Sort}
use Rattle.member.specs.declared.Member.{Member}
use Rattle.class_head.specs.Header.{class_at, super_at, head_at, interface_at, past, interfaces_at}
use Rattle.class_head.specs.declared.ClassHead.{ClassHead}
use Rattle.class.specs.Members.{Whole, Reached, a_field, begun_at, whole_at, reach, sort_at}
use Rattle.class.specs.Class.{Rooms, marked, front_at, end_at, own_at, tables_at, class_file}
use Rattle.exact.specs.Stops.{Stop}
use Rattle.exact.specs.Turns.{OfSort, Begun, its_pool, Halfway, of_methods, InMember, at_field, at_method, Tailed, tail_pool, InOwn, OfMember, Ended, end_pool, names_of, bodies_of}
use Rattle.exact.specs.Faults.{InterfaceFull, ReadMember, name_at, type_at, BadShape, Duplicate, MemberFull, AttributeFull, BadBody, NoRoom, an_interface, a_member, an_attribute, its_own, Twice, Misshapen, UpTo, NotOne, TooLarge, LeftOver, bytes, a_body}
use Rattle.exact.proofs.Lines.{Refuses, done, then, need, need_then, read_then, pick, stepped, weaken, first_to, stop_put, stop_to}
use Rattle.exact.proofs.Slots.{kind_here, text_here, Low, low, from_here, u2_low, u4_low, skipped_low, pool_low}

was_true : (t : Bool) → not t ≡ false → t ≡ true
was_true true e = refl
was_true false e = absurd (true≢false e)

was_false : (t : Bool) → not t ≡ true → t ≡ false
was_false true e = absurd (true≢false (sym e))
was_false false e = refl

-- ---- steps that refuse with 1 to 11 alone

module _ (p : Pool) where
  range_low : (place m : ℕ) → Low (in_range p place m)
  range_low place m = low (ltb m (slots p)) 7 place (omega arith)

  utf8_low : (place m : ℕ) → Low (utf8_at p place m)
  unfolding utf8_at
  utf8_low place m = then (in_range p place m) _ (range_low place m) (λ _ _. from_here (text_here p place m))

  text_low : (k : Sort) (nr place m : ℕ) → nr ≤ 11 → Low (text_in k nr p place m)
  unfolding text_in
  text_low k nr place m h = then (utf8_at p place m) _ (utf8_low place m) (λ _ _. low (good_text k nr (bytes_of p m)) nr place h)

  class_low : (place m : ℕ) → Low (class_at p place m)
  unfolding class_at
  class_low place m =
      then (in_range p place m) _ (range_low place m) (λ _ _.
      then (of_kind p place _ m) _ (from_here (kind_here p place _ m)) (λ _ _.
      low (binary (bytes_of p (field p m 1))) 10 place (omega arith)))

  super_low : (place m : ℕ) → Low (super_at p place m)
  unfolding super_at
  super_low place m = pick (eqb m 0) _ _ (λ _. done _) (λ _. class_low place m)

  head_low : (at : ℕ) → Low (head_at p at)
  unfolding head_at
  head_low at =
      then (u2 p.file at) _ (u2_low p.file at) (λ _ _.
      then (u2 p.file (at + 2)) _ (u2_low p.file (at + 2)) (λ this _.
      then (class_at p (at + 2) this) _ (class_low (at + 2) this) (λ _ _.
      then (u2 p.file (at + 4)) _ (u2_low p.file (at + 4)) (λ super _.
      then (super_at p (at + 4) super) _ (super_low (at + 4) super) (λ _ _. done _)))))

  attribute_low : (at : ℕ) → Low (attribute_at p at)
  unfolding attribute_at
  attribute_low at =
      then (u2 p.file at) _ (u2_low p.file at) (λ m _.
      then (utf8_at p at m) _ (utf8_low at m) (λ _ _.
      then (u4 p.file (at + 2)) _ (u4_low p.file (at + 2)) (λ size _.
      then (skipped p.file (at + 6) size) _ (skipped_low p.file (at + 6) size) (λ _ _. done _))))

  -- ---- a body of BootstrapMethods: 18 at the attribute's first byte

  abbrev Body : ℕ → ℕ → ℕ → Type 0
  Body at nr place = (nr ≤ 11) ⊎ ((nr ≡ 18) × (place ≡ at))

  module _ (at end : ℕ) where
    u2_body : (i : ℕ) → Refuses (Body at) (body_u2 p at end i)
    unfolding body_u2
    u2_body i = then (require (leb (i + 2) end) 18 at) _ (need (leb (i + 2) end) 18 at (λ _. inr (refl, refl))) (λ _ _. done _)

    index_body : (allowed i : ℕ) → Refuses (Body at) (index_at allowed p at end i)
    unfolding index_at
    index_body allowed i =
        then (body_u2 p at end i) _ (u2_body i) (λ m _.
        then (in_range p i m) _ (weaken (λ nr place h. inl h) (range_low i m)) (λ _ _.
        then (of_kind p i allowed m) _ (weaken (λ nr place h. inl h) (from_here (kind_here p i allowed m))) (λ _ _. done _)))

    method_body : (i : ℕ) → Refuses (Body at) (method_at p at end i)
    unfolding method_at
    method_body i =
        then (index_at handles p at end i) _ (index_body handles i) (λ j _.
        then (body_u2 p at end j) _ (u2_body j) (λ k _. stepped (index_at loadable p at end) k (j + 2) (index_body loadable)))

    whole_body : (start : ℕ) → Refuses (Body at) (bootstrap_body p at start end)
    unfolding bootstrap_body
    whole_body start =
        then (body_u2 p at end start) _ (u2_body start) (λ n _.
        then (steps (method_at p at end) n (start + 2)) _ (stepped (method_at p at end) n (start + 2) method_body) (λ next _.
        need (eqb next end) 18 at (λ _. inr (refl, refl))))

  -- ---- one interface

  abbrev InterfaceFault : ℕ → ℕ → ℕ → ℕ → ℕ → Type 0
  InterfaceFault room n at nr place = (nr ≤ 11) ⊎ ((nr ≡ 13) × InterfaceFull p room n at place)

  interface_fault : (room n at : ℕ) → Refuses (InterfaceFault room n at) (interface_at p room n at)
  unfolding interface_at
  interface_fault room n at = read_then p.file at _ (inl (omega arith)) (λ i.
      then (class_at p at (num2 p.file at)) _ (weaken (λ nr place h. inl h) (class_low at (num2 p.file at))) (λ _ g.
      need_then (ltb n room) 13 at _ (λ f. inr (refl, record { here = refl; inside = i; good = g; full = ltb-false n room f })) (λ _. done _)))

  -- ---- one attribute

  data AttributeFault (own : Bool) (room n at nr place : ℕ) : Type 0 where
    small_attribute : nr ≤ 11 → AttributeFault own room n at nr place
    full_attribute : nr ≡ 13 → AttributeFull own p room n at place → AttributeFault own room n at nr place
    bad_body : nr ≡ 18 → own ≡ true → BadBody p at place → AttributeFault own room n at nr place

  attribute_fault : (own : Bool) (room n at : ℕ) → Refuses (AttributeFault own room n at) (record_at own p room n at)
  unfolding record_at ruled own_rule
  attribute_fault own room n at =
      then (attribute_at p at) _ (weaken (λ nr place h. small_attribute h) (attribute_low at)) (λ a e.
      then (ruled own p at a) _ (pick own _ _ (λ o. pick (is_bootstrap p a.name) _ _ (λ b. body a e o b) (λ _. done _)) (λ _. done _)) (λ _ g.
      need_then (ltb n room) 13 at _ (λ f. full_attribute refl (record { here = refl; attribute = a; framed = e; good = g; full = ltb-false n room f })) (λ _. done _)))
    where
      body : (a : Attribute) → accept a ≡ attribute_at p at → own ≡ true → is_bootstrap p a.name ≡ true → Refuses (AttributeFault own room n at) (bootstrap_body p at a.start (a.start + a.size))
      body a e o b = record {
        with = λ nr place h. ⊎_elim (λ l. small_attribute l) (λ k.
            let y = k.0 in
            let z = k.1 in
            bad_body y o (record { here = z; attribute = a; framed = e; named = b; body = rw (y, z) at h }))
            ((whole_body at (a.start + a.size) a.start).with nr place h);
      }

  -- ---- one member, up to its attributes

  data MemberFault (k : Sort) (room n : ℕ) (r : Reached) (nr place : ℕ) : Type 0 where
    small_member : nr ≤ 11 → MemberFault k room n r nr place
    full_member : nr ≡ 13 → MemberFull k p room n r place → MemberFault k room n r nr place
    again_member : nr ≡ 14 → Duplicate k p r place → MemberFault k room n r nr place
    bad_shape : nr ≡ 15 → BadShape k p r place → MemberFault k room n r nr place

  member_fault : (k : Sort) (room n : ℕ) (r : Reached) → Refuses (MemberFault k room n r) (member_at k p room n r.at r.names r.types)
  unfolding member_at parts_at
  member_fault k room n r = read_then p.file r.at _ (small_member (omega arith)) (λ _.
      read_then p.file (r.at + 2) _ (small_member (omega arith)) (λ _.
      read_then p.file (r.at + 4) _ (small_member (omega arith)) (λ i.
      let m = record_of i in
      then (parts_at k p r.at (name_at p r) (type_at p r)) _ (parts m) (λ _ g.
      need_then (not (twice p (name_at p r) (type_at p r) r.names r.types)) 14 r.at _ (λ f. again_member refl (record { read = m; good = g; again = was_true (twice p (name_at p r) (type_at p r) r.names r.types) f })) (λ h.
      need_then (ltb n room) 13 r.at _ (λ f. full_member refl (record { read = m; good = g; new = was_false (twice p (name_at p r) (type_at p r) r.names r.types) h; full = ltb-false n room f })) (λ _.
      read_then p.file (r.at + 6) _ (small_member (omega arith)) (λ _. done _)))))))
    where
      record_of : r.at + 4 + 2 ≤ length p.file → ReadMember p r r.at
      record_of i = record { here = refl; inside = omega arith }

      small : (nr place : ℕ) → nr ≤ 11 → MemberFault k room n r nr place
      small nr place h = small_member h

      parts : ReadMember p r r.at → Refuses (MemberFault k room n r) (parts_at k p r.at (name_at p r) (type_at p r))
      parts m =
          then (text_in k 10 p (r.at + 2) (name_at p r)) _ (weaken small (text_low k 10 (r.at + 2) (name_at p r) (omega arith))) (λ _ a.
          then (text_in k 11 p (r.at + 4) (type_at p r)) _ (weaken small (text_low k 11 (r.at + 4) (type_at p r) (omega arith))) (λ _ b.
          need (good_shape k p (name_at p r) (type_at p r)) 15 r.at (λ f. bad_shape refl (record { read = m; name = a; descriptor = b; shape = f }))))

-- ---- of a class file

module _ (s : List ℕ) (rooms : Rooms) where
  pub data Fault (nr place : ℕ) : Type 0 where
    small : nr ≤ 11 → Fault nr place
    no_room : nr ≡ 13 → NoRoom s rooms place → Fault nr place
    duplicate : nr ≡ 14 → Twice s rooms place → Fault nr place
    misshapen : nr ≡ 15 → Misshapen s rooms place → Fault nr place
    not_one : nr ≡ 16 → NotOne s rooms place → Fault nr place
    too_large : nr ≡ 17 → TooLarge s rooms place → Fault nr place
    left_over : nr ≡ 18 → LeftOver s rooms place → Fault nr place

  lowly : {A : Type 0} {x : Answer A} → Low x → Refuses Fault x
  lowly h = weaken (λ nr place l. small l) h

  -- ---- what stands before the members

  interfaces_faults : (w : WholePool) → accept w ≡ pool s rooms.cells → (h : ClassHead) → accept h ≡ head_at w.pool w.next → Refuses Fault (interfaces_at w.pool rooms.interfaces (w.next + 6))
  unfolding interfaces_at
  interfaces_faults w e h g = then (u2 w.pool.file (w.next + 6)) _ (lowly (u2_low w.pool.file (w.next + 6))) (λ k q. record {
    with = λ nr place x.
        let st = stop_to (interface_at w.pool rooms.interfaces) past k 0 (w.next + 6 + 2) nr place x in
        ⊎_elim (λ l. small l) (λ f. no_room f.0 (an_interface (record {
          whole = w;
          good_pool = e;
          head = h;
          good_head = g;
          number = k;
          was_read = q;
          stop = stop_put (interface_at w.pool rooms.interfaces) past k 0 (w.next + 6 + 2) st f.1;
        }))) ((interface_fault w.pool rooms.interfaces (0 + st.good) st.before.end).with nr place st.fault);
  })

  front_faults : Refuses Fault (front_at s rooms.cells rooms.interfaces)
  unfolding front_at
  front_faults =
      then (pool s rooms.cells) _ (lowly (pool_low s rooms.cells)) (λ w e.
      then (head_at w.pool w.next) _ (lowly (head_low w.pool w.next)) (λ h g.
      then (interfaces_at w.pool rooms.interfaces (w.next + 6)) _ (interfaces_faults w e h g) (λ _ _. done _)))

  -- ---- a member with its attributes

  data WholeFault (k : Sort) (p : Pool) (n : ℕ) (r : Reached) (nr place : ℕ) : Type 0 where
    of_itself : MemberFault p k rooms.members n r nr place → WholeFault k p n r nr place
    of_attribute : nr ≡ 13 → OfMember s rooms k p n r (λ p m at. AttributeFull false p rooms.attributes m at place) → WholeFault k p n r nr place

  whole_fault : (k : Sort) (p : Pool) (n : ℕ) (r : Reached) → Refuses (WholeFault k p n r) (whole_at k p rooms.members rooms.attributes n r)
  unfolding whole_at
  whole_fault k p n r =
      then (member_at k p rooms.members n r.at r.names r.types) _ (weaken (λ nr place h. of_itself h) (member_fault p k rooms.members n r)) (λ m e.
      then (framed false p rooms.attributes m.count r.used (r.at + 8)) _ (record { with = λ nr place x. attribute m e nr place (stop_to (record_at false p rooms.attributes) body_end m.count r.used (r.at + 8) nr place x) }) (λ _ _. done _))
    where
      attribute : (m : Member) → accept m ≡ member_at k p rooms.members n r.at r.names r.types → (nr place : ℕ)
          → Stop (record_at false p rooms.attributes) body_end m.count r.used (r.at + 8) (λ j at. refuse nr place ≡ record_at false p rooms.attributes j at) → WholeFault k p n r nr place
      attribute m e nr place st = go ((attribute_fault p false rooms.attributes (r.used + st.good) st.before.end).with nr place st.fault)
        where
          go : AttributeFault p false rooms.attributes (r.used + st.good) st.before.end nr place → WholeFault k p n r nr place
          go (small_attribute l) = of_itself (small_member l)
          go (full_attribute y f) = of_attribute y (record { member = m; good_member = e; stop = stop_put (record_at false p rooms.attributes) body_end m.count r.used (r.at + 8) st f })
          go (bad_body y o f) = absurd (true≢false (sym o))

  -- ---- the members of one sort

  module _ (k : Sort) (p : Pool) (n at used : ℕ) (into : (F : Sort → Pool → ℕ → Reached → Type 0) → OfSort s rooms k p n at used (F k p) → InMember s rooms F) where
    sort_faults : Refuses Fault (sort_at k p rooms.members rooms.attributes n at used)
    unfolding sort_at
    sort_faults = then (u2 p.file at) _ (lowly (u2_low p.file at)) (λ j q. record { with = λ nr place x. member j q nr place (stop_to (whole_at k p rooms.members rooms.attributes) reach j n (begun_at (at + 2) used) nr place x) })
      where
        member : (j : ℕ) → accept j ≡ u2 p.file at → (nr place : ℕ) → Stop (whole_at k p rooms.members rooms.attributes) reach j n (begun_at (at + 2) used) (λ m r. refuse nr place ≡ whole_at k p rooms.members rooms.attributes m r) → Fault nr place
        member j q nr place st = go ((whole_fault k p (n + st.good) st.before.end).with nr place st.fault)
          where
            put : (F : Sort → Pool → ℕ → Reached → Type 0) → F k p (n + st.good) st.before.end → InMember s rooms F
            put F f = into F (record { number = j; was_read = q; stop = stop_put (whole_at k p rooms.members rooms.attributes) reach j n (begun_at (at + 2) used) st f })

            itself : MemberFault p k rooms.members (n + st.good) st.before.end nr place → Fault nr place
            itself (small_member l) = small l
            itself (full_member y f) = no_room y (a_member (put (λ k p n r. MemberFull k p rooms.members n r place) f))
            itself (again_member y f) = duplicate y (put (λ k p n r. Duplicate k p r place) f)
            itself (bad_shape y f) = misshapen y (put (λ k p n r. BadShape k p r place) f)

            go : WholeFault k p (n + st.good) st.before.end nr place → Fault nr place
            go (of_itself f) = itself f
            go (of_attribute y f) = no_room y (an_attribute (put (λ k p n r. OfMember s rooms k p n r (λ p m at. AttributeFull false p rooms.attributes m at place)) f))

  -- ---- the end of the file

  module _ (e : Ended s rooms) where
    abbrev P : Pool
    P = end_pool s rooms e

    abbrev judge : ℕ → Check
    judge = bootstrap_index P (names_of s rooms e) (bodies_of s rooms e)

    index_own : (n : ℕ) → Refuses (λ nr place. place ≡ n) (judge n)
    unfolding bootstrap_index
    index_own n = pick (dynamic (tag_of P n)) _ _ (λ _.
        then (require (below_each P (field P n 1) (names_of s rooms e) (bodies_of s rooms e)) 17 n) _ (need (below_each P (field P n 1) (names_of s rooms e) (bodies_of s rooms e)) 17 n (λ _. refl)) (λ _ _.
        need (eqb (bootstraps P (names_of s rooms e) (bodies_of s rooms e)) 1) 16 n (λ _. refl))) (λ _. done _)

    index_faults : (place : ℕ) → e.own.end ≡ length P.file → place < slots P → ((n : ℕ) → n < place → fine ≡ judge n) → Refuses (λ nr there. (there ≡ place) → Fault nr place) (judge place)
    unfolding bootstrap_index
    index_faults place z l b = pick (dynamic (tag_of P place)) _ _ (λ d.
        let u : UpTo s rooms place e = record { no_bytes = z; slot = l; before = b; names_one = d } in
        need_then (below_each P (field P place 1) (names_of s rooms e) (bodies_of s rooms e)) 17 place _ (λ f _. too_large refl (record { ended = e; up_to = u; too_large = f })) (λ h.
        need (eqb (bootstraps P (names_of s rooms e) (bodies_of s rooms e)) 1) 16 place (λ f _. not_one refl (record { ended = e; up_to = u; below = h; not_one = eqb-false _ _ f })))) (λ _. done _)

    end_faults : Refuses Fault (end_at P e.own.end (names_of s rooms e) (bodies_of s rooms e))
    unfolding end_at bootstrap_indices
    end_faults = need_then (eqb e.own.end (length P.file)) 18 e.own.end _ (λ f. left_over refl (bytes e refl (eqb-false _ _ f))) (λ q. record {
      with = λ nr place x.
          let f = first_to judge (slots P) nr place index_own x in
          (index_faults place (eqb-true _ _ q) f.slot f.before).with nr place f.there refl;
    })

  -- ---- the class's own attributes

  module _ (t : Tailed s rooms) where
    own_attribute : (nr place : ℕ) → Stop (record_at true (tail_pool s rooms t) rooms.attributes) body_end t.number t.methods.end.used (t.methods.end.at + 2) (λ j at. refuse nr place ≡ record_at true (tail_pool s rooms t) rooms.attributes j at) → Fault nr place
    own_attribute nr place st = go ((attribute_fault (tail_pool s rooms t) true rooms.attributes (t.methods.end.used + st.good) st.before.end).with nr place st.fault)
      where
        put : (F : Pool → ℕ → ℕ → Type 0) → F (tail_pool s rooms t) (t.methods.end.used + st.good) st.before.end → InOwn s rooms F
        put F f = record { tail = t; stop = stop_put (record_at true (tail_pool s rooms t) rooms.attributes) body_end t.number t.methods.end.used (t.methods.end.at + 2) st f }

        go : AttributeFault (tail_pool s rooms t) true rooms.attributes (t.methods.end.used + st.good) st.before.end nr place → Fault nr place
        go (small_attribute l) = small l
        go (full_attribute y f) = no_room y (its_own (put (λ p n at. AttributeFull true p rooms.attributes n at place) f))
        go (bad_body y o f) = left_over y (a_body (put (λ p n at. BadBody p at place) f))

    own_framed : Refuses Fault (framed true (tail_pool s rooms t) rooms.attributes t.number t.methods.end.used (t.methods.end.at + 2))
    own_framed = record { with = λ nr place x. own_attribute nr place (stop_to (record_at true (tail_pool s rooms t) rooms.attributes) body_end t.number t.methods.end.used (t.methods.end.at + 2) nr place x) }

  own_faults : (h : Halfway s rooms) (ms : Many Whole Reached) → accept ms ≡ sort_at (of_methods s rooms h.begun) (its_pool s rooms h.begun) rooms.members rooms.attributes (length h.fields.list) h.fields.end.at h.fields.end.used
      → Refuses Fault (own_at (its_pool s rooms h.begun) rooms.attributes ms.end.used ms.end.at)
  unfolding own_at
  own_faults h ms g = then (u2 (its_pool s rooms h.begun).file ms.end.at) _ (lowly (u2_low (its_pool s rooms h.begun).file ms.end.at)) (λ k q.
      let t : Tailed s rooms = record { half = h; methods = ms; good_methods = g; number = k; was_read = q } in
      then (framed true (its_pool s rooms h.begun) rooms.attributes k ms.end.used (ms.end.at + 2)) _ (own_framed t) (λ own o.
      then (end_at _ _ _ _) _ (end_faults (record { tail = t; own = own; good_own = o })) (λ _ _. done _)))

  -- ---- all

  tables_faults : (b : Begun s rooms) → Refuses Fault (tables_at (marked b.front.head.flags) (its_pool s rooms b) rooms.members rooms.attributes b.front.next)
  unfolding tables_at
  tables_faults b =
      then (sort_at a_field (its_pool s rooms b) rooms.members rooms.attributes 0 b.front.next 0) _ (sort_faults a_field (its_pool s rooms b) 0 b.front.next 0 (λ F o. at_field b o)) (λ fs e.
      let h : Halfway s rooms = record { begun = b; fields = fs; good_fields = e } in
      then (sort_at (of_methods s rooms b) (its_pool s rooms b) rooms.members rooms.attributes (length fs.list) fs.end.at fs.end.used) _ (sort_faults (of_methods s rooms b) (its_pool s rooms b) (length fs.list) fs.end.at fs.end.used (λ F o. at_method h o)) (λ ms g.
      then (own_at (its_pool s rooms b) rooms.attributes ms.end.used ms.end.at) _ (own_faults h ms g) (λ _ _. done _)))

  pub class_faults : Refuses Fault (class_file s rooms)
  unfolding class_file
  class_faults =
      then (front_at s rooms.cells rooms.interfaces) _ front_faults (λ f e.
      then (tables_at (marked f.head.flags) f.pool.pool rooms.members rooms.attributes f.next) _ (tables_faults (record { front = f; good_front = e })) (λ _ _. done _))
