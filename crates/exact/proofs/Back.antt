-- What has a fault is refused: from the turn of an interface, a member, an attribute or the end back to the file. Assumes nothing.
use mathlib.Core.Path.{◌≡◌, refl}
use mathlib.Core.List.{List}
use mathlib.Core.Bool.{true, false}
use Prim.Native.Nat.{ℕ, ◌+◌}
use lib.ListN.{length}
use Rattle.reads.specs.Answer.{refuse}
use Rattle.pool.specs.Pool.{Pool}
use Rattle.attributes.specs.Attributes.{record_at, body_end}
use Rattle.member.specs.declared.Sort.{Sort}
use Rattle.class_head.specs.Header.{interface_at, past, interfaces_at}
use Rattle.class.specs.Members.{Reached, a_field, begun_at, whole_at, reach, sort_at}
use Rattle.class.specs.Class.{Rooms, front_at, end_at, own_at, marked, tables_at, class_file}
use Rattle.exact.specs.Turns.{InInterface, OfSort, Begun, its_pool, Halfway, of_methods, InMember, at_field, at_method, Tailed, tail_pool, InOwn, OfMember, Ended, end_pool, names_of, bodies_of}
use Rattle.exact.proofs.Lines.{stop_map, stop_back}

module _ (s : List ℕ) (rooms : Rooms) where
  -- ---- one fault for another

  sort_map : (k : Sort) (p : Pool) (n at used : ℕ) (F G : ℕ → Reached → Type 0) → ((m : ℕ) (r : Reached) → F m r → G m r) → OfSort s rooms k p n at used F → OfSort s rooms k p n at used G
  sort_map k p n at used F G f o = record { number = o.number; was_read = o.was_read; stop = stop_map (whole_at k p rooms.members rooms.attributes) reach o.number n (begun_at (at + 2) used) f o.stop }

  pub member_map : (F G : Sort → Pool → ℕ → Reached → Type 0) → ((k : Sort) (p : Pool) (n : ℕ) (r : Reached) → F k p n r → G k p n r) → InMember s rooms F → InMember s rooms G
  member_map F G f (at_field b o) = at_field b (sort_map a_field (its_pool s rooms b) 0 b.front.next 0 (F a_field (its_pool s rooms b)) (G a_field (its_pool s rooms b)) (f a_field (its_pool s rooms b)) o)
  member_map F G f (at_method h o) =
      let k = of_methods s rooms h.begun in
      let p = its_pool s rooms h.begun in
      at_method h (sort_map k p (length h.fields.list) h.fields.end.at h.fields.end.used (F k p) (G k p) (f k p) o)

  module _ (nr place : ℕ) where
    -- ---- the file

    from_front : refuse nr place ≡ front_at s rooms.cells rooms.interfaces → refuse nr place ≡ class_file s rooms
    unfolding class_file
    from_front e = rw (← e) refl

    from_tables : (b : Begun s rooms) → refuse nr place ≡ tables_at (marked b.front.head.flags) (its_pool s rooms b) rooms.members rooms.attributes b.front.next → refuse nr place ≡ class_file s rooms
    unfolding class_file
    from_tables b e = rw (← b.good_front, ← e) refl

    from_fields : (b : Begun s rooms) → refuse nr place ≡ sort_at a_field (its_pool s rooms b) rooms.members rooms.attributes 0 b.front.next 0 → refuse nr place ≡ class_file s rooms
    unfolding tables_at
    from_fields b e = from_tables b (rw (← e) refl)

    from_methods : (h : Halfway s rooms) → refuse nr place ≡ sort_at (of_methods s rooms h.begun) (its_pool s rooms h.begun) rooms.members rooms.attributes (length h.fields.list) h.fields.end.at h.fields.end.used → refuse nr place ≡ class_file s rooms
    unfolding tables_at
    from_methods h e = from_tables h.begun (rw (← h.good_fields, ← e) refl)

    from_own : (t : Tailed s rooms) → refuse nr place ≡ own_at (tail_pool s rooms t) rooms.attributes t.methods.end.used t.methods.end.at → refuse nr place ≡ class_file s rooms
    unfolding tables_at
    from_own t e = from_tables t.half.begun (rw (← t.half.good_fields, ← t.good_methods, ← e) refl)

    -- ---- interfaces

    pub interface_back : InInterface s rooms (λ p n at. refuse nr place ≡ interface_at p rooms.interfaces n at) → refuse nr place ≡ class_file s rooms
    unfolding front_at interfaces_at
    interface_back i =
        let e = stop_back (interface_at i.whole.pool rooms.interfaces) past i.number 0 (i.whole.next + 6 + 2) nr place i.stop in
        from_front (rw (← i.good_pool, ← i.good_head, ← i.was_read, ← e) refl)

    -- ---- members

    sort_back : (k : Sort) (p : Pool) (n at used : ℕ) → OfSort s rooms k p n at used (λ m r. refuse nr place ≡ whole_at k p rooms.members rooms.attributes m r) → refuse nr place ≡ sort_at k p rooms.members rooms.attributes n at used
    unfolding sort_at
    sort_back k p n at used o = rw (← o.was_read) (stop_back (whole_at k p rooms.members rooms.attributes) reach o.number n (begun_at (at + 2) used) nr place o.stop)

    pub member_back : InMember s rooms (λ k p n r. refuse nr place ≡ whole_at k p rooms.members rooms.attributes n r) → refuse nr place ≡ class_file s rooms
    member_back (at_field b o) = from_fields b (sort_back a_field (its_pool s rooms b) 0 b.front.next 0 o)
    member_back (at_method h o) = from_methods h (sort_back (of_methods s rooms h.begun) (its_pool s rooms h.begun) (length h.fields.list) h.fields.end.at h.fields.end.used o)

    -- an attribute of a member
    pub attribute_back : (k : Sort) (p : Pool) (n : ℕ) (r : Reached) → OfMember s rooms k p n r (λ p m at. refuse nr place ≡ record_at false p rooms.attributes m at) → refuse nr place ≡ whole_at k p rooms.members rooms.attributes n r
    unfolding whole_at
    attribute_back k p n r o =
        let e = stop_back (record_at false p rooms.attributes) body_end o.member.count r.used (r.at + 8) nr place o.stop in
        rw (← o.good_member, ← e) refl

    -- ---- the class's own attributes, and the end

    pub own_back : InOwn s rooms (λ p n at. refuse nr place ≡ record_at true p rooms.attributes n at) → refuse nr place ≡ class_file s rooms
    unfolding own_at
    own_back o =
        let t = o.tail in
        let e = stop_back (record_at true (tail_pool s rooms t) rooms.attributes) body_end t.number t.methods.end.used (t.methods.end.at + 2) nr place o.stop in
        from_own t (rw (← t.was_read, ← e) refl)

    pub end_back : (e : Ended s rooms) → refuse nr place ≡ end_at (end_pool s rooms e) e.own.end (names_of s rooms e) (bodies_of s rooms e) → refuse nr place ≡ class_file s rooms
    unfolding own_at
    end_back e h = from_own e.tail (rw (← e.tail.was_read, ← e.good_own, ← h) refl)
