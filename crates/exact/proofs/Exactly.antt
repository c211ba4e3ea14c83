-- Refusals 13 to 18 of a class file, exactly: each is given where its fault is the first, and nowhere else. Assumes nothing.
use mathlib.Core.Path.{◌≡◌, refl}
use mathlib.Core.List.{List}
use mathlib.Core.Bool.{Bool, true, false}
use mathlib.Core.Logic.{◌↔◌}
use Prim.Native.Nat.{ℕ, ◌+◌, ◌≤◌}
use native.Mathlib.Omega.{arith}
use lib.ListN.{length}
use borrow.Author.Tests.{le-ltb, eq-eqb, ne_eqb}
use Rattle.reads.specs.Answer.{Answer, accept, refuse}
use Rattle.reads.specs.Bytes.{num2, u2}
use Rattle.reads.proofs.Leaves.{fits}
use Rattle.pool.specs.Pool.{Pool, slots}
use Rattle.bootstrap.specs.Bootstrap.{own_rule}
use Rattle.bootstrap.specs.Indices.{bootstrap_index, bootstrap_indices}
use Rattle.attributes.specs.Attributes.{ruled, record_at}
use Rattle.member.specs.Member.{parts_at, member_at}
use Rattle.member.specs.declared.Sort.{Sort}
use Rattle.class_head.specs.Header.{interface_at, past}
use Rattle.class.specs.Members.{Whole, Reached, whole_at}
use Rattle.class.specs.Class.{Rooms, end_at, class_file}
use Rattle.exact.specs.Turns.{InMember, InOwn, OfMember, Ended, end_pool, names_of, bodies_of, tail_pool}
use Rattle.exact.specs.Faults.{InterfaceFull, BadShape, Duplicate, MemberFull, AttributeFull, BadBody, NoRoom, an_interface, a_member, an_attribute, its_own, Twice, Misshapen, UpTo, NotOne, TooLarge, LeftOver, bytes, a_body}
use Rattle.attributes.specs.Attributes.{body_end}
use Rattle.exact.proofs.Lines.{stop_map, first_back}
use Rattle.exact.proofs.Back.{member_map, interface_back, member_back, attribute_back, own_back, end_back}
use Rattle.exact.proofs.Forth.{Fault, small, no_room, duplicate, misshapen, not_one, too_large, left_over, class_faults}

-- ---- from a fault to the refusal of one interface, member or attribute

two : (s : List ℕ) (at : ℕ) → at + 2 ≤ length s → accept (num2 s at) ≡ u2 s at
unfolding u2
two s at h = fits (accept (num2 s at)) s at 2 h

module _ (p : Pool) where
  interface_full : (room n at place : ℕ) → InterfaceFull p room n at place → refuse 13 place ≡ interface_at p room n at
  unfolding interface_at
  interface_full room n at place f = rw (f.here, ← two p.file at f.inside, ← f.good, le-ltb n room f.full) refl

  attribute_full : (own : Bool) (room n at place : ℕ) → AttributeFull own p room n at place → refuse 13 place ≡ record_at own p room n at
  unfolding record_at
  attribute_full own room n at place f = rw (f.here, ← f.framed, ← f.good, le-ltb n room f.full) refl

  own_body : (room n at place : ℕ) → BadBody p at place → refuse 18 place ≡ record_at true p room n at
  unfolding record_at ruled own_rule
  own_body room n at place f = rw (f.here, ← f.framed, f.named, ← f.body) refl

  module _ (k : Sort) (room limit n : ℕ) (r : Reached) (place : ℕ) where
    abbrev the_whole : Answer Whole
    the_whole = whole_at k p room limit n r

    bad_shape : BadShape k p r place → refuse 15 place ≡ the_whole
    unfolding whole_at member_at parts_at
    bad_shape f =
        let i = f.read.inside in
        rw (f.read.here, ← two p.file r.at (omega arith), ← two p.file (r.at + 2) (omega arith), ← two p.file (r.at + 4) (omega arith), ← f.name, ← f.descriptor, f.shape) refl

    again : Duplicate k p r place → refuse 14 place ≡ the_whole
    unfolding whole_at member_at
    again f =
        let i = f.read.inside in
        rw (f.read.here, ← two p.file r.at (omega arith), ← two p.file (r.at + 2) (omega arith), ← two p.file (r.at + 4) (omega arith), ← f.good, f.again) refl

    member_full : MemberFull k p room n r place → refuse 13 place ≡ the_whole
    unfolding whole_at member_at
    member_full f =
        let i = f.read.inside in
        rw (f.read.here, ← two p.file r.at (omega arith), ← two p.file (r.at + 2) (omega arith), ← two p.file (r.at + 4) (omega arith), ← f.good, f.new, le-ltb n room f.full) refl

-- ---- of the file

module _ (s : List ℕ) (rooms : Rooms) (place : ℕ) where
  from_member : (nr : ℕ) (F : Sort → Pool → ℕ → Reached → Type 0) → ((k : Sort) (p : Pool) (n : ℕ) (r : Reached) → F k p n r → refuse nr place ≡ whole_at k p rooms.members rooms.attributes n r) → InMember s rooms F → refuse nr place ≡ class_file s rooms
  from_member nr F f i = member_back s rooms nr place (member_map s rooms F (λ k p n r. refuse nr place ≡ whole_at k p rooms.members rooms.attributes n r) f i)

  from_own : (nr : ℕ) (F : Pool → ℕ → ℕ → Type 0) → ((p : Pool) (n at : ℕ) → F p n at → refuse nr place ≡ record_at true p rooms.attributes n at) → InOwn s rooms F → refuse nr place ≡ class_file s rooms
  from_own nr F f o = own_back s rooms nr place (record { tail = o.tail; stop = stop_map (record_at true (tail_pool s rooms o.tail) rooms.attributes) body_end o.tail.number o.tail.methods.end.used (o.tail.methods.end.at + 2) (f (tail_pool s rooms o.tail)) o.stop })

  no_room_back : NoRoom s rooms place → refuse 13 place ≡ class_file s rooms
  no_room_back (an_interface i) = interface_back s rooms 13 place (record {
    whole = i.whole;
    good_pool = i.good_pool;
    head = i.head;
    good_head = i.good_head;
    number = i.number;
    was_read = i.was_read;
    stop = stop_map (interface_at i.whole.pool rooms.interfaces) past i.number 0 (i.whole.next + 6 + 2) (λ n at f. interface_full i.whole.pool rooms.interfaces n at place f) i.stop;
  })
  no_room_back (a_member i) = from_member 13 (λ k p n r. MemberFull k p rooms.members n r place) (λ k p n r f. member_full p k rooms.members rooms.attributes n r place f) i
  no_room_back (an_attribute i) = from_member 13 (λ k p n r. OfMember s rooms k p n r (λ p m at. AttributeFull false p rooms.attributes m at place)) (λ k p n r f.
      attribute_back s rooms 13 place k p n r (record { member = f.member; good_member = f.good_member; stop = stop_map (record_at false p rooms.attributes) body_end f.member.count r.used (r.at + 8) (λ m at g. attribute_full p false rooms.attributes m at place g) f.stop })) i
  no_room_back (its_own o) = from_own 13 (λ p n at. AttributeFull true p rooms.attributes n at place) (λ p n at f. attribute_full p true rooms.attributes n at place f) o

  module _ (e : Ended s rooms) where
    abbrev P : Pool
    P = end_pool s rooms e

    -- a Dynamic or an InvokeDynamic
    from_index : (nr : ℕ) → UpTo s rooms place e → refuse nr place ≡ bootstrap_index P (names_of s rooms e) (bodies_of s rooms e) place → refuse nr place ≡ class_file s rooms
    unfolding end_at bootstrap_indices
    from_index nr u h =
        let g = first_back (bootstrap_index P (names_of s rooms e) (bodies_of s rooms e)) (slots P) nr place (record { slot = u.slot; before = u.before; there = h }) in
        end_back s rooms nr place e (rw (eq-eqb _ _ u.no_bytes) g)

    from_bytes : place ≡ e.own.end → (e.own.end ≡ length P.file → ⊥) → refuse 18 place ≡ class_file s rooms
    unfolding end_at
    from_bytes h d = end_back s rooms 18 place e (rw (h, ne_eqb _ _ d) refl)

  one_back : NotOne s rooms place → refuse 16 place ≡ class_file s rooms
  unfolding bootstrap_index
  one_back f = from_index f.ended 16 f.up_to (rw (f.up_to.names_one, f.below, ne_eqb _ _ f.not_one) refl)

  large_back : TooLarge s rooms place → refuse 17 place ≡ class_file s rooms
  unfolding bootstrap_index
  large_back f = from_index f.ended 17 f.up_to (rw (f.up_to.names_one, f.too_large) refl)

  over_back : LeftOver s rooms place → refuse 18 place ≡ class_file s rooms
  over_back (bytes e h d) = from_bytes e h d
  over_back (a_body o) = from_own 18 (λ p n at. BadBody p at place) (λ p n at f. own_body p rooms.attributes n at place f) o

  -- ---- each number

  abbrev the_fault : (nr : ℕ) → refuse nr place ≡ class_file s rooms → Fault s rooms nr place
  the_fault nr e = (class_faults s rooms).with nr place e

  to_13 : Fault s rooms 13 place → NoRoom s rooms place
  to_13 (small l) = absurd (omega arith)
  to_13 (no_room y f) = f
  to_13 (duplicate y f) = absurd (omega arith)
  to_13 (misshapen y f) = absurd (omega arith)
  to_13 (not_one y f) = absurd (omega arith)
  to_13 (too_large y f) = absurd (omega arith)
  to_13 (left_over y f) = absurd (omega arith)

  to_14 : Fault s rooms 14 place → Twice s rooms place
  to_14 (small l) = absurd (omega arith)
  to_14 (no_room y f) = absurd (omega arith)
  to_14 (duplicate y f) = f
  to_14 (misshapen y f) = absurd (omega arith)
  to_14 (not_one y f) = absurd (omega arith)
  to_14 (too_large y f) = absurd (omega arith)
  to_14 (left_over y f) = absurd (omega arith)

  to_15 : Fault s rooms 15 place → Misshapen s rooms place
  to_15 (small l) = absurd (omega arith)
  to_15 (no_room y f) = absurd (omega arith)
  to_15 (duplicate y f) = absurd (omega arith)
  to_15 (misshapen y f) = f
  to_15 (not_one y f) = absurd (omega arith)
  to_15 (too_large y f) = absurd (omega arith)
  to_15 (left_over y f) = absurd (omega arith)

  to_16 : Fault s rooms 16 place → NotOne s rooms place
  to_16 (small l) = absurd (omega arith)
  to_16 (no_room y f) = absurd (omega arith)
  to_16 (duplicate y f) = absurd (omega arith)
  to_16 (misshapen y f) = absurd (omega arith)
  to_16 (not_one y f) = f
  to_16 (too_large y f) = absurd (omega arith)
  to_16 (left_over y f) = absurd (omega arith)

  to_17 : Fault s rooms 17 place → TooLarge s rooms place
  to_17 (small l) = absurd (omega arith)
  to_17 (no_room y f) = absurd (omega arith)
  to_17 (duplicate y f) = absurd (omega arith)
  to_17 (misshapen y f) = absurd (omega arith)
  to_17 (not_one y f) = absurd (omega arith)
  to_17 (too_large y f) = f
  to_17 (left_over y f) = absurd (omega arith)

  to_18 : Fault s rooms 18 place → LeftOver s rooms place
  to_18 (small l) = absurd (omega arith)
  to_18 (no_room y f) = absurd (omega arith)
  to_18 (duplicate y f) = absurd (omega arith)
  to_18 (misshapen y f) = absurd (omega arith)
  to_18 (not_one y f) = absurd (omega arith)
  to_18 (too_large y f) = absurd (omega arith)
  to_18 (left_over y f) = f

  pub thirteen : (refuse 13 place ≡ class_file s rooms) ↔ NoRoom s rooms place
  thirteen = (λ e. to_13 (the_fault 13 e), no_room_back)

  pub fourteen : (refuse 14 place ≡ class_file s rooms) ↔ Twice s rooms place
  fourteen = (λ e. to_14 (the_fault 14 e), from_member 14 (λ k p n r. Duplicate k p r place) (λ k p n r f. again p k rooms.members rooms.attributes n r place f))

  pub fifteen : (refuse 15 place ≡ class_file s rooms) ↔ Misshapen s rooms place
  fifteen = (λ e. to_15 (the_fault 15 e), from_member 15 (λ k p n r. BadShape k p r place) (λ k p n r f. bad_shape p k rooms.members rooms.attributes n r place f))

  pub sixteen : (refuse 16 place ≡ class_file s rooms) ↔ NotOne s rooms place
  sixteen = (λ e. to_16 (the_fault 16 e), one_back)

  pub seventeen : (refuse 17 place ≡ class_file s rooms) ↔ TooLarge s rooms place
  seventeen = (λ e. to_17 (the_fault 17 e), large_back)

  pub eighteen : (refuse 18 place ≡ class_file s rooms) ↔ LeftOver s rooms place
  eighteen = (λ e. to_18 (the_fault 18 e), over_back)
