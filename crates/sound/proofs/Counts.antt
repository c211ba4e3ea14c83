-- How many slots and attribute records an accepted file has: a record takes six bytes of the file at least. So the numbers for C lose nothing. Assumes nothing.
use mathlib.Core.Path.{◌≡◌, ap, ◌∙◌}
use mathlib.Core.List.{List, [], ◌∷◌}
use Prim.Native.Nat.{ℕ, ◌+◌, ◌*◌, ◌%◌, ◌≤◌}
use native.Mathlib.Omega.{arith}
use native.Mathlib.Nat.{mod-eq_of_lt}
use lib.ListN.{length}
use Rattle.reads.specs.Answer.{accept}
use Rattle.reads.proofs.Answers.{first}
use Rattle.pool.specs.Pool.{Pool, slots}
use Rattle.pool.proofs.Room.{Bytes}
use Rattle.checks.specs.Checks.{pool}
use Rattle.pool.proofs.Slots.{its_file}
use Rattle.checks.proofs.Room.{was_read, few_slots}
use Rattle.attributes.specs.declared.Attribute.{Attribute}
use Rattle.attributes.specs.Sound.{Tiles}
use Rattle.class.specs.Members.{Whole}
use Rattle.class.specs.Class.{Rooms, Tables, Class, marked, front_at, tables_at, class_file}
use Rattle.class.proofs.Fronts.{front_pool, not_too_long}
use Rattle.sound.specs.Sound.{InOrder, SoundTables}
use Rattle.sound.proofs.Accepted.{class_sound}

-- attributes that tile the file take six bytes each at least
tiles_long : (p : Pool) (at : ℕ) (xs : List Attribute) (end : ℕ) → Tiles p at xs end → at + 6 * length xs ≤ end
tiles_long p at [] end e = omega (arith, e)
tiles_long p at (a ∷ xs) end e = omega (arith, e.0.begins, tiles_long p (a.start + a.size) xs end e.1)

-- .. and so do those of members
order_long : (p : Pool) (at used : ℕ) (ws : List Whole) (end made : ℕ) → InOrder p at used ws end made → (at ≤ end) × (at + 6 * made ≤ end + 6 * used)
order_long p at used [] end made e = (omega (arith, e.0), omega (arith, e.0, e.1))
order_long p at used (w ∷ ws) end made e =
    let t = tiles_long p (at + 8) w.attributes w.next e.0.tiles in
    let r = order_long p w.next (used + w.member.count) ws end made e.1 in
    (omega (arith, t, r.0), omega (arith, t, r.1, e.0.count))

tables_long : (p : Pool) (at : ℕ) (t : Tables) → SoundTables p at t → 6 * t.used ≤ length p.file
tables_long p at t s =
    let f = order_long p (at + 2) 0 t.fields s.middle s.made s.fields in
    let m = order_long p (s.middle + 2) s.made t.methods s.last t.used s.methods in
    let o = tiles_long p (s.last + 2) t.own (length p.file) s.own in
    omega (arith, f.1, m.1, o)

module _ (s : List ℕ) (rooms : Rooms) (c : Class) (e : accept c ≡ class_file s rooms) where
  was_pool : accept c.front.pool ≡ pool s rooms.cells
  unfolding class_file
  was_pool =
      let f = first (front_at s rooms.cells rooms.interfaces) _ c e in
      let t = first (tables_at (marked f.0.head.flags) f.0.pool.pool rooms.members rooms.attributes f.0.next) _ c f.2 in
      let z : c.front ≡ f.0 = cc in
      front_pool s rooms.cells rooms.interfaces c.front (ap accept z ∙ f.1)

  -- the members' attribute records take six bytes of the file each at least
  pub few_attributes : 6 * c.tables.used ≤ 16777216
  few_attributes =
      let t = class_sound s rooms c e in
      let l = tables_long c.front.pool.pool c.front.next c.tables t in
      let f = its_file s rooms.cells c.front.pool (was_read s rooms.cells c.front.pool was_pool) in
      omega (arith, rw f at l, not_too_long s rooms.cells c.front.pool was_pool)

  -- so what the call for C answers, as numbers below 2 ^ 32, is what the reader answers
  pub whole_numbers : Bytes s → (slots c.front.pool.pool % 4294967296 ≡ slots c.front.pool.pool) × (c.tables.used % 4294967296 ≡ c.tables.used)
  whole_numbers b = (mod-eq_of_lt (omega (arith, few_slots s rooms.cells c.front.pool was_pool b)), mod-eq_of_lt (omega (arith, few_attributes)))
