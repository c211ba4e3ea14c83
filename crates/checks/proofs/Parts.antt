-- The bytes of a Utf8 entry of an accepted pool are as many as it says, all of them before the byte after the pool: the part of the file that a lookup hands back is never cut. Assumes nothing.
use mathlib.Core.Path.{◌≡◌, refl, ap}
use mathlib.Core.Bool.{Bool, true, false, cond}
use mathlib.Core.List.{List}
use Prim.Native.Nat.{ℕ, ◌+◌, ◌≤◌, ◌<◌}
use native.Mathlib.Omega.{arith}
use lib.ListN.{length, drop, length-drop}
use lib.Seq.{length-take-le}
use lib.Dec.{eqb}
use borrow.Author.Tests.{eqb-false}
use Rattle.reads.specs.Answer.{accept}
use Rattle.reads.specs.Bytes.{num1}
use Rattle.pool.specs.Kinds as kind
use Rattle.pool.specs.Pool.{Pool, Whole}
use Rattle.pool.proofs.Slots.{its_file}
use Rattle.pool.proofs.Entered.{cells_entered, utf8_read}
use Rattle.slot.specs.Slots.{cell, tag_of, field, bytes_of}
use Rattle.checks.specs.Checks.{pool}
use Rattle.checks.proofs.Room.{was_read}

-- what has a tag has a cell, and the tag stands there
tag_at : (p : Pool) (m t : ℕ) → 0 < t → tag_of p m ≡ t → (0 < cell p m) × (num1 p.file (cell p m) ≡ t)
unfolding tag_of
tag_at p m t h e = go (eqb (cell p m) 0) refl e
  where
    go : (b : Bool) → eqb (cell p m) 0 ≡ b → cond b 0 (num1 p.file (cell p m)) ≡ t → (0 < cell p m) × (num1 p.file (cell p m) ≡ t)
    go true q e = absurd (omega (arith, e))
    go false q e = (let d = eqb-false (cell p m) 0 q in omega arith, e)

module _ (s : List ℕ) (room : ℕ) (w : Whole) (e : accept w ≡ pool s room) (m : ℕ) (u : tag_of w.pool m ≡ kind.utf8) where
  pub utf8_before_end : (cell w.pool m + 3 + field w.pool m 1 ≤ w.next) × (cell w.pool m + 3 + field w.pool m 1 ≤ length s)
  unfolding field
  utf8_before_end =
      let r = was_read s room w e in
      let f = its_file s room w r in
      let t = tag_at w.pool m 1 (omega arith) u in
      rw f (utf8_read s w.pool.major w.next (cell w.pool m) (cells_entered s room w r m t.0) (rw f at t.1))

  pub utf8_whole : length (bytes_of w.pool m) ≡ field w.pool m 1
  unfolding bytes_of
  utf8_whole =
      let f = ap (λ (x : List ℕ). length x) (its_file s room w (was_read s room w e)) in
      let l = length-drop (cell w.pool m + 3) w.pool.file in
      length-take-le (field w.pool m 1) (drop (cell w.pool m + 3) w.pool.file) (omega (arith, f, l, utf8_before_end.1))
