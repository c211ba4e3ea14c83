-- Room for one slot more than the count, or for a third of the bytes, is room enough: more changes nothing. Assumes nothing.
use mathlib.Core.Path.{◌≡◌, refl, ap}
use mathlib.Core.Bool.{Bool, true, false}
use mathlib.Core.List.{List, [], ◌∷◌, ◌++◌}
use Prim.Native.Nat.{ℕ, zero, suc, ◌+◌, ◌-◌, ◌/◌, ◌≤◌, ◌<◌, min}
use native.Mathlib.Omega.{arith}
use lib.ListN.{length}
use lib.Dec.{leb}
use borrow.Author.Tests.{lt-ltb, leb-true, leb-false}
use Rattle.reads.specs.Bytes.{num2}
use Rattle.reads.proofs.Answers.{alike}
use Rattle.reads.proofs.Leaves.{Bytes, pair_below}
use Rattle.reads.proofs.Tables.{longer}
use Rattle.pool.specs.declared.Header.{Header}
use Rattle.pool.specs.Pool.{slot_at, entries, all_entries, header_of, read_pool}
use Rattle.pool.proofs.Slots.{header_is}
use Rattle.pool.proofs.Size.{read_by_size}
use Rattle.checks.specs.Checks.{pool}
use Rattle.byte_tables.specs.Enough.{enough_for}

module _ (s : List ℕ) (major q r : ℕ) where
  slot_same : (n : ℕ) (owed : Bool) (at : ℕ) → n < q → n < r → slot_at s major q n owed at ≡ slot_at s major r n owed at
  unfolding slot_at
  slot_same n owed at a b = simp (lt-ltb n q a, lt-ltb n r b)

  entries_same : (k : ℕ) (owed : Bool) (cells : List ℕ) (at : ℕ) → length cells + k < q → length cells + k < r → entries k owed s major q cells at ≡ entries k owed s major r cells at
  unfolding entries
  entries_same zero false cells at a b = refl
  entries_same zero true cells at a b = simp (lt-ltb (length cells) q (omega arith), lt-ltb (length cells) r (omega arith))
  entries_same (suc k) owed cells at a b =
      rw (slot_same (length cells) owed at (omega arith) (omega arith))
      (alike (slot_at s major r (length cells) owed at) _ _ (λ e _.
      let m = longer cells e.cell in
      entries_same k e.wide (cells ++ e.cell ∷ []) e.next (omega arith) (omega arith)))

  all_same : (count : ℕ) → count < q → count < r → all_entries s major count q ≡ all_entries s major count r
  unfolding all_entries entries
  all_same zero a b = simp (lt-ltb 0 q (omega arith), lt-ltb 0 r (omega arith))
  all_same (suc k) a b = simp (lt-ltb 0 q (omega arith), lt-ltb 0 r (omega arith)) (entries_same (suc k - 1) false (0 ∷ []) 10 (omega arith) (omega arith))

module _ (s : List ℕ) (b : Bytes s) where
  by_count : (q r : ℕ) → num2 s 8 < q → num2 s 8 < r → read_pool s q ≡ read_pool s r
  unfolding read_pool
  by_count q r f g = alike (header_of s) _ _ (λ h e.
      let k = ap (λ (x : Header). x.count) (header_is s h e) in
      rw (all_same s h.major q r h.count (omega arith) (omega arith)) refl)

  pub read_same : (q r : ℕ) → enough_for s ≤ q → enough_for s ≤ r → read_pool s q ≡ read_pool s r
  read_same q r f g = by_test (leb (num2 s 8 + 1) (length s / 3)) refl
    where
      by_test : (t : Bool) → leb (num2 s 8 + 1) (length s / 3) ≡ t → read_pool s q ≡ read_pool s r
      by_test true h =
          let k = leb-true (num2 s 8 + 1) (length s / 3) h in
          by_count q r (omega arith) (omega arith)
      by_test false h =
          let k = leb-false (num2 s 8 + 1) (length s / 3) h in
          read_by_size s b q r (omega arith) (omega arith)

  pub enough_few : enough_for s ≤ 65536
  enough_few = omega (arith, pair_below s b 8)

  -- as much room as there is, or as the file can need
  pub enough : (room n : ℕ) → n ≡ min room (enough_for s) → pool s n ≡ pool s room
  unfolding pool
  enough room n e = by_room (leb (enough_for s) room) refl
    where
      by_room : (t : Bool) → leb (enough_for s) room ≡ t → pool s n ≡ pool s room
      by_room true h =
          let g = leb-true (enough_for s) room h in
          rw (read_same n room (omega arith) g) refl
      by_room false h =
          let g = leb-false (enough_for s) room h in
          let k : n ≡ room = omega arith in
          rw k refl
