-- Less room for the pool's table changes nothing but that refusal 5 is given, at the first slot that has no cell. Assumes nothing.
use Prim.Native.Nat.{ℕ, zero, suc, ◌+◌, ◌-◌, ◌≤◌}
use native.Mathlib.Omega.{arith}
use mathlib.Core.Path.{◌≡◌, refl, ap}
use mathlib.Core.Bool.{Bool, true, false}
use mathlib.Core.List.{List, [], ◌∷◌, ◌++◌}
use mathlib.Core.Logic.{◌⊎◌, inl, inr, ⊎_elim}
use lib.ListN.{length, length-append}
use lib.Dec.{ltb}
use borrow.Author.Tests.{ltb-true, ltb-false, lt-ltb, le-ltb}
use Rattle.reads.specs.Answer.{Answer, accept, refuse, ◌>>=◌}
use Rattle.pool.specs.Pool.{room_for, slot_at, entries, all_entries, header_of, read_pool}
use Rattle.pool.proofs.Entries.{slot_in}
use Rattle.checks.specs.Checks.{pool}

-- x is y, or the refusal 5 at `room`
abbrev Less : {A : Type 0} → ℕ → Answer A → Answer A → Type 0
Less room x y = (x ≡ y) ⊎ (x ≡ refuse 5 room)

-- the same line first, and lines after it that are the same but for room
same_first : {A B : Type 0} (room : ℕ) (x : Answer A) (f g : A → Answer B) → ((a : A) → accept a ≡ x → Less room (f a) (g a)) → Less room (x >>= f) (x >>= g)
same_first room (accept a) f g h = h a refl
same_first room (refuse nr place) f g h = inl refl

-- a line that is the same but for room, and the same lines after it
same_rest : {A B : Type 0} (room : ℕ) (x y : Answer A) (f : A → Answer B) → Less room x y → Less room (x >>= f) (y >>= f)
same_rest room x y f h = ⊎_elim (λ e. inl (ap (λ z. z >>= f) e)) (λ e. inr (ap (λ z. z >>= f) e)) h

module _ (s : List ℕ) (major room more : ℕ) (l : room ≤ more) where
  -- a cell for slot n is asked for first
  cell_less : {A : Type 0} (n : ℕ) (x : Answer A) → n ≤ room → Less room (room_for room n >>= λ _. x) (room_for more n >>= λ _. x)
  cell_less n x h = go (ltb n room) refl
    where
      go : (t : Bool) → ltb n room ≡ t → Less room (room_for room n >>= λ _. x) (room_for more n >>= λ _. x)
      go true q =
          let k = ltb-true n room q in
          inl (simp (q, lt-ltb n more (omega arith)))
      go false q =
          let k = ltb-false n room q in
          let z : n ≡ room = omega arith in
          inr (rw z (simp (le-ltb room room (omega arith))))

  slot_less : (n : ℕ) (owed : Bool) (at : ℕ) → n ≤ room → Less room (slot_at s major room n owed at) (slot_at s major more n owed at)
  unfolding slot_at
  slot_less n owed at h = cell_less n _ h

  entries_less : (k : ℕ) (owed : Bool) (cells : List ℕ) (at : ℕ) → length cells ≤ room → Less room (entries k owed s major room cells at) (entries k owed s major more cells at)
  unfolding entries
  entries_less zero false cells at h = inl refl
  entries_less zero true cells at h = cell_less (length cells) _ h
  entries_less (suc k) owed cells at h = ⊎_elim
      (λ e. rw (← e) (same_first room (slot_at s major room (length cells) owed at) _ _ (λ a q.
      let b = slot_in s major room (length cells) owed at a q in
      let m : length (cells ++ a.cell ∷ []) ≡ length cells + 1 = simp length-append in
      entries_less k a.wide (cells ++ a.cell ∷ []) a.next (omega arith))))
      (λ e. inr (rw e refl))
      (slot_less (length cells) owed at h)

  all_less : (count : ℕ) → Less room (all_entries s major count room) (all_entries s major count more)
  unfolding all_entries
  all_less count = go (ltb 0 room) refl
    where
      go : (t : Bool) → ltb 0 room ≡ t → Less room (room_for room 0 >>= λ _. entries (count - 1) false s major room (0 ∷ []) 10) (room_for more 0 >>= λ _. entries (count - 1) false s major more (0 ∷ []) 10)
      go true q =
          let k = ltb-true 0 room q in
          rw (q, lt-ltb 0 more (omega arith)) (entries_less (count - 1) false (0 ∷ []) 10 (omega arith))
      go false q =
          let k = ltb-false 0 room q in
          let z : room ≡ 0 = omega arith in
          inr (rw z refl)

module _ (s : List ℕ) (room more : ℕ) (l : room ≤ more) where
  pub read_less : (read_pool s room ≡ read_pool s more) ⊎ (read_pool s room ≡ refuse 5 room)
  unfolding read_pool
  read_less = same_first room (header_of s) _ _ (λ h _. same_rest room (all_entries s h.major h.count room) (all_entries s h.major h.count more) _ (all_less s h.major room more l h.count))

  pub pool_less : (pool s room ≡ pool s more) ⊎ (pool s room ≡ refuse 5 room)
  unfolding pool
  pool_less = same_rest room (read_pool s room) (read_pool s more) _ read_less
