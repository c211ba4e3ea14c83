-- With 65,536 cells no reading is refused for want of one, and none makes more slots. Assumes nothing.
use mathlib.Core.Path.{◌≡◌, refl, ap, sym}
use mathlib.Core.Bool.{Bool, true, false, ◌&&◌, cond}
use mathlib.Core.List.{List, [], ◌∷◌, ◌++◌}
use Prim.Native.Nat.{ℕ, zero, suc, ◌+◌, ◌-◌, ◌≤◌, ◌<◌}
use native.Mathlib.Omega.{arith}
use lib.ListN.{length, get_or}
use lib.Dec.{leb, eqb}
use borrow.Author.Tests.{lt-ltb, ne_eqb}
use Rattle.reads.specs.Answer.{Answer, Check, accept, refuse, ◌>>=◌, require, each}
use Rattle.reads.specs.Bytes.{num2, within, u1, u2, u4, skipped}
use Rattle.reads.proofs.Answers.{never}
pub use Rattle.reads.proofs.Leaves.{Bytes}
use Rattle.reads.proofs.Leaves.{pair_below}
use Rattle.reads.proofs.Tables.{longer}
use Rattle.pool.specs.declared.Header.{Header}
use Rattle.pool.specs.Kinds as kind
use Rattle.pool.specs.Rows.{since, first as width, second, row_of}
use Rattle.pool.specs.Pool.{Whole, second_width, entry_at, slot_at, entries, all_entries, header_of, read_pool, slots}
use Rattle.pool.proofs.Slots.{made, wide_at, header_is, slots_made}

-- ---- answers that are no refusal 5

unfoldable pub Not5 : {A : Type 0} → Answer A → Type 0
Not5 (accept a) = Unit {0}
Not5 (refuse nr place) = nr ≡ 5 → ⊥

pub ok : {A : Type 0} (a : A) → Not5 (accept a)
unfolding Not5
ok a = tt

pub then : {A B : Type 0} (x : Answer A) (f : A → Answer B) → Not5 x → ((a : A) → accept a ≡ x → Not5 (f a)) → Not5 (x >>= f)
unfolding Not5
then (accept a) f p q = q a refl
then (refuse nr place) f p q = p

pub need : (t : Bool) (nr place : ℕ) → (nr ≡ 5 → ⊥) → Not5 (require t nr place)
unfolding Not5
need true nr place h = tt
need false nr place h = h

pub pick : {A : Type 0} (t : Bool) (x y : Answer A) → Not5 x → Not5 y → Not5 (cond t x y)
pick true x y p q = p
pick false x y p q = q

pub pick_nr : (t : Bool) (a b : ℕ) → (a ≡ 5 → ⊥) → (b ≡ 5 → ⊥) → cond t a b ≡ 5 → ⊥
pick_nr true a b p q = p
pick_nr false a b p q = q

pub all : (k i : ℕ) (f : ℕ → Check) → ((n : ℕ) → Not5 (f n)) → Not5 (each k i f)
unfolding each
all zero i f h = ok tt
all (suc k) i f h = then (f i) _ (h i) (λ _ _. all k (i + 1) f h)

-- a refusal 5 is none of these
pub said : {A : Type 0} (x : Answer A) → Not5 x → (place : ℕ) → refuse 5 place ≡ x → ⊥
unfolding Not5
said (accept a) p place e = never (sym e)
said (refuse nr q) p place e =
    let n : nr ≡ 5 = cc in
    p n

-- ---- reads

module _ (s : List ℕ) where
  within_5 : (at n : ℕ) → Not5 (within s at n)
  unfolding within
  within_5 at n = need (leb (at + n) (length s)) 2 at (λ e. omega arith)

  u1_5 : (at : ℕ) → Not5 (u1 s at)
  unfolding u1
  u1_5 at = then (within s at 1) _ (within_5 at 1) (λ _ _. ok _)

  u2_5 : (at : ℕ) → Not5 (u2 s at)
  unfolding u2
  u2_5 at = then (within s at 2) _ (within_5 at 2) (λ _ _. ok _)

  u4_5 : (at : ℕ) → Not5 (u4 s at)
  unfolding u4
  u4_5 at = then (within s at 4) _ (within_5 at 4) (λ _ _. ok _)

  skipped_5 : (at n : ℕ) → Not5 (skipped s at n)
  unfolding skipped
  skipped_5 at n = then (within s at n) _ (within_5 at n) (λ _ _. ok _)

  second_5 : (at t width : ℕ) → Not5 (second_width s at t width)
  unfolding second_width
  second_5 at t width =
      pick (eqb t kind.utf8) _ _ (u2_5 at)
      (pick (eqb t kind.method_handle) _ _ (then (u1 s at) _ (u1_5 at) (λ k _. then (require (leb 1 k && leb k 9) 4 at) _ (need (leb 1 k && leb k 9) 4 at (λ e. omega arith)) (λ _ _. ok _))) (ok _))

  entry_5 : (major at : ℕ) → Not5 (entry_at s major at)
  unfolding entry_at
  entry_5 major at =
      then (u1 s at) _ (u1_5 at) (λ t _.
      then (require (leb (since (row_of t)) major) 4 at) _ (need (leb (since (row_of t)) major) 4 at (λ e. omega arith)) (λ _ _.
      then (skipped s (at + 1) (width (row_of t))) _ (skipped_5 (at + 1) (width (row_of t))) (λ m _.
      then (second_width s (at + 1) t (second (row_of t))) _ (second_5 (at + 1) t (second (row_of t))) (λ w _.
      then (skipped s m w) _ (skipped_5 m w) (λ _ _. ok _)))))

  header_5 : Not5 (header_of s)
  unfolding header_of
  header_5 =
      then (require (leb (length s) 16777216) 1 0) _ (need (leb (length s) 16777216) 1 0 (λ e. omega arith)) (λ _ _.
      then (u4 s 0) _ (u4_5 0) (λ m _.
      then (require (eqb m 0xCAFEBABE) 3 0) _ (need (eqb m 0xCAFEBABE) 3 0 (λ e. omega arith)) (λ _ _.
      then (u2 s 4) _ (u2_5 4) (λ _ _.
      then (u2 s 6) _ (u2_5 6) (λ _ _.
      then (u2 s 8) _ (u2_5 8) (λ _ _. ok _))))))

-- ---- all entries: k slots more and one Unused have their cells

module _ (s : List ℕ) (major room : ℕ) where
  slot_5 : (n : ℕ) (owed : Bool) (at : ℕ) → n < room → Not5 (slot_at s major room n owed at)
  unfolding slot_at
  slot_5 n owed at h = rw (lt-ltb n room h) (pick owed _ _ (ok _) (then (entry_at s major at) _ (entry_5 s major at) (λ _ _. ok _)))

  entries_5 : (k : ℕ) (owed : Bool) (cells : List ℕ) (at : ℕ) → length cells + k < room → Not5 (entries k owed s major room cells at)
  unfolding entries
  entries_5 zero false cells at h = ok _
  entries_5 zero true cells at h = rw (lt-ltb (length cells) room (omega arith)) (ok _)
  entries_5 (suc k) owed cells at h =
      then (slot_at s major room (length cells) owed at) _ (slot_5 (length cells) owed at (omega arith)) (λ e _. entries_5 k e.wide (cells ++ e.cell ∷ []) e.next (omega (arith, longer cells e.cell)))

  entries_5_all : (count : ℕ) → count < room → 1 < room → Not5 (all_entries s major count room)
  unfolding all_entries
  entries_5_all count h g = rw (lt-ltb 0 room (omega arith)) (entries_5 (count - 1) false (0 ∷ []) 10 (omega arith))

-- ---- the count is below 65,536

made_few : (count : ℕ) (w : Bool) → count < 65536 → made count w ≤ 65536
made_few zero w h = omega arith
made_few (suc c) true h = rw (ne_eqb (suc c) 0 (λ z. omega arith)) (omega arith)
made_few (suc c) false h = rw (ne_eqb (suc c) 0 (λ z. omega arith)) (omega arith)

module _ (s : List ℕ) (b : Bytes s) where
  count_below : (h : Header) → accept h ≡ header_of s → h.count < 65536
  count_below h e = omega (arith, ap (λ (x : Header). x.count) (header_is s h e), pair_below s b 8)

  pub entries_never_5 : Not5 (read_pool s 65536)
  unfolding read_pool
  entries_never_5 =
      then (header_of s) _ (header_5 s) (λ h e.
      then (all_entries s h.major h.count 65536) _ (entries_5_all s h.major 65536 h.count (count_below h e) (omega arith)) (λ _ _. ok _))

  -- with 65,536 cells no reading is refused for want of one
  pub enough_to_read : (place : ℕ) → refuse 5 place ≡ read_pool s 65536 → ⊥
  enough_to_read = said (read_pool s 65536) entries_never_5

  -- an accepted reading makes at most 65,536 slots
  pub few_read : (room : ℕ) (w : Whole) → accept w ≡ read_pool s room → slots w.pool ≤ 65536
  few_read room w e = rw (slots_made s room w e) (made_few (num2 s 8) (wide_at s (get_or w.pool.cells (num2 s 8 - 1) 0)) (pair_below s b 8))
