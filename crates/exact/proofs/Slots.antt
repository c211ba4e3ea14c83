-- Refusals 6 to 11 of a pool stand at the first slot that breaks a rule; while its entries are read it gives 1 to 5. Assumes nothing.
use mathlib.Core.Path.{◌≡◌, refl, sym, ◌∙◌}
use mathlib.Core.Bool.{Bool, true, false, not, ◌&&◌, ◌||◌, cond}
use mathlib.Core.List.{List, [], ◌∷◌, ◌++◌}
use mathlib.Core.Logic.{◌↔◌}
use Prim.Native.Nat.{ℕ, zero, suc, ◌+◌, ◌-◌, ◌≤◌, ◌<◌}
use native.Mathlib.Omega.{arith}
use lib.ListN.{length}
use lib.Dec.{leb, ltb, eqb}
use borrow.Author.Tests.{eqb-true, eqb-false, ltb-false, le-ltb, eq-eqb, ne_eqb}
use Rattle.reads.specs.Answer.{Answer, Check, accept, fine, refuse, ◌>>=◌, require, each}
use Rattle.reads.specs.Bytes.{within, u1, u2, u4, skipped}
use Rattle.reads.proofs.Answers.{never, each_at}
use Rattle.text.specs.Text.{is_text, binary}
use Rattle.descriptors.specs.Descriptors.{stands, array_descriptor}
use Rattle.pool.specs.Kinds as kind
use Rattle.pool.specs.Rows.{since, first as width, second, one, other, row_of}
use Rattle.pool.specs.Pool.{Pool, Whole, room_for, second_width, entry_at, slot_at, entries, all_entries, header_of, read_pool, slots}
use Rattle.slot.specs.Slots.{tag_of, field, bytes_of, of_kind, text_at, text_of, class_name, class_text, typed}
use Rattle.checks.specs.Checks.{reference, references, handle, member, name_and_type, Rule, rules, follow, obey, checked, pool}
use Rattle.exact.specs.Pools.{Broken, a_reference, a_rule, BrokenPool, BadReference, itself, no_slot, BadReferences, the_first, the_second}
use Rattle.exact.proofs.Lines.{Refuses, done, then, need, pick, all, weaken, moved, failed, first_to, first_back}

-- ---- a check of slot `place` refuses there, with 6 to 11

abbrev pub Own : ℕ → ℕ → ℕ → Type 0
Own n nr place = (place ≡ n) × (6 ≤ nr) × (nr ≤ 11)

one_of_two : (t : Bool) → (6 ≤ cond t 11 10) × (cond t 11 10 ≤ 11)
one_of_two true = (omega arith, omega arith)
one_of_two false = (omega arith, omega arith)

module _ (p : Pool) (place : ℕ) where
  abbrev Here : {A : Type 0} → Answer A → Type 0
  Here x = Refuses (Own place) x

  required : (t : Bool) (nr : ℕ) → 6 ≤ nr → nr ≤ 11 → Here (require t nr place)
  required t nr l h = need t nr place (λ _. (refl, l, h))

  pub kind_here : (allowed m : ℕ) → Here (of_kind p place allowed m)
  unfolding of_kind
  kind_here allowed m = required (kind.has allowed (tag_of p m)) 8 (omega arith) (omega arith)

  pub text_here : (m : ℕ) → Here (text_at p place m)
  unfolding text_at
  text_here m = then (of_kind p place _ m) _ (kind_here _ m) (λ _ _. required (is_text (bytes_of p m)) 9 (omega arith) (omega arith))

  text_of_here : (good : List ℕ → Bool) (nr m : ℕ) → 6 ≤ nr → nr ≤ 11 → Here (text_of good nr p place m)
  unfolding text_of
  text_of_here good nr m l h = then (text_at p place m) _ (text_here m) (λ _ _. required (good (bytes_of p m)) nr l h)

  class_here : (m : ℕ) → Here (class_text p place m)
  unfolding class_text class_name
  class_here m = then (text_at p place m) _ (text_here m) (λ _ _.
      let k = one_of_two (stands 0x5B 0 (bytes_of p m)) in
      required (binary (bytes_of p m) || array_descriptor (bytes_of p m)) _ k.0 k.1)

  typed_here : (good : List ℕ → Bool) (m : ℕ) → Here (typed good p place m)
  unfolding typed
  typed_here good m = then (of_kind p place _ m) _ (kind_here _ m) (λ _ _. text_of_here good 11 _ (omega arith) (omega arith))

  member_here : (good : List ℕ → Bool) → Here (member good p place)
  unfolding member
  member_here good = then (of_kind p place _ _) _ (kind_here _ _) (λ _ _. typed_here good _)

  pair_here : Here (name_and_type p place)
  unfolding name_and_type
  pair_here = then (text_of _ 10 p place _) _ (text_of_here _ 10 _ (omega arith) (omega arith)) (λ _ _. kind_here _ _)

  handle_here : Here (handle p place)
  unfolding handle
  handle_here = kind_here _ _

  reference_here : (k : ℕ) → Here (reference p place k)
  unfolding reference
  reference_here k = pick (eqb k 0) _ _ (λ _. done _) (λ _.
      then (require (not (eqb (field p place k) place)) 6 place) _ (required (not (eqb (field p place k) place)) 6 (omega arith) (omega arith)) (λ _ _.
      required (ltb (field p place k) (slots p)) 7 (omega arith) (omega arith)))

  references_here : Here (references p place)
  unfolding references
  references_here = then (reference p place _) _ (reference_here _) (λ _ _. reference_here _)

  -- the rules of a list
  abbrev All : List Rule → Type 0
  All [] = Unit {0}
  All (r ∷ rs) = Here (r.1 p place) × All rs

  follow_here : (rs : List Rule) (t : ℕ) → All rs → Here (follow rs t p place)
  follow_here [] t h = done tt
  follow_here (r ∷ rs) t h = pick (eqb t r.0) _ _ (λ _. h.0) (λ _. follow_here rs t h.1)

infixr 5 ◌&◌
◌&◌ : {A B : Type 0} → A → B → A × B
◌&◌ a b = (a, b)

module _ (p : Pool) where
  obey_here : (n : ℕ) → Here p n (obey p n)
  unfolding obey
  obey_here n =
      follow_here p n rules (tag_of p n)
      (class_here p n _
      & kind_here p n _ _
      & member_here p n _
      & member_here p n _
      & member_here p n _
      & pair_here p n
      & handle_here p n
      & text_of_here p n _ 11 _ (omega arith) (omega arith)
      & typed_here p n _ _
      & typed_here p n _ _
      & text_of_here p n _ 10 _ (omega arith) (omega arith)
      & text_of_here p n _ 10 _ (omega arith) (omega arith)
      & tt)

  abbrev Numbers : {A : Type 0} → Answer A → Type 0
  Numbers x = Refuses (λ nr place. (6 ≤ nr) × (nr ≤ 11)) x

  pub checked_numbers : Numbers (checked p)
  unfolding checked
  checked_numbers = then (each (slots p) 0 _) _ (all (slots p) 0 _ (λ n. weaken (λ nr place h. (h.1, h.2)) (references_here p n))) (λ _ _. all (slots p) 0 _ (λ n. weaken (λ nr place h. (h.1, h.2)) (obey_here n)))

  -- ---- the first slot that breaks a rule

  module _ (nr place : ℕ) where
    references_own : (n : ℕ) → Refuses (λ nr place. place ≡ n) (references p n)
    references_own n = weaken (λ nr place h. h.0) (references_here p n)

    obey_own : (n : ℕ) → Refuses (λ nr place. place ≡ n) (obey p n)
    obey_own n = weaken (λ nr place h. h.0) (obey_here n)

    broken_to : refuse nr place ≡ checked p → Broken p nr place
    unfolding checked
    broken_to e = go (each (slots p) 0 (λ n. references p n)) refl e
      where
        go : (x : Check) → each (slots p) 0 (λ n. references p n) ≡ x → refuse nr place ≡ (x >>= λ _. each (slots p) 0 (λ n. obey p n)) → Broken p nr place
        go (accept u) q e = a_rule (λ n l. each_at (slots p) 0 (λ n. references p n) (sym q) n (omega arith) (omega arith)) (first_to (obey p) (slots p) nr place obey_own e)
        go (refuse a b) q e = a_reference (first_to (references p) (slots p) nr place references_own (moved (each (slots p) 0 (λ n. references p n)) e q))

    each_all : (k i : ℕ) (f : ℕ → Check) → ((n : ℕ) → n < i + k → fine ≡ f n) → fine ≡ each k i f
    unfolding each
    each_all zero i f h = refl
    each_all (suc k) i f h = rw (← h i (omega arith)) (each_all k (i + 1) f (λ n l. h n (omega arith)))

    broken_back : Broken p nr place → refuse nr place ≡ checked p
    unfolding checked
    broken_back (a_reference f) = rw (← first_back (references p) (slots p) nr place f) refl
    broken_back (a_rule h f) = rw (← each_all (slots p) 0 (λ n. references p n) (λ n l. h n (omega arith))) (first_back (obey p) (slots p) nr place f)

  -- ---- what 6 and 7 say of a slot

  module _ (n nr : ℕ) where
    bad_to : (k : ℕ) → refuse nr n ≡ reference p n k → BadReference p n k nr
    unfolding reference
    bad_to k e = zero_or (eqb k 0) refl e
      where
        in_range : (field p n k ≡ n → ⊥) → (k ≡ 0 → ⊥) → refuse nr n ≡ require (ltb (field p n k) (slots p)) 7 n → BadReference p n k nr
        in_range d z e = let h = failed (ltb (field p n k) (slots p)) 7 n nr n e in no_slot h.1 z d (ltb-false _ _ h.0)

        go : (k ≡ 0 → ⊥) → (t : Bool) → eqb (field p n k) n ≡ t → refuse nr n ≡ (require (not t) 6 n >>= λ _. require (ltb (field p n k) (slots p)) 7 n) → BadReference p n k nr
        go z true q e = let y : nr ≡ 6 = cc in itself y z (eqb-true _ _ q)
        go z false q e = in_range (eqb-false _ _ q) z e

        zero_or : (t : Bool) → eqb k 0 ≡ t → refuse nr n ≡ cond t fine (require (not (eqb (field p n k) n)) 6 n >>= λ _. require (ltb (field p n k) (slots p)) 7 n) → BadReference p n k nr
        zero_or true q e = absurd (never (sym e))
        zero_or false q e = go (eqb-false k 0 q) (eqb (field p n k) n) refl e

    bad_back : (k : ℕ) → BadReference p n k nr → refuse nr n ≡ reference p n k
    unfolding reference
    bad_back k (itself y z e) = rw (ne_eqb k 0 z, eq-eqb _ _ e, y) refl
    bad_back k (no_slot y z d l) = rw (ne_eqb k 0 z, ne_eqb _ _ d, le-ltb _ _ l, y) refl

    pub references_to : refuse nr n ≡ references p n → BadReferences p n nr
    unfolding references
    references_to e = go (reference p n (one (row_of (tag_of p n)))) refl e
      where
        go : (x : Check) → reference p n (one (row_of (tag_of p n))) ≡ x → refuse nr n ≡ (x >>= λ _. reference p n (other (row_of (tag_of p n)))) → BadReferences p n nr
        go (accept u) q e = the_second (sym q) (bad_to (other (row_of (tag_of p n))) e)
        go (refuse a b) q e = the_first (bad_to (one (row_of (tag_of p n))) (moved (reference p n (one (row_of (tag_of p n)))) e q))

    pub references_back : BadReferences p n nr → refuse nr n ≡ references p n
    unfolding references
    references_back (the_first b) = rw (← bad_back (one (row_of (tag_of p n))) b) refl
    references_back (the_second g b) = rw (← g) (bad_back (other (row_of (tag_of p n))) b)

-- ---- refusals while the entries are read are 1 to 5; all of a pool's are 1 to 11

abbrev pub Low : {A : Type 0} → Answer A → Type 0
Low x = Refuses (λ nr place. nr ≤ 11) x

pub low : (t : Bool) (nr place : ℕ) → nr ≤ 11 → Low (require t nr place)
low t nr place h = need t nr place (λ _. h)

abbrev Few : {A : Type 0} → Answer A → Type 0
Few x = Refuses (λ nr place. nr ≤ 5) x

few : (t : Bool) (nr place : ℕ) → nr ≤ 5 → Few (require t nr place)
few t nr place h = need t nr place (λ _. h)

fewer : {A : Type 0} {x : Answer A} → Few x → Low x
fewer h = weaken (λ nr place k. omega arith) h

pub from_here : {A : Type 0} {place : ℕ} {x : Answer A} → Refuses (Own place) x → Low x
from_here h = weaken (λ nr place k. k.2) h

module _ (s : List ℕ) where
  within_few : (at n : ℕ) → Few (within s at n)
  unfolding within
  within_few at n = few (leb (at + n) (length s)) 2 at (omega arith)

  u1_few : (at : ℕ) → Few (u1 s at)
  unfolding u1
  u1_few at = then (within s at 1) _ (within_few at 1) (λ _ _. done _)

  u2_few : (at : ℕ) → Few (u2 s at)
  unfolding u2
  u2_few at = then (within s at 2) _ (within_few at 2) (λ _ _. done _)

  u4_few : (at : ℕ) → Few (u4 s at)
  unfolding u4
  u4_few at = then (within s at 4) _ (within_few at 4) (λ _ _. done _)

  skipped_few : (at n : ℕ) → Few (skipped s at n)
  unfolding skipped
  skipped_few at n = then (within s at n) _ (within_few at n) (λ _ _. done _)

  second_few : (at t w : ℕ) → Few (second_width s at t w)
  unfolding second_width
  second_few at t w = pick (eqb t kind.utf8) _ _ (λ _. u2_few at) (λ _.
      pick (eqb t kind.method_handle) _ _ (λ _. then (u1 s at) _ (u1_few at) (λ k _. then (require (leb 1 k && leb k 9) 4 at) _ (few (leb 1 k && leb k 9) 4 at (omega arith)) (λ _ _. done _))) (λ _. done _))

  entry_few : (major at : ℕ) → Few (entry_at s major at)
  unfolding entry_at
  entry_few major at =
      then (u1 s at) _ (u1_few at) (λ t _.
      then (require (leb (since (row_of t)) major) 4 at) _ (few (leb (since (row_of t)) major) 4 at (omega arith)) (λ _ _.
      then (skipped s (at + 1) (width (row_of t))) _ (skipped_few (at + 1) (width (row_of t))) (λ m _.
      then (second_width s (at + 1) t (second (row_of t))) _ (second_few (at + 1) t (second (row_of t))) (λ w _.
      then (skipped s m w) _ (skipped_few m w) (λ _ _. done _)))))

  header_few : Few (header_of s)
  unfolding header_of
  header_few =
      then (require (leb (length s) 16777216) 1 0) _ (few (leb (length s) 16777216) 1 0 (omega arith)) (λ _ _.
      then (u4 s 0) _ (u4_few 0) (λ m _.
      then (require (eqb m 0xCAFEBABE) 3 0) _ (few (eqb m 0xCAFEBABE) 3 0 (omega arith)) (λ _ _.
      then (u2 s 4) _ (u2_few 4) (λ _ _.
      then (u2 s 6) _ (u2_few 6) (λ _ _.
      then (u2 s 8) _ (u2_few 8) (λ _ _. done _))))))

  module _ (major room : ℕ) where
    cell_few : (n : ℕ) → Few (room_for room n)
    cell_few n = few (ltb n room) 5 n (omega arith)

    slot_few : (n : ℕ) (owed : Bool) (at : ℕ) → Few (slot_at s major room n owed at)
    unfolding slot_at
    slot_few n owed at = then (room_for room n) _ (cell_few n) (λ _ _. pick owed _ _ (λ _. done _) (λ _. then (entry_at s major at) _ (entry_few major at) (λ _ _. done _)))

    entries_few : (k : ℕ) (owed : Bool) (cells : List ℕ) (at : ℕ) → Few (entries k owed s major room cells at)
    unfolding entries
    entries_few zero false cells at = done _
    entries_few zero true cells at = then (room_for room (length cells)) _ (cell_few (length cells)) (λ _ _. done _)
    entries_few (suc k) owed cells at = then (slot_at s major room (length cells) owed at) _ (slot_few (length cells) owed at) (λ e _. entries_few k e.wide (cells ++ e.cell ∷ []) e.next)

    all_few : (count : ℕ) → Few (all_entries s major count room)
    unfolding all_entries
    all_few count = then (room_for room 0) _ (cell_few 0) (λ _ _. entries_few (count - 1) false (0 ∷ []) 10)

  read_few : (room : ℕ) → Few (read_pool s room)
  unfolding read_pool
  read_few room = then (header_of s) _ header_few (λ h _. then (all_entries s h.major h.count room) _ (all_few h.major room h.count) (λ _ _. done _))

  pub u2_low : (at : ℕ) → Low (u2 s at)
  u2_low at = fewer (u2_few at)

  pub u4_low : (at : ℕ) → Low (u4 s at)
  u4_low at = fewer (u4_few at)

  pub skipped_low : (at n : ℕ) → Low (skipped s at n)
  skipped_low at n = fewer (skipped_few at n)

  pub pool_low : (room : ℕ) → Low (pool s room)
  unfolding pool
  pool_low room = then (read_pool s room) _ (fewer (read_few room)) (λ w _. then (checked w.pool) _ (weaken (λ nr place h. h.1) (checked_numbers w.pool)) (λ _ _. done _))

-- ---- of a pool whose entries were read

module _ (s : List ℕ) (room : ℕ) (w : Whole) (r : accept w ≡ read_pool s room) (nr place : ℕ) where
  into : (x : Check) → checked w.pool ≡ x → refuse nr place ≡ (x >>= λ _. accept w) → refuse nr place ≡ checked w.pool
  into (accept u) q e = absurd (never (sym e))
  into (refuse a b) q e = moved (checked w.pool) e q

  pool_to : refuse nr place ≡ pool s room → Broken w.pool nr place
  unfolding pool
  pool_to e = broken_to w.pool nr place (into (checked w.pool) refl (e ∙ rw (← r) refl))

  pool_back : Broken w.pool nr place → refuse nr place ≡ pool s room
  unfolding pool
  pool_back b = rw (← r, ← broken_back w.pool nr place b) refl

  pub six_to_eleven : (refuse nr place ≡ pool s room) ↔ Broken w.pool nr place
  six_to_eleven = (pool_to, pool_back)

-- .. and of any file
module _ (s : List ℕ) (room nr place : ℕ) (h : 6 ≤ nr) where
  not_read : (a b : ℕ) → read_pool s room ≡ refuse a b → refuse nr place ≡ pool s room → ⊥
  unfolding pool
  not_read a b q e =
      let z : nr ≡ a = numbers (read_pool s room) q e in
      let l = (read_few s room).with a b (sym q) in
      omega arith
    where
      numbers : (x : Answer Whole) → x ≡ refuse a b → refuse nr place ≡ (x >>= λ w. checked w.pool >>= λ _. accept w) → nr ≡ a
      numbers (accept w) q e = absurd (never q)
      numbers (refuse c d) q e = let y : nr ≡ c = cc in let z : c ≡ a = cc in y ∙ z

  broken_pool_to : refuse nr place ≡ pool s room → BrokenPool s room nr place
  broken_pool_to e = go (read_pool s room) refl
    where
      go : (x : Answer Whole) → read_pool s room ≡ x → BrokenPool s room nr place
      go (accept w) q = record { whole = w; was_read = sym q; broken = pool_to s room w (sym q) nr place e }
      go (refuse a b) q = absurd (not_read a b q e)

  pub broken_pool : (refuse nr place ≡ pool s room) ↔ BrokenPool s room nr place
  broken_pool = (broken_pool_to, λ b. pool_back s room b.whole b.was_read nr place b.broken)

pub broken_numbers : (p : Pool) (nr place : ℕ) → Broken p nr place → (6 ≤ nr) × (nr ≤ 11)
broken_numbers p nr place b = (checked_numbers p).with nr place (broken_back p nr place b)

pub references_exactly : (p : Pool) (n nr : ℕ) → (refuse nr n ≡ references p n) ↔ BadReferences p n nr
references_exactly p n nr = (references_to p n nr, references_back p n nr)
