-- Which numbers each definition can refuse with. Assumes nothing.
use mathlib.Core.Path.{◌≡◌, refl}
use mathlib.Core.Bool.{Bool, true, false, not, ◌&&◌, ◌||◌}
use mathlib.Core.List.Memᴰ
use mathlib.Core.List.{List, [], ◌∷◌, ◌++◌}
use Prim.Native.Nat.{ℕ, zero, suc, ◌+◌, ◌-◌, ◌<◌}
use native.Mathlib.Omega.{arith}
use lib.ListN.{length}
use lib.Dec.{leb, ltb, eqb}
use Rattle.reads.specs.Answer.{Check, require, each}
use Rattle.reads.specs.Bytes.{within, u1, u2, u4, skipped}
use Rattle.text.specs.Text.{is_text, binary}
use Rattle.descriptors.specs.Descriptors.{stands as begins, array_descriptor}
use Rattle.pool.specs.Kinds as kind
use Rattle.pool.specs.Rows.{since, first as width, second, row_of}
use Rattle.pool.specs.Pool.{Pool, second_width, entry_at, slot_at, entries, all_entries, header_of, read_pool, slots}
use Rattle.pool.proofs.Room.{Bytes, enough_to_read}
use Rattle.slot.specs.Slots.{tag_of, field, bytes_of, in_range, of_kind as kind_at, text_at, text_of, class_name, class_text, typed}
use Rattle.checks.specs.Checks.{reference, references, handle, member, name_and_type, Rule, rules, follow, obey, checked, pool}
use Rattle.reach.specs.Reach.{◌∈◌}
use Rattle.demands.specs.Calls.{Refuses, Only, OnlyAt}
use Rattle.demands.specs.Numbers.{of_read, of_header, of_entry, of_slot, of_entries, of_unbounded, of_kind, of_text, of_spelling, of_name, of_typed, of_range, of_references, of_checks, of_pool}
use Rattle.demands.proofs.Only.{among, covers, either, done, then, need, need_at, need_here, pick, all_in, weaken, wide, wide_here, only, less}

-- ---- reads, each at the byte where it begins

module _ (s : List ℕ) (at : ℕ) where
  within_at : (n : ℕ) → OnlyAt of_read at (within s at n)
  unfolding within
  within_at n = need_here (leb (at + n) (length s)) 2 at refl

  pub u1_at : OnlyAt of_read at (u1 s at)
  unfolding u1
  u1_at = then (within s at 1) _ (within_at 1) (λ _ _. done _)

  pub u2_at : OnlyAt of_read at (u2 s at)
  unfolding u2
  u2_at = then (within s at 2) _ (within_at 2) (λ _ _. done _)

  pub u4_at : OnlyAt of_read at (u4 s at)
  unfolding u4
  u4_at = then (within s at 4) _ (within_at 4) (λ _ _. done _)

  pub skipped_at : (n : ℕ) → OnlyAt of_read at (skipped s at n)
  unfolding skipped
  skipped_at n = then (within s at n) _ (within_at n) (λ _ _. done _)

-- ---- the entries

module _ (s : List ℕ) where
  second_only : (at t width : ℕ) → Only of_entry (second_width s at t width)
  unfolding second_width
  second_only at t width =
      pick (eqb t kind.utf8) _ _ (wide (only (u2_at s at)) refl)
      (pick (eqb t kind.method_handle) _ _ (then (u1 s at) _ (wide (only (u1_at s at)) refl) (λ k _. then (require (leb 1 k && leb k 9) 4 at) _ (need (leb 1 k && leb k 9) 4 at refl) (λ _ _. done _))) (done _))

  entry_only : (major at : ℕ) → Only of_entry (entry_at s major at)
  unfolding entry_at
  entry_only major at =
      then (u1 s at) _ (wide (only (u1_at s at)) refl) (λ t _.
      then (require (leb (since (row_of t)) major) 4 at) _ (need (leb (since (row_of t)) major) 4 at refl) (λ _ _.
      then (skipped s (at + 1) (width (row_of t))) _ (wide (only (skipped_at s (at + 1) (width (row_of t)))) refl) (λ m _.
      then (second_width s (at + 1) t (second (row_of t))) _ (second_only (at + 1) t (second (row_of t))) (λ w _.
      then (skipped s m w) _ (wide (only (skipped_at s m w)) refl) (λ _ _. done _)))))

  pub header_only : Only of_header (header_of s)
  unfolding header_of
  header_only =
      then (require (leb (length s) 16777216) 1 0) _ (need (leb (length s) 16777216) 1 0 refl) (λ _ _.
      then (u4 s 0) _ (wide (only (u4_at s 0)) refl) (λ m _.
      then (require (eqb m 0xCAFEBABE) 3 0) _ (need (eqb m 0xCAFEBABE) 3 0 refl) (λ _ _.
      then (u2 s 4) _ (wide (only (u2_at s 4)) refl) (λ _ _.
      then (u2 s 6) _ (wide (only (u2_at s 6)) refl) (λ _ _.
      then (u2 s 8) _ (wide (only (u2_at s 8)) refl) (λ _ _. done _))))))

  module _ (major room : ℕ) where
    pub slot_only : (n : ℕ) (owed : Bool) (at : ℕ) → Only of_slot (slot_at s major room n owed at)
    unfolding slot_at
    slot_only n owed at =
        then (require (ltb n room) 5 n) _ (need (ltb n room) 5 n refl) (λ _ _.
        pick owed _ _ (done _) (then (entry_at s major at) _ (wide (entry_only major at) refl) (λ _ _. done _)))

    entries_only : (k : ℕ) (owed : Bool) (cells : List ℕ) (at : ℕ) → Only of_slot (entries k owed s major room cells at)
    unfolding entries
    entries_only zero false cells at = done _
    entries_only zero true cells at = then (require (ltb (length cells) room) 5 (length cells)) _ (need (ltb (length cells) room) 5 (length cells) refl) (λ _ _. done _)
    entries_only (suc k) owed cells at = then (slot_at s major room (length cells) owed at) _ (slot_only (length cells) owed at) (λ e _. entries_only k e.wide (cells ++ e.cell ∷ []) e.next)

    entries_all : (count : ℕ) → Only of_slot (all_entries s major count room)
    unfolding all_entries
    entries_all count = then (require (ltb 0 room) 5 0) _ (need (ltb 0 room) 5 0 refl) (λ _ _. entries_only (count - 1) false (0 ∷ []) 10)

  pub read_only : (room : ℕ) → Only of_entries (read_pool s room)
  unfolding read_pool
  read_only room =
      then (header_of s) _ (wide header_only refl) (λ h _.
      then (all_entries s h.major h.count room) _ (wide (entries_all h.major room h.count) refl) (λ _ _. done _))

  -- with 65,536 cells never 5
  pub unbounded_only : Bytes s → Only of_unbounded (read_pool s 65536)
  unbounded_only b = less 5 (read_only 65536) (enough_to_read s b) refl

-- ---- the pool's checks, each at the place that it is given

module _ (p : Pool) (place : ℕ) where
  pub range_at : (m : ℕ) → OnlyAt of_range place (in_range p place m)
  range_at m = need_here (ltb m (slots p)) 7 place refl

  pub kind_only_at : (allowed m : ℕ) → OnlyAt of_kind place (kind_at p place allowed m)
  unfolding kind_at
  kind_only_at allowed m = need_here (kind.has allowed (tag_of p m)) 8 place refl

  pub text_only_at : (m : ℕ) → OnlyAt of_text place (text_at p place m)
  unfolding text_at
  text_only_at m = then (kind_at p place _ m) _ (wide_here (kind_only_at _ m) refl) (λ _ _. need_here (is_text (bytes_of p m)) 9 place refl)

  text_of_at : {ns : List ℕ} (good : List ℕ → Bool) (nr m : ℕ) → covers ns of_text ≡ true → among nr ns ≡ true → OnlyAt ns place (text_of good nr p place m)
  unfolding text_of
  text_of_at good nr m h k = then (text_at p place m) _ (wide_here (text_only_at m) h) (λ _ _. need_here (good (bytes_of p m)) nr place k)

  pub any_text_at : (good : List ℕ → Bool) (nr m : ℕ) → OnlyAt (nr ∷ of_text) place (text_of good nr p place m)
  unfolding text_of
  any_text_at good nr m = then (text_at p place m) _ (weaken (λ _ _ h. (Memᴰ.tail h.0, h.1)) (text_only_at m)) (λ _ _. need_at (good (bytes_of p m)) nr place (Memᴰ.head refl, refl))

  pub name_at : (m : ℕ) → OnlyAt of_name place (class_text p place m)
  unfolding class_text class_name
  name_at m = then (text_at p place m) _ (wide_here (text_only_at m) refl) (λ _ _.
      need_here (binary (bytes_of p m) || array_descriptor (bytes_of p m)) _ place (either of_name (begins 0x5B 0 (bytes_of p m)) 11 10 refl refl))

  pub typed_at : (good : List ℕ → Bool) (m : ℕ) → OnlyAt of_typed place (typed good p place m)
  unfolding typed
  typed_at good m = then (kind_at p place _ m) _ (wide_here (kind_only_at _ m) refl) (λ _ _. text_of_at good 11 _ refl refl)

  member_at : (good : List ℕ → Bool) → OnlyAt of_typed place (member good p place)
  unfolding member
  member_at good = then (kind_at p place _ _) _ (wide_here (kind_only_at _ _) refl) (λ _ _. typed_at good _)

  name_and_type_at : OnlyAt (of_text ++ of_spelling) place (name_and_type p place)
  unfolding name_and_type
  name_and_type_at = then (text_of _ 10 p place _) _ (text_of_at _ 10 _ refl refl) (λ _ _. wide_here (kind_only_at _ _) refl)

  handle_at : OnlyAt of_kind place (handle p place)
  unfolding handle
  handle_at = kind_only_at _ _

  reference_at : (k : ℕ) → OnlyAt of_references place (reference p place k)
  unfolding reference
  reference_at k =
      pick (eqb k 0) _ _ (done _)
      (then (require (not (eqb (field p place k) place)) 6 place) _ (need_here (not (eqb (field p place k) place)) 6 place refl)
      (λ _ _. need_here (ltb (field p place k) (slots p)) 7 place refl))

  references_at : OnlyAt of_references place (references p place)
  unfolding references
  references_at = then (reference p place _) _ (reference_at _) (λ _ _. reference_at _)

-- the rules of a list
abbrev Each : List ℕ → List Rule → Pool → ℕ → Type 0
Each ns [] p n = Unit {0}
Each ns (r ∷ rs) p n = OnlyAt ns n (r.1 p n) × Each ns rs p n

infixr 5 ◌&◌
◌&◌ : {A B : Type 0} → A → B → A × B
◌&◌ a b = (a, b)

follow_at : {ns : List ℕ} (rs : List Rule) (t : ℕ) (p : Pool) (n : ℕ) → Each ns rs p n → OnlyAt ns n (follow rs t p n)
follow_at [] t p n h = done tt
follow_at (r ∷ rs) t p n h = pick (eqb t r.0) _ _ h.0 (follow_at rs t p n h.1)

obey_at : (p : Pool) (n : ℕ) → OnlyAt of_name n (obey p n)
unfolding obey
obey_at p n =
    follow_at rules (tag_of p n) p n
    (name_at p n _
    & wide_here (kind_only_at p n _ _) refl
    & wide_here (member_at p n _) refl
    & wide_here (member_at p n _) refl
    & wide_here (member_at p n _) refl
    & wide_here (name_and_type_at p n) refl
    & wide_here (handle_at p n) refl
    & text_of_at p n _ 11 _ refl refl
    & wide_here (typed_at p n _ _) refl
    & wide_here (typed_at p n _ _) refl
    & text_of_at p n _ 10 _ refl refl
    & text_of_at p n _ 10 _ refl refl
    & tt)

-- at a slot of the pool
pub checked_at : (p : Pool) → Refuses (λ nr place. (nr ∈ of_checks) × (place < slots p)) (checked p)
unfolding checked
checked_at p =
    then (each (slots p) 0 _) _ (all_in (slots p) 0 _ (λ n l. here n l (wide_here (references_at p n) refl)))
    (λ _ _. all_in (slots p) 0 _ (λ n l. here n l (wide_here (obey_at p n) refl)))
  where
    here : (n : ℕ) → n < 0 + slots p → {x : Check} → OnlyAt of_checks n x → Refuses (λ nr place. (nr ∈ of_checks) × (place < slots p)) x
    here n l h = weaken (λ nr place m. let z = m.1 in (m.0, omega arith)) h

pub checked_only : (p : Pool) → Only of_checks (checked p)
checked_only p = weaken (λ _ _ m. m.0) (checked_at p)

pub pool_only : (s : List ℕ) (room : ℕ) → Only of_pool (pool s room)
unfolding pool
pool_only s room = then (read_pool s room) _ (wide (read_only s room) refl) (λ w _. then (checked w.pool) _ (wide (checked_only w.pool) refl) (λ _ _. done _))
