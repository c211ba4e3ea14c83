-- With 65,536 cells a pool is never refused for want of one; and what an accepted pool is. Assumes nothing.
use mathlib.Core.Path.{◌≡◌, ap, ◌∙◌}
use mathlib.Core.Bool.{Bool, not, ◌||◌}
use mathlib.Core.List.{List, [], ◌∷◌}
use Prim.Native.Nat.{ℕ, ◌-◌, ◌≤◌}
use native.Mathlib.Omega.{arith}
use lib.ListN.{get_or}
use lib.Dec.{ltb, eqb}
use Rattle.reads.specs.Answer.{accept, refuse, require, each}
use Rattle.reads.specs.Bytes.{num2}
use Rattle.reads.proofs.Answers.{first}
use Rattle.text.specs.Text.{is_text, binary}
use Rattle.descriptors.specs.Descriptors.{stands, array_descriptor}
use Rattle.pool.specs.Kinds as kind
use Rattle.pool.specs.Pool.{Pool, Whole, read_pool, slots}
use Rattle.pool.proofs.Entries.{InFile, same}
use Rattle.pool.proofs.Slots.{made, wide_at, cells_in_file, cell_zero, slots_fit, slots_made}
use Rattle.pool.proofs.Room.{Not5, ok, then, need, pick, pick_nr, all, said, Bytes, entries_never_5, few_read}
use Rattle.slot.specs.Slots.{tag_of, field, bytes_of, of_kind, text_at, text_of, class_name, class_text, typed}
use Rattle.checks.specs.Checks.{reference, references, handle, member, name_and_type, Rule, rules, follow, obey, checked, pool}

-- the rules of a list
abbrev All5 : List Rule → Pool → ℕ → Type 0
All5 [] p n = Unit {0}
All5 (r ∷ rs) p n = Not5 (r.1 p n) × All5 rs p n

infixr 5 ◌&◌
◌&◌ : {A B : Type 0} → A → B → A × B
◌&◌ a b = (a, b)

follow_5 : (rs : List Rule) (t : ℕ) (p : Pool) (n : ℕ) → All5 rs p n → Not5 (follow rs t p n)
follow_5 [] t p n h = ok tt
follow_5 (r ∷ rs) t p n h = pick (eqb t r.0) _ _ h.0 (follow_5 rs t p n h.1)

-- ---- the checks

module _ (p : Pool) (place : ℕ) where
  kind_5 : (allowed m : ℕ) → Not5 (of_kind p place allowed m)
  unfolding of_kind
  kind_5 allowed m = need (kind.has allowed (tag_of p m)) 8 place (λ e. omega arith)

  text_at_5 : (m : ℕ) → Not5 (text_at p place m)
  unfolding text_at
  text_at_5 m = then (of_kind p place _ m) _ (kind_5 _ m) (λ _ _. need (is_text (bytes_of p m)) 9 place (λ e. omega arith))

  text_of_5 : (good : List ℕ → Bool) (nr m : ℕ) → (nr ≡ 5 → ⊥) → Not5 (text_of good nr p place m)
  unfolding text_of
  text_of_5 good nr m h = then (text_at p place m) _ (text_at_5 m) (λ _ _. need (good (bytes_of p m)) nr place h)

  class_5 : (m : ℕ) → Not5 (class_text p place m)
  unfolding class_text class_name
  class_5 m = then (text_at p place m) _ (text_at_5 m) (λ _ _.
      need (binary (bytes_of p m) || array_descriptor (bytes_of p m)) _ place (pick_nr (stands 0x5B 0 (bytes_of p m)) 11 10 (λ e. omega arith) (λ e. omega arith)))

  typed_5 : (good : List ℕ → Bool) (m : ℕ) → Not5 (typed good p place m)
  unfolding typed
  typed_5 good m = then (of_kind p place _ m) _ (kind_5 _ m) (λ _ _. text_of_5 good 11 _ (λ e. omega arith))

  member_5 : (good : List ℕ → Bool) → Not5 (member good p place)
  unfolding member
  member_5 good = then (of_kind p place _ _) _ (kind_5 _ _) (λ _ _. typed_5 good _)

  name_and_type_5 : Not5 (name_and_type p place)
  unfolding name_and_type
  name_and_type_5 = then (text_of _ 10 p place _) _ (text_of_5 _ 10 _ (λ e. omega arith)) (λ _ _. kind_5 _ _)

  handle_5 : Not5 (handle p place)
  unfolding handle
  handle_5 = kind_5 _ _

  reference_5 : (k : ℕ) → Not5 (reference p place k)
  unfolding reference
  reference_5 k =
      pick (eqb k 0) _ _ (ok _)
      (then (require (not (eqb (field p place k) place)) 6 place) _ (need (not (eqb (field p place k) place)) 6 place (λ e. omega arith))
      (λ _ _. need (ltb (field p place k) (slots p)) 7 place (λ e. omega arith)))

  references_5 : Not5 (references p place)
  unfolding references
  references_5 = then (reference p place _) _ (reference_5 _) (λ _ _. reference_5 _)

  obey_5 : Not5 (obey p place)
  unfolding obey
  obey_5 =
      follow_5 rules (tag_of p place) p place
      (class_5 _
      & kind_5 _ _
      & member_5 _
      & member_5 _
      & member_5 _
      & name_and_type_5
      & handle_5
      & text_of_5 _ 11 _ (λ e. omega arith)
      & typed_5 _ _
      & typed_5 _ _
      & text_of_5 _ 10 _ (λ e. omega arith)
      & text_of_5 _ 10 _ (λ e. omega arith)
      & tt)

checked_5 : (p : Pool) → Not5 (checked p)
unfolding checked
checked_5 p = then (each (slots p) 0 _) _ (all (slots p) 0 _ (references_5 p)) (λ _ _. all (slots p) 0 _ (obey_5 p))

-- ---- what is shown of every pool

module _ (s : List ℕ) (b : Bytes s) where
  pub never_5 : Not5 (pool s 65536)
  unfolding pool
  never_5 = then (read_pool s 65536) _ (entries_never_5 s b) (λ w _. then (checked w.pool) _ (checked_5 w.pool) (λ _ _. ok _))

  -- with 65,536 cells no pool is refused for want of one
  pub enough : (place : ℕ) → refuse 5 place ≡ pool s 65536 → ⊥
  enough = said (pool s 65536) never_5

module _ (s : List ℕ) (room : ℕ) (w : Whole) (e : accept w ≡ pool s room) where
  -- it was read so
  pub was_read : accept w ≡ read_pool s room
  unfolding pool
  was_read =
      let a = first (read_pool s room) _ w e in
      let c = first (checked a.0.pool) _ w a.2 in
      ap accept (same c.2) ∙ a.1

  -- at most 65,536 slots
  pub few_slots : Bytes s → slots w.pool ≤ 65536
  few_slots b = few_read s b room w was_read

  -- no more slots than cells
  pub slots_in_room : slots w.pool ≤ room
  slots_in_room = slots_fit s room w was_read

  -- P is the count, one more where the last slot that it counts is wide, and 1 for count 0
  pub slots_by_count : slots w.pool ≡ made (num2 s 8) (wide_at s (get_or w.pool.cells (num2 s 8 - 1) 0))
  slots_by_count = slots_made s room w was_read

  -- every cell is 0 or an offset inside the file, and cell 0 is 0
  pub cells_inside : (n : ℕ) → InFile s (get_or w.pool.cells n 0)
  cells_inside = cells_in_file s room w was_read

  pub first_cell : get_or w.pool.cells 0 0 ≡ 0
  first_cell = cell_zero s room w was_read
