-- On a table that is accepted, the one that `read_pool` leaves among them (handed, Own), a lookup of a slot of the kind never refuses,
-- except that of a name and type whose descriptor is raw: 9. Assumes nothing.
use mathlib.Core.Path.{◌≡◌, refl, ◌∙◌}
use mathlib.Core.Bool.{true}
use mathlib.Core.List.{List, [], ◌∷◌}
use Prim.Native.Nat.{ℕ, ◌+◌, ◌<◌}
use Rattle.reads.specs.Answer.{fine, accept, ◌>>=◌, require}
use Rattle.reads.specs.Bytes.{num1}
use Rattle.reads.proofs.Answers.{first}
use Rattle.text.specs.Text.{unqualified, is_text}
use Rattle.pool.specs.Kinds as kind
use Rattle.pool.specs.Pool.{Pool, Whole, slots}
use Rattle.slot.specs.Slots.{cell, tag_of, field, bytes_of, of_kind, text_at, text_of}
use Rattle.checks.specs.Checks.{name_and_type, obey}
use Rattle.handed.specs.Handed.{handed, lookup}
use Rattle.handed.proofs.Own.{obeyed}
use Rattle.handed.proofs.Answered.{asks}
use Rattle.lookups.specs.Lookups.{name_slot, class_at, module_at, package_at, method_type_at, named, named_at, member_of, member_at, handle_at, indexed_at, dynamic_at, invoke_dynamic_at}

module _ (s table : List ℕ) (w : Whole) (o : accept w ≡ handed s table) (n : ℕ) (h : n < slots w.pool) where
  abbrev p : Pool
  p = w.pool

  -- the tag of slot n is t
  abbrev Is : ℕ → Type 0
  Is t = tag_of w.pool n ≡ t

  name_answered : (t : ℕ) → kind.has (kind.set_of (t ∷ [])) t ≡ true → Is t → lookup s table (name_slot (kind.set_of (t ∷ [])) n) ≡ accept (field w.pool n 1)
  unfolding name_slot
  name_answered t i k = asks s table w o n h _ t k i _

  pub class_answered : Is kind.class → lookup s table (class_at n) ≡ accept (field w.pool n 1)
  unfolding kind.has
  class_answered = name_answered kind.class refl

  pub module_answered : Is kind.module → lookup s table (module_at n) ≡ accept (field w.pool n 1)
  unfolding kind.has
  module_answered = name_answered kind.module refl

  pub package_answered : Is kind.package → lookup s table (package_at n) ≡ accept (field w.pool n 1)
  unfolding kind.has
  package_answered = name_answered kind.package refl

  pub method_type_answered : Is kind.method_type → lookup s table (method_type_at n) ≡ accept (field w.pool n 1)
  unfolding kind.has
  method_type_answered = name_answered kind.method_type refl

  member_answered : (t : ℕ) → kind.has (kind.set_of (kind.field_ref ∷ kind.method_ref ∷ kind.interface_method_ref ∷ [])) t ≡ true → Is t → lookup s table (member_at n) ≡ accept (member_of w.pool n)
  unfolding member_at
  member_answered t i k = asks s table w o n h _ t k i _

  pub field_answered : Is kind.field_ref → lookup s table (member_at n) ≡ accept (member_of w.pool n)
  unfolding kind.has
  field_answered = member_answered kind.field_ref refl

  pub method_answered : Is kind.method_ref → lookup s table (member_at n) ≡ accept (member_of w.pool n)
  unfolding kind.has
  method_answered = member_answered kind.method_ref refl

  pub interface_method_answered : Is kind.interface_method_ref → lookup s table (member_at n) ≡ accept (member_of w.pool n)
  unfolding kind.has
  interface_method_answered = member_answered kind.interface_method_ref refl

  pub handle_answered : Is kind.method_handle → lookup s table (handle_at n) ≡ accept (record { kind = num1 w.pool.file (cell w.pool n + 1); member = member_of w.pool (field w.pool n 2) })
  unfolding handle_at kind.has
  handle_answered k = asks s table w o n h _ kind.method_handle k refl _

  indexed_answered : (t : ℕ) → kind.has (kind.set_of (t ∷ [])) t ≡ true → Is t → lookup s table (indexed_at (kind.set_of (t ∷ [])) n) ≡ accept (record { index = field w.pool n 1; named = named w.pool (field w.pool n 3) })
  unfolding indexed_at
  indexed_answered t i k = asks s table w o n h _ t k i _

  pub dynamic_answered : Is kind.dynamic → lookup s table (dynamic_at n) ≡ accept (record { index = field w.pool n 1; named = named w.pool (field w.pool n 3) })
  unfolding kind.has
  dynamic_answered = indexed_answered kind.dynamic refl

  pub invoke_dynamic_answered : Is kind.invoke_dynamic → lookup s table (invoke_dynamic_at n) ≡ accept (record { index = field w.pool n 1; named = named w.pool (field w.pool n 3) })
  unfolding kind.has
  invoke_dynamic_answered = indexed_answered kind.invoke_dynamic refl

  -- the descriptor of a name and type is a Utf8 entry, and may be raw
  its_descriptor : Is kind.name_and_type → fine ≡ of_kind w.pool n (kind.set_of (kind.utf8 ∷ [])) (field w.pool n 3)
  unfolding obey name_and_type
  its_descriptor k =
      let b : fine ≡ name_and_type w.pool n = obeyed s table w o n h ∙ rw k refl in
      (first (text_of unqualified 10 w.pool n (field w.pool n 1)) _ tt b).2

  pub name_and_type_answered : Is kind.name_and_type → lookup s table (named_at n) ≡ (require (is_text (bytes_of w.pool (field w.pool n 3))) 9 n >>= λ _. accept (named w.pool n))
  unfolding named_at text_at kind.has
  name_and_type_answered k = asks s table w o n h _ kind.name_and_type k refl _ ∙ rw (← its_descriptor k) refl
