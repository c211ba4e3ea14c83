-- What is listed of a slot is what the lookups answer of it: the bits of literals, and where the bytes of a Utf8 slot stand. Assumes nothing.
use mathlib.Core.Path.{◌≡◌, refl, ap, ◌∙◌}
use mathlib.Core.List.{List}
use Prim.Native.Nat.{ℕ, ◌+◌, ◌*◌, ◌<◌}
use native.Mathlib.Omega.{arith}
use Rattle.reads.specs.Answer.{accept}
use Rattle.reads.specs.Bytes.{num4}
use Rattle.reads.proofs.Leaves.{Bytes}
use Rattle.pool.specs.Kinds as kind
use Rattle.pool.specs.Pool.{Whole, slots}
use Rattle.slot.specs.Slots.{cell, tag_of, field}
use Rattle.handed.specs.Handed.{handed, lookup}
use Rattle.handed.proofs.Handed.{its_cells}
use Rattle.literal.specs.Values.{string, bits_in}
use Rattle.values.specs.Lookups.{literal_at, span_of}
use Rattle.values.proofs.Answered.{number_answered, string_answered}
use Rattle.listing.specs.Forms.{form_of, num_of}
use Rattle.listing.specs.Listing.{first_of, second_of}

module _ (s table : List ℕ) (w : Whole) (o : accept w ≡ handed s table) (n : ℕ) (h : n < slots w.pool) where
  pub integer_listed : tag_of w.pool n ≡ kind.integer → Bytes s → bits_in (lookup s table (literal_at n)) ≡ first_of w.pool n
  unfolding first_of form_of num_of kind.has
  integer_listed k b = number_answered s table w o n h kind.integer refl (λ e. omega arith) k b ∙ rw (k, (its_cells s table w o).0) refl

  pub float_listed : tag_of w.pool n ≡ kind.float → Bytes s → bits_in (lookup s table (literal_at n)) ≡ first_of w.pool n
  unfolding first_of form_of num_of kind.has
  float_listed k b = number_answered s table w o n h kind.float refl (λ e. omega arith) k b ∙ rw (k, (its_cells s table w o).0) refl

  -- the lower half stands four bytes on
  onward : cell w.pool n + 1 + 4 ≡ cell w.pool n + 5
  onward = omega arith

  pub long_listed : tag_of w.pool n ≡ kind.long → Bytes s → bits_in (lookup s table (literal_at n)) ≡ first_of w.pool n * 4294967296 + second_of w.pool n
  unfolding first_of second_of form_of num_of kind.has
  long_listed k b =
      number_answered s table w o n h kind.long refl (λ e. omega arith) k b
      ∙ ap (λ (i : ℕ). num4 s (cell w.pool n + 1) * 4294967296 + num4 s i) onward
      ∙ rw (k, (its_cells s table w o).0) refl

  pub double_listed : tag_of w.pool n ≡ kind.double → Bytes s → bits_in (lookup s table (literal_at n)) ≡ first_of w.pool n * 4294967296 + second_of w.pool n
  unfolding first_of second_of form_of num_of kind.has
  double_listed k b =
      number_answered s table w o n h kind.double refl (λ e. omega arith) k b
      ∙ ap (λ (i : ℕ). num4 s (cell w.pool n + 1) * 4294967296 + num4 s i) onward
      ∙ rw (k, (its_cells s table w o).0) refl

  pub string_listed : tag_of w.pool n ≡ kind.string → lookup s table (literal_at n) ≡ accept (string (first_of w.pool n))
  unfolding first_of form_of num_of field
  string_listed k = string_answered s table w o n h k ∙ rw k refl

  pub utf8_listed : tag_of w.pool n ≡ kind.utf8 → (span_of w.pool n).from ≡ first_of w.pool n
  unfolding first_of span_of
  utf8_listed k = rw k refl
