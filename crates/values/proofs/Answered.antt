-- On a table that is accepted, the one that `read_pool` leaves among them (handed, Own), a lookup of a literal or of a Utf8 slot never
-- refuses, and no bit of a number is lost. Assumes nothing.
use mathlib.Core.Path.{◌≡◌, refl, ap, ◌∙◌}
use mathlib.Core.Bool.{true, ◌||◌, cond}
use mathlib.Core.List.{List}
use Prim.Native.Nat.{ℕ, ◌+◌, ◌<◌}
use lib.Dec.{eqb}
use borrow.Author.Tests.{ne_eqb}
use Rattle.reads.specs.Answer.{accept}
use Rattle.reads.specs.Bytes.{num4, num8}
use Rattle.reads.proofs.Leaves.{Bytes}
use Rattle.text.specs.Text.{is_text}
use Rattle.pool.specs.Kinds as kind
use Rattle.pool.specs.Pool.{Whole, slots}
use Rattle.slot.specs.Slots.{cell, tag_of, field, bytes_of}
use Rattle.handed.specs.Handed.{handed, lookup}
use Rattle.handed.proofs.Handed.{its_cells}
use Rattle.handed.proofs.Answered.{asks}
use Rattle.literal.specs.Values.{string, bits_in}
use Rattle.literal.proofs.Whole.{number_whole}
use Rattle.values.specs.Lookups.{literals, literal_of, literal_at, utf8, text_at, bytes_at}

module _ (s table : List ℕ) (w : Whole) (o : accept w ≡ handed s table) (n : ℕ) (h : n < slots w.pool) where
  pub literal_answered : (t : ℕ) → kind.has literals t ≡ true → tag_of w.pool n ≡ t → lookup s table (literal_at n) ≡ accept (literal_of w.pool n)
  unfolding literal_at
  literal_answered t i k = asks s table w o n h literals t k i _

  pub string_answered : tag_of w.pool n ≡ kind.string → lookup s table (literal_at n) ≡ accept (string (field w.pool n 1))
  unfolding literal_of kind.has
  string_answered k = literal_answered kind.string refl k ∙ rw k refl

  -- a number: what is answered has the bits that stand in the file
  pub number_answered : (t : ℕ) → kind.has literals t ≡ true → (t ≡ kind.string → ⊥) → tag_of w.pool n ≡ t → Bytes s
      → bits_in (lookup s table (literal_at n)) ≡ cond (eqb t kind.integer || eqb t kind.float) (num4 s (cell w.pool n + 1)) (num8 s (cell w.pool n + 1))
  unfolding literal_of
  number_answered t i no-string k b =
      ap bits_in (literal_answered t i k) ∙ rw (k, ne_eqb t kind.string no-string, (its_cells s table w o).0) (number_whole s b t (cell w.pool n + 1))

  pub text_answered : tag_of w.pool n ≡ kind.utf8 → lookup s table (text_at n) ≡ accept (is_text (bytes_of w.pool n))
  unfolding text_at kind.has
  text_answered k = asks s table w o n h utf8 kind.utf8 k refl _

  pub bytes_answered : tag_of w.pool n ≡ kind.utf8 → lookup s table (bytes_at n) ≡ accept (bytes_of w.pool n)
  unfolding bytes_at kind.has
  bytes_answered k = asks s table w o n h utf8 kind.utf8 k refl _
