-- Lookups of literals and of Utf8 slots. Document 01, "Members and lookups". Assumes nothing.
use Rattle.std.specs.Prelude.{ℕ, ◌+◌, List, [], ◌∷◌, Bool, cond, length, leb, eqb}
use Rattle.reads.specs.Answer.{Answer, accept, refuse, ◌>>=◌}
use Rattle.text.specs.Text.{is_text}
use Rattle.pool.specs.Kinds as kind
use Rattle.pool.specs.Pool.{Pool}
use Rattle.slot.specs.Slots.{cell, tag_of, field, bytes_of}
use Rattle.handed.specs.Handed.{asked}
use Rattle.literal.specs.Values.{Literal, string, number_at}
use Rattle.values.specs.declared.Span.{Span}

-- ---- literals

abbrev pub literals : ℕ
literals = kind.set_of (kind.integer ∷ kind.float ∷ kind.long ∷ kind.double ∷ kind.string ∷ [])

-- a String by its Utf8 slot, a number by its bits
unfoldable pub literal_of : Pool → ℕ → Literal
literal_of p n = cond (eqb (tag_of p n) kind.string) (string (field p n 1)) (number_at p.file (tag_of p n) (cell p n + 1))

unfoldable pub literal_at : ℕ → Pool → Answer Literal
literal_at n p = do
  _ ← asked p literals n
  accept (literal_of p n)

-- ---- Utf8 slots

abbrev pub utf8 : ℕ
utf8 = kind.set_of (kind.utf8 ∷ [])

-- whether it is text
unfoldable pub text_at : ℕ → Pool → Answer Bool
text_at n p = do
  _ ← asked p utf8 n
  accept (is_text (bytes_of p n))

-- its bytes, and none where that refuses
unfoldable pub bytes_at : ℕ → Pool → Answer (List ℕ)
bytes_at n p = do
  _ ← asked p utf8 n
  accept (bytes_of p n)

abbrev pub bytes_in : Answer (List ℕ) → List ℕ
bytes_in (accept bs) = bs
bytes_in (refuse nr place) = []

-- where they stand: from this byte on and up to that one, both in the file
unfoldable pub cut : List ℕ → ℕ → ℕ
cut s at = cond (leb at (length s)) at (length s)

unfoldable pub span_of : Pool → ℕ → Span
span_of p n = record { from = cut p.file (cell p n + 3); to = cut p.file (cell p n + 3 + field p n 1) }

unfoldable pub span_at : ℕ → Pool → Answer Span
span_at n p = do
  _ ← asked p utf8 n
  accept (span_of p n)

abbrev pub span_in : Answer Span → Span
span_in (accept x) = x
span_in (refuse nr place) = record { from = 0; to = 0 }
