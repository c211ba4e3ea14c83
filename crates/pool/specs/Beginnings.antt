-- A statement: what was refused is refused of every file that begins with the bytes that were read. Document 01, "File and lent tables" and "Refusal numbers". Assumes nothing.
use Rattle.std.specs.Prelude.{ℕ, ◌+◌, ◌≤◌, ◌<◌, ◌≡◌, List, length, take}
use Rattle.reads.specs.Answer.{Answer, refuse}

-- the file t begins with the first n bytes of s
abbrev pub Begins : ℕ → List ℕ → List ℕ → Type 0
Begins n s t = take n t ≡ take n s

-- refusals that a file's length decides: 1 asks that t is too long, 2 that it is not longer than s; all others that it is not too long
pub record Comparable (nr : ℕ) (s t : List ℕ) : Type 0 where
  pub too_long : nr ≡ 1 → 16777216 < length t
  pub no_longer : nr ≡ 2 → length t ≤ length s
  pub allowed : (nr ≡ 1 → ⊥) → length t ≤ 16777216

-- a call refused s with `nr` at `place`, by its first `upto` bytes: none for 1; those before its place for 2; the magic for 3; up to the unknown byte for 4. Every file that begins so is refused so
pub record Settled {A : Type 0} (call : List ℕ → Answer A) (s : List ℕ) (nr place : ℕ) : Type 0 where
  pub upto : ℕ
  pub inside : upto ≤ length s
  pub of_1 : nr ≡ 1 → upto ≡ 0
  pub of_2 : nr ≡ 2 → upto ≡ place
  pub of_3 : nr ≡ 3 → upto ≡ 4
  pub of_4 : nr ≡ 4 → upto ≡ place + 1
  pub stays : (t : List ℕ) → Begins upto s t → Comparable nr s t → refuse nr place ≡ call t
