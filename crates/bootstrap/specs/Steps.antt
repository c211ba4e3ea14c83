-- The code's own notion: a step of the code that answers as a step of the definition. Assumes nothing.
use Rattle.std.specs.Prelude.{ℕ, ◌<◌, Result}
use Rattle.reads.specs.Answer.{Answer}
use Rattle.reads.specs.Promise.{Is, answered}
use Rattle.reads.specs.declared.Refusal.{Refusal}

-- what a call answers from byte i on is what `s` says of that byte
abbrev pub Steps : (ℕ → Answer ℕ) → (ℕ → Result ℕ Refusal → Type 0) → Type 0
Steps s post = (i : ℕ) → i < 18446744073709551616 → (r : Result ℕ Refusal) → post i r → Is answered (s i) r
