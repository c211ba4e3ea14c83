-- The code's own notion: what a check of one slot, handed to the loop over the slots, answers. Assumes nothing.
use Rattle.std.specs.Prelude.{ℕ, ◌<◌, ◌^◌, Result}
use Rattle.reads.specs.Answer.{Check}
use Rattle.reads.specs.Promise.{Is, answered}
use Rattle.reads.specs.declared.Refusal.{Refusal}

-- whatever it answers of slot n, `f n` is that
abbrev pub Tells : (ℕ → Result (Unit {0}) Refusal → Type 0) → (ℕ → Check) → Type 0
Tells post f = (n : ℕ) (r : Result (Unit {0}) Refusal) → n < 2 ^ 64 → post n r → Is answered (f n) r
