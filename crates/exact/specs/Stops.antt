-- A statement: where a list of checks or of records stops. Document 01, "Refusal numbers". Assumes nothing.
use Rattle.std.specs.Prelude.{ℕ, ◌+◌, ◌<◌, ◌≡◌}
use Rattle.reads.specs.Answer.{Answer, Check, fine, accept, refuse}
use Rattle.reads.specs.Records.{Many, records}

-- of the slots below `slots` the slot `place` is the first that `judge` refuses, and it does so with `nr`
pub record FirstAt (judge : ℕ → Check) (slots nr place : ℕ) : Type 0 where
  pub slot : place < slots
  pub before : (n : ℕ) → n < place → fine ≡ judge n
  pub there : refuse nr place ≡ judge place

-- k records were asked for, the first of them number n, from what is reached at s on. So many of them are good, up to what they reach, and the next one has the fault
pub record Stop {R S : Type 0} (judge : ℕ → S → Answer R) (reach : R → S → S) (k n : ℕ) (s : S) (Fault : ℕ → S → Type 0) : Type 0 where
  pub good : ℕ
  pub fewer : good < k
  pub before : Many R S
  pub judged : accept before ≡ records judge reach good n s
  pub fault : Fault (n + good) before.end
