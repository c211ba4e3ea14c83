-- Refusals that `?` hands on. Assumes nothing.
use Rattle.std.specs.Prelude.{Result, Ok, Err, IsErr}
use Rattle.std.specs.Result.{IsErrAnd}
use Rattle.std.proofs.Common.{◌≡◌, ◌∙◌, ap}
use Rattle.reads.specs.Answer.{Answer, accept, ◌>>=◌}
use Rattle.reads.specs.Promise.{refused, answer_of}
use Rattle.reads.specs.declared.Refusal.{Refusal}

pub passed : {T : Type 0} (r : Result T Refusal) (e : Refusal) → IsErr r × IsErrAnd r (λ f. f ≡ e) → r ≡ Err e
passed (Ok x) e h = absurd h.1
passed (Err r) e h = ap Err h.1
