-- `slot::Pool::check_text` meets its contract. Assumes nothing.
use mathlib.Core.Path.{sym, ◌∙◌}
use Rattle.slot.specs.Slots.{text_of, text_at}
use Rattle.slot.proofs.Simple.{simply}
use Rattle.slot.proofs.Pool.check_text.Goals as goal

pub returns-then-is_simple : goal.returns-then-is_simple
unfolding text_of text_at
returns-then-is_simple c =
    let q = simply c.args.grammar c.bytes-t.result.now (sym c.is_simple.ensures ∙ c.if-is_simple.true) in
    simp (← c.in_ok-check_kind.ensures, ← c.bytes-t.ensures, q.0, q.1)
