-- `slot::Pool::check_class_name` meets its contract. Assumes nothing.
use mathlib.Core.Path.{sym, ◌∙◌}
use Rattle.slot.specs.Slots.{class_text, class_name, text_at}
use Rattle.slot.proofs.Simple.{plainly}
use Rattle.slot.proofs.Pool.check_class_name.Goals as goal

pub returns-then-is_ascii_binary : goal.returns-then-is_ascii_binary
unfolding class_text class_name text_at
returns-then-is_ascii_binary c =
    let q = plainly _ _ (sym c.is_ascii_binary.ensures ∙ c.if-is_ascii_binary.true) in
    simp (← c.in_ok-check_kind.ensures, ← c.bytes-t.ensures, q.0, q.1)
