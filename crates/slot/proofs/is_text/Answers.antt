-- `slot::is_text` meets its contract. Assumes nothing.
use mathlib.Core.Path.{sym, ◌∙◌}
use Rattle.ascii.proofs.Texts.{ascii_text}
use Rattle.slot.proofs.is_text.Goals as goal

pub returns-then-is_ascii : goal.returns-then-is_ascii
returns-then-is_ascii c = c.if-is_ascii.true ∙ sym (ascii_text _ (sym c.is_ascii.ensures ∙ c.if-is_ascii.true))
