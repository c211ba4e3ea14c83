-- `questions::answer` meets its contract. Assumes nothing.
use Rattle.literal.specs.Readings.{reading_literal}
use Rattle.values.specs.Readings.{reading_text}
use Rattle.questions.specs.Replies.{literal_values, text_values}
use Rattle.questions.proofs.Asked.{replied_by}
use Rattle.questions.proofs.answer.Goals as goal

pub returns-in-Literal : goal.returns-in-Literal
returns-in-Literal c = rw (c.in-Literal.is, c.reply_to-in-Literal.ensures) (replied_by literal_values reading_literal _ _ _ _ c.literal.ensures)

pub returns-in-Text : goal.returns-in-Text
returns-in-Text c = rw (c.in-Text.is, c.reply_to-in-Text.ensures) (replied_by text_values reading_text _ _ _ _ c.text_or_raw.ensures)
