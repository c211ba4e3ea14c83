-- `questions::ask_in` meets its contract. Assumes nothing.
use Rattle.std.proofs.Common.{◌∙◌}
use Rattle.byte_tables.proofs.Gate.{refused, agreed}
use Rattle.questions.specs.Replies.{reply_at}
use Rattle.questions.proofs.Asked.{not_taken, taken}
use Rattle.questions.proofs.ask_in.Goals as goal

pub returns-in-Ok : goal.returns-in-Ok
returns-in-Ok c = c.answer.ensures ∙ taken (reply_at c.args.question c.args.n) _ _ _ _ c.check_afresh.ensures.cells (agreed c.args.file.now (λ i. (c.type_inv.file i).fits) _ c.requires _ c.in-Ok.ensures.answer)

pub returns-in-Err : goal.returns-in-Err
returns-in-Err c = c.refused.ensures ∙ not_taken _ _ (reply_at c.args.question c.args.n) _ _ (refused c.args.file.now (λ i. (c.type_inv.file i).fits) _ c.requires _ _ _ c.in-Err.ensures.answer)
