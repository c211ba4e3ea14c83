-- `text::plain_length` meets its contract. Assumes nothing.
use mathlib.Core.Bool.{not}
use mathlib.Core.Path.{◌∙◌}
use Prim.Native.Nat.{ℕ}
use borrow.Author.Rules.{rules}
use borrow.Author.Tests.{tests}
use Rattle.std.proofs.lemmas.Iterator.{YieldsList-from_slice}
use Rattle.std.proofs.lemmas.Iterator.Consumers.{count_from_yields_List}
use Rattle.std.proofs.lemmas.Iterator.Search.{YieldsList-from_take_while}
use Rattle.std.proofs.lemmas.List.Folds.{length-prefix_len}
use Rattle.text.specs.Text.{one_of, name_marks}
use Rattle.text.proofs.Names.{before_prefix}
use Rattle.text.proofs.plain_length.Goals as goal

pub returns : goal.returns
returns c =
    let s = c.args.s.now in
    let test = λ (b : ℕ). not (one_of (name_marks c.args.in_method) b) in
    count_from_yields_List c.take_while.result _ c.count.ensures.ran
    (YieldsList-from_take_while _ test (YieldsList-from_slice {s = c.take_while.result.iter} s cc) c.take_while.ensures.closure c.take_while.ensures.done (λ x b q k. search (rules, tests)))
    ∙ length-prefix_len test s
    ∙ before_prefix (name_marks c.args.in_method) s
