-- `text::begins` meets its contract. A form begins where the bytes are as many, and each lies in its range. Assumes nothing.
use native.Mathlib.Omega.{arith}
use mathlib.Core.Path.{sym, ◌∙◌}
use borrow.Author.Rules.{rules}
use borrow.Author.Tests.{tests, lt-leb}
use Rattle.std.proofs.lemmas.Iterator.{YieldsList-from_slice, YieldsList-from_zip}
use Rattle.std.proofs.lemmas.Iterator.Search.{all_from_yields_List}
use Rattle.text.proofs.Laws.{in_range, begins_zip, begins_short}
use Rattle.text.proofs.begins.Goals as goal

pub returns-then-t : goal.returns-then-t
returns-then-t g c =
    let f = c.args.form.now in
    let t = c.args.t.now in
    all_from_yields_List in_range c.all.new.self _ _ c.all.ensures.ran (YieldsList-from_zip (YieldsList-from_slice {s = c.zip.result.a} f cc) (YieldsList-from_slice {s = c.zip.result.b} t cc)) (λ x b q k. search (rules, tests))
    ∙ sym (begins_zip f t (omega arith))

pub returns-else-t : goal.returns-else-t
returns-else-t g c = lt-leb _ _ c.if-t.false ∙ sym (begins_short c.args.form.now c.args.t.now (omega arith))
