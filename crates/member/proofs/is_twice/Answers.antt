-- `member::is_twice` meets its contract. Assumes nothing.
use borrow.Author.Rules.{rules}
use borrow.Author.Tests.{tests}
use mathlib.Core.Path.{◌∙◌}
use Rattle.std.proofs.lemmas.Iterator.{YieldsList-from_slice, YieldsList-from_zip}
use Rattle.std.proofs.lemmas.Iterator.Search.{any_from_yields_List}
use Rattle.slot.specs.Shown.{shown}
use Rattle.member.proofs.Duplicates.{is_same, twice_zip}
use Rattle.member.proofs.is_twice.Goals as goal

pub returns : goal.returns
returns c =
    let names = c.args.names.now in
    let types = c.args.types.now in
    let same = is_same (shown c.args.p.now) c.args.name c.args.descriptor in
    any_from_yields_List same c.any.new.self _ _ c.any.ensures.ran (YieldsList-from_zip (YieldsList-from_slice {s = c.zip.result.a} names cc) (YieldsList-from_slice {s = c.zip.result.b} types cc)) (λ x b q k. search (rules, tests))
    ∙ twice_zip _ _ _ names types
