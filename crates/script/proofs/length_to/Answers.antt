-- `script::length_to` meets its contract. Assumes nothing.
use Rattle.std.proofs.Common.{rules}
use borrow.Author.Tests.{tests}
use lib.Dec.{eqb}
use Rattle.std.proofs.lemmas.Iterator.{YieldsList-from_slice}
use Rattle.std.proofs.lemmas.Iterator.Search.{position_from_yields_List}
use Rattle.script.proofs.Scripts.{found}
use Rattle.script.proofs.length_to.Goals as goal

pub returns : goal.returns
returns c = rw c.unwrap_or.ensures (found _ _ _ (position_from_yields_List (λ b. eqb b c.args.mark) _ _ _ c.position.ensures.ran (YieldsList-from_slice c.args.s.now cc) (λ x b q k. search (rules, tests))))
