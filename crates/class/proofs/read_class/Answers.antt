-- `class::read_class` meets its contract. Assumes nothing.
use borrow.Author.Rules.{rules}
use Rattle.class.proofs.Files.{as_lent}
use Rattle.class.proofs.read_class.Goals as goal

pub returns-clause-tables : goal.returns-clause-tables
returns-clause-tables c =
    let t = c.read_into.ensures.tables in
    (t.0, (t.1.0, as_lent _ _ _ _ _ _ _ _ c.read_into.new.members c.read_into.new.attributes (search rules) (search rules) (search rules) (search rules) (search rules) (search rules) (search rules) (search rules) _ t.1.1))
