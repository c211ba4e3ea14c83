-- `ascii::is_fine_word` meets its contract. Assumes nothing.
use mathlib.Core.Path.{ap, ◌∙◌}
use borrow.Author.Rules.{rules}
use Rattle.ascii.specs.Ascii.{every8}
use Rattle.ascii.proofs.Windows.{bytes_all, packed_word}
use Rattle.ascii.proofs.Words.{every_eight}
use Rattle.ascii.proofs.is_fine_word.Goals as goal

pub returns : goal.returns
returns c =
    let w = c.args.w.now in
    let name = c.args.name in
    c.is_fine.ensures ∙ ap (every8 name) (c.from_le_bytes.ensures ∙ packed_word w (search rules)) ∙ every_eight name w (search rules) (bytes_all w (search rules))
