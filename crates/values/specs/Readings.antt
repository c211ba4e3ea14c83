-- The code's own notion: how the answers of this crate are read. Assumes nothing.
use Rattle.std.specs.Prelude.{◌≡◌, refl, Bool, true, false}
use Rattle.reads.specs.Promise.{Reading}
use Rattle.values.specs.declared.Utf8.{Utf8}
use Rattle.values.specs.declared.Utf8.TheVariants.{Text, Raw}

abbrev read_text : Utf8 → Bool
read_text Text = true
read_text Raw = false

abbrev back_text : Bool → Utf8
back_text true = Text
back_text false = Raw

pub again_text : (r : Utf8) → back_text (read_text r) ≡ r
again_text Text = refl
again_text Raw = refl

abbrev pub reading_text : Reading Utf8 Bool
reading_text = record { read = read_text; back = back_text; again = again_text }
