-- Plain ASCII is text. Assumes nothing.
use Prim.Native.Nat.{ℕ}
use mathlib.Core.Path.{◌≡◌, refl}
use mathlib.Core.List.{List, [], ◌∷◌}
use mathlib.Core.Bool.{true, ◌&&◌}
use lib.Dec.{leb}
use Rattle.text.specs.Text.{begins, is_text}
use Rattle.text.proofs.Laws.{and_both}
use Rattle.text.proofs.Texts.{Points, Point, text_is}
use Rattle.text.proofs.Texts.Among.{here}
use Rattle.text.proofs.Texts.Points.{none, more}
use Rattle.ascii.specs.Ascii.{ascii}

one : (b : ℕ) → leb 0x01 b && leb b 0x7F ≡ true → Point (b ∷ [])
unfolding begins
one b h = record { form = (0x01, 0x7F) ∷ []; among = here _ _; fits = rw h; whole = refl }

points : (bs : List ℕ) → ascii bs ≡ true → Points bs
unfolding ascii
points [] h = none
points (b ∷ bs) h = let p = and_both (leb 0x01 b && leb b 0x7F) (ascii bs) h in more (b ∷ []) bs (one b p.0) (points bs p.1)

pub ascii_text : (bs : List ℕ) → ascii bs ≡ true → is_text bs ≡ true
ascii_text bs h = text_is (points bs h)
