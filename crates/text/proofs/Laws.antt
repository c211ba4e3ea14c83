-- Laws of tests on bytes and of forms. Assumes nothing.
use Prim.Native.Nat.{ℕ, ◌≤◌, ◌<◌}
use native.Mathlib.Omega.{arith}
use mathlib.Core.Path.{◌≡◌, refl, sym}
use mathlib.Core.List.{List, [], ◌∷◌}
use mathlib.Core.Bool.{Bool, true, false, cond, ◌&&◌, true≢false}
use lib.ListN.{length}
use lib.Dec.{leb}
use Rattle.std.specs.List.{list_all, zip}
use Rattle.text.specs.Text.{Form, begins, form_length, text_form, text_forms}

and_false : (a : Bool) → a && false ≡ false
and_false true = refl
and_false false = refl

pub and_assoc : (a b c : Bool) → a && (b && c) ≡ (a && b) && c
and_assoc true b c = refl
and_assoc false b c = refl

pub and_both : (a b : Bool) → a && b ≡ true → (a ≡ true) × (b ≡ true)
and_both true b h = (refl, h)
and_both false b h = absurd (true≢false (sym h))

-- a form begins where each byte lies in its range
abbrev pub in_range : (ℕ × ℕ) × ℕ → Bool
in_range p = leb p.0.0 p.1 && leb p.1 p.0.1

pub begins_zip : (f : Form) (bs : List ℕ) → length f ≤ length bs → begins f bs ≡ list_all in_range (zip f bs)
unfolding begins
begins_zip [] bs h = refl
begins_zip (r ∷ rs) [] h = absurd (let z : ⊥ = omega arith in z)
begins_zip (r ∷ rs) (b ∷ bs) h = rw (begins_zip rs bs (omega arith))

pub begins_short : (f : Form) (bs : List ℕ) → length bs < length f → begins f bs ≡ false
unfolding begins
begins_short [] bs h = absurd (let z : ⊥ = omega arith in z)
begins_short (r ∷ rs) [] h = refl
begins_short (r ∷ rs) (b ∷ bs) h = rw (begins_short rs bs (omega arith)) (and_false (leb r.0 b && leb b r.1))

-- a form that begins has its length
pub begins_in : (f : Form) (bs : List ℕ) → begins f bs ≡ true → length f ≤ length bs
unfolding begins
begins_in [] bs h = omega arith
begins_in (r ∷ rs) [] h = absurd (true≢false (sym h))
begins_in (r ∷ rs) (b ∷ bs) h = let k = begins_in rs bs (and_both (leb r.0 b && leb b r.1) (begins rs bs) h).1 in omega arith

pub form_in : (fs : List Form) (bs : List ℕ) → form_length fs bs ≤ length bs
unfolding form_length
form_in [] bs = omega arith
form_in (f ∷ fs) bs = go (begins f bs) refl (form_in fs bs)
  where
    go : (t : Bool) → begins f bs ≡ t → form_length fs bs ≤ length bs → (cond t (length f) (form_length fs bs)) ≤ length bs
    go true e h = begins_in f bs e
    go false e h = h

-- the first form of a table that begins has its length
pub form_here : (f : Form) (fs : List Form) (bs : List ℕ) → begins f bs ≡ true → form_length (f ∷ fs) bs ≡ length f
unfolding form_length
form_here f fs bs e = rw e

pub form_later : (f : Form) (fs : List Form) (bs : List ℕ) → begins f bs ≡ false → form_length (f ∷ fs) bs ≡ form_length fs bs
unfolding form_length
form_later f fs bs e = rw e

pub form_end : (bs : List ℕ) → form_length [] bs ≡ 0
unfolding form_length
form_end bs = refl

pub text_in : (bs : List ℕ) → text_form bs ≤ length bs
unfolding text_form
text_in bs = form_in text_forms bs
