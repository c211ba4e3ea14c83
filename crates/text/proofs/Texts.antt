-- Text is exactly a run of the forms of the table, however it is cut into them: no two forms meet, so the first that begins is the only one. Assumes nothing.
use Prim.Native.Nat.{ℕ, zero, suc, ◌≤◌, ◌<◌}
use native.Mathlib.Omega.{arith}
use mathlib.Core.Path.{◌≡◌, refl, sym, ◌∙◌, subst}
use mathlib.Core.List.{List, [], ◌∷◌, ◌++◌}
use mathlib.Core.Bool.{Bool, true, false, cond, not, ◌&&◌, true≢false}
use lib.ListN.{length, take, drop, length-append, length-drop}
use lib.Seq.{take_all, length-take-le, drop-append_seam, take-add}
use lib.Dec.{leb}
use borrow.Author.Tests.{le-leb, leb-true, eq-eqb, eqb-true, not-true}
use Rattle.text.proofs.Laws.{and_both, begins_in, text_in}
use Rattle.text.proofs.Runs.{run_step, run_stop}
use Rattle.text.specs.Text.{Form, begins, form_length, text_forms, text_form, covered, run, is_text}

-- a form of the table
pub data Among : Form → List Form → Type 0 where
  here : (f : Form) (fs : List Form) → Among f (f ∷ fs)
  later : (f g : Form) (fs : List Form) → Among f fs → Among f (g ∷ fs)

-- bytes that are one form from end to end, and a run of such bytes
pub record Point (p : List ℕ) : Type 0 where
  pub form : Form
  pub among : Among form text_forms
  pub fits : begins form p ≡ true
  pub whole : length p ≡ length form

pub data Points : List ℕ → Type 0 where
  none : Points []
  more : (p ps : List ℕ) → Point p → Points ps → Points (p ++ ps)

-- ---- two forms that some bytes begin with both

abbrev meets : Form → Form → Bool
meets [] g = true
meets (r ∷ rs) [] = true
meets (r ∷ rs) (q ∷ qs) = leb r.0 q.1 && leb q.0 r.1 && meets rs qs

both : (f g : Form) (bs : List ℕ) → begins f bs ≡ true → begins g bs ≡ true → meets f g ≡ true
unfolding begins
both [] g bs h k = refl
both (r ∷ rs) [] bs h k = refl
both (r ∷ rs) (q ∷ qs) [] h k = absurd (true≢false (sym h))
both (r ∷ rs) (q ∷ qs) (b ∷ bs) h k =
    let h1 = and_both (leb r.0 b && leb b r.1) (begins rs bs) h in
    let h2 = and_both (leb r.0 b) (leb b r.1) h1.0 in
    let k1 = and_both (leb q.0 b && leb b q.1) (begins qs bs) k in
    let k2 = and_both (leb q.0 b) (leb b q.1) k1.0 in
    let u : r.0 ≤ q.1 = omega (arith, leb-true r.0 b h2.0, leb-true b q.1 k2.1) in
    let v : q.0 ≤ r.1 = omega (arith, leb-true q.0 b k2.0, leb-true b r.1 h2.1) in
    rw (le-leb r.0 q.1 u, le-leb q.0 r.1 v) (both rs qs bs h1.1 k1.1)

-- no form meets a later one
abbrev clear : Form → List Form → Bool
clear f [] = true
clear f (g ∷ gs) = not (meets f g) && clear f gs

abbrev apart : List Form → Bool
apart [] = true
apart (f ∷ fs) = clear f fs && apart fs

text_forms_apart : apart text_forms ≡ true
text_forms_apart = refl

cleared : (f g : Form) (fs : List Form) → clear g fs ≡ true → Among f fs → meets g f ≡ false
cleared f g fs h (here a rest) = not-true (meets g a) (and_both (not (meets g a)) (clear g rest) h).0
cleared f g fs h (later a b rest m) = cleared a g rest (and_both (not (meets g b)) (clear g rest) h).1 m

picks : (f : Form) (fs : List Form) (bs : List ℕ) → apart fs ≡ true → Among f fs → begins f bs ≡ true → form_length fs bs ≡ length f
unfolding form_length
picks f fs bs h (here a rest) k = rw k
picks f fs bs h (later a b rest m) k =
    let p = and_both (clear b rest) (apart rest) h in
    rw (go (begins b bs) refl (cleared a b rest p.0 m)) (picks a rest bs p.1 m k)
  where
    go : (x : Bool) → begins b bs ≡ x → meets b a ≡ false → x ≡ false
    go false e z = refl
    go true e z = absurd (true≢false (sym (both b a bs e k) ∙ z))

-- ---- a run of forms is text

longer : (f : Form) (p rest : List ℕ) → begins f p ≡ true → begins f (p ++ rest) ≡ true
unfolding begins
longer [] p rest h = refl
longer (r ∷ rs) [] rest h = absurd (true≢false (sym h))
longer (r ∷ rs) (b ∷ p) rest h =
    let q = and_both (leb r.0 b && leb b r.1) (begins rs p) h in
    rw q.0 (longer rs p rest q.1)

point_is : {p : List ℕ} (rest : List ℕ) → Point p → text_form (p ++ rest) ≡ length p
unfolding text_form
point_is {p} rest d = picks d.form text_forms (p ++ rest) text_forms_apart d.among (longer d.form p rest d.fits) ∙ sym d.whole

points_run : {ps : List ℕ} → Points ps → run text_form ps ≡ length ps
unfolding covered
points_run none = refl
points_run (more p ps d ds) =
    let l : length p ≤ length (p ++ ps) = simp length-append (omega arith) in
    rw (run_step text_form (length p) (p ++ ps) (point_is ps d) l, drop-append_seam, points_run ds, length-append)

pub text_is : {bs : List ℕ} → Points bs → is_text bs ≡ true
unfolding is_text
text_is {bs} d = eq-eqb (run text_form bs) (length bs) (points_run d)

-- ---- text is a run of forms

found : (fs : List Form) (bs : List ℕ) → 0 < form_length fs bs → (f : Form) × (Among f fs) × (begins f bs ≡ true) × (form_length fs bs ≡ length f)
unfolding form_length
found [] bs h = absurd (let z : ⊥ = omega arith in z)
found (f ∷ fs) bs h = go (begins f bs) refl h (found fs bs)
  where
    go : (t : Bool) → begins f bs ≡ t → 0 < cond t (length f) (form_length fs bs)
        → (0 < form_length fs bs → (g : Form) × (Among g fs) × (begins g bs ≡ true) × (form_length fs bs ≡ length g))
        → (g : Form) × (Among g (f ∷ fs)) × (begins g bs ≡ true) × (cond t (length f) (form_length fs bs) ≡ length g)
    go true e k ih = (f, here f fs, e, refl)
    go false e k ih = let q = ih k in (q.0, later q.0 f fs q.1, q.2, q.3)

shorter : (f : Form) (bs : List ℕ) → begins f bs ≡ true → begins f (take (length f) bs) ≡ true
unfolding begins
shorter [] bs h = refl
shorter (r ∷ rs) [] h = absurd (true≢false (sym h))
shorter (r ∷ rs) (b ∷ bs) h =
    let q = and_both (leb r.0 b && leb b r.1) (begins rs bs) h in
    rw q.0 (shorter rs bs q.1)

point_of : (bs : List ℕ) (n : ℕ) → text_form bs ≡ n → 0 < n → Point (take n bs)
unfolding text_form
point_of bs n e h =
    let q = found text_forms bs (omega arith) in
    let l = begins_in q.0 bs q.2 in
    let z : n ≡ length q.0 = sym e ∙ q.3 in
    subst (λ (m : ℕ). Point (take m bs)) (sym z) (record { form = q.0; among = q.1; fits = shorter q.0 bs q.2; whole = length-take-le (length q.0) bs l })

points_of : (k : ℕ) (bs : List ℕ) → length bs ≤ k → Points (take (run text_form bs) bs)
unfolding covered
points_of zero [] h = none
points_of zero (b ∷ bs) h = absurd (let z : ⊥ = omega arith in z)
points_of (suc k) bs h = go (text_form bs) refl (λ m l. points_of k (drop (suc m) bs) l)
  where
    go : (n : ℕ) → text_form bs ≡ n → ((m : ℕ) → length (drop (suc m) bs) ≤ k → Points (take (run text_form (drop (suc m) bs)) (drop (suc m) bs)))
        → Points (take (run text_form bs) bs)
    go zero e ih = subst (λ (n : ℕ). Points (take n bs)) (sym (run_stop text_form bs e)) none
    go (suc m) e ih =
        let l : suc m ≤ length bs = omega (arith, text_in bs) in
        let i = ih m (rw length-drop (omega arith)) in
        let q = run text_form (drop (suc m) bs) in
        subst (λ (n : ℕ). Points (take n bs)) (sym (run_step text_form (suc m) bs e l))
        (subst (λ (ps : List ℕ). Points ps) (sym (take-add (suc m) q bs)) (more (take (suc m) bs) (take q (drop (suc m) bs)) (point_of bs (suc m) e (omega arith)) i))

pub text_of : (bs : List ℕ) → is_text bs ≡ true → Points bs
unfolding is_text
text_of bs h =
    let e = eqb-true (run text_form bs) (length bs) h in
    subst (λ (l : List ℕ). Points l) (take_all (run text_form bs) bs (omega arith)) (points_of (length bs) bs (omega arith))
