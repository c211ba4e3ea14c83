-- A module name by bytes is one by code points, on every text. Assumes nothing.
use Prim.Native.Nat.{ℕ, suc, ◌+◌, ◌*◌, ◌≤◌}
use native.Mathlib.Omega.{arith}
use mathlib.Core.Path.{◌≡◌, refl, sym, ◌∙◌, subst}
use mathlib.Core.List.{List, [], ◌∷◌, ◌++◌}
use mathlib.Core.Bool.{Bool, true, false, not, ◌&&◌, ◌||◌, true≢false}
use lib.ListN.{length}
use lib.Dec.{leb, eqb, ltb, eqb-zero-suc}
use borrow.Author.Tests.{eq-eqb, eqb-true, le-leb, leb-true, ltb-true}
use Rattle.text.specs.Text.{Form, begins, text_forms, pair_form, covered, one_of, escaped, escape, module_byte, module_form, module_name, run, is_text}
use Rattle.text.proofs.Laws.{and_both}
use Rattle.text.proofs.Runs.{run_step, run_stop}
use Rattle.text.proofs.Texts.{Among, here, later, Point, Points, none, more, text_of}
use Rattle.cases.specs.Modules.{point_of, codes, plain_point, module_points}

-- ---- a module name, byte by byte

like : (a b c d : ℕ) → (a ≡ b → c ≡ d) → (c ≡ d → a ≡ b) → eqb a b ≡ eqb c d
like a b c d f g = go (eqb a b) (eqb c d) refl refl
  where
    go : (x y : Bool) → eqb a b ≡ x → eqb c d ≡ y → x ≡ y
    go true true p q = refl
    go false false p q = refl
    go true false p q = sym (eq-eqb c d (f (eqb-true a b p))) ∙ q
    go false true p q = sym p ∙ eq-eqb a b (g (eqb-true c d q))

step_on : (b : ℕ) (bs : List ℕ) → escape (b ∷ bs) ≡ false → module_byte b ≡ true → module_name (b ∷ bs) ≡ module_name bs
unfolding module_name module_form
step_on b bs e m =
    let r = run_step module_form 1 (b ∷ bs) (rw (e, m)) (omega arith) in
    like (run module_form (b ∷ bs)) (suc (length bs)) (run module_form bs) (length bs) (λ h. omega arith) (λ h. omega arith)

step_pair : (b c : ℕ) (bs : List ℕ) → escape (b ∷ c ∷ bs) ≡ true → module_name (b ∷ c ∷ bs) ≡ module_name bs
unfolding module_name module_form
step_pair b c bs e =
    let r = run_step module_form 2 (b ∷ c ∷ bs) (rw e) (omega arith) in
    like (run module_form (b ∷ c ∷ bs)) (suc (suc (length bs))) (run module_form bs) (length bs) (λ h. omega arith) (λ h. omega arith)

step_stop : (b : ℕ) (bs : List ℕ) → escape (b ∷ bs) ≡ false → module_byte b ≡ false → module_name (b ∷ bs) ≡ false
unfolding module_name module_form
step_stop b bs e m = rw (run_stop module_form (b ∷ bs) (rw (e, m)), eqb-zero-suc)

-- ---- bytes from 80 up but C0

abbrev High : List ℕ → Type 0
High [] = Unit {0}
High (b ∷ bs) = (0x80 ≤ b) × (eqb b 0xC0 ≡ false) × High bs

far : (a c : ℕ) → (a ≡ c → ⊥) → eqb a c ≡ false
far a c f = go (eqb a c) refl
  where
    go : (x : Bool) → eqb a c ≡ x → x ≡ false
    go false e = refl
    go true e = absurd (f (eqb-true a c e))

no_mark : (b : ℕ) → 0x80 ≤ b → one_of escaped b ≡ false
unfolding one_of
no_mark b h = rw (far b 0x5C (λ e. omega arith), far b 0x3A (λ e. omega arith), far b 0x40 (λ e. omega arith))

no_escape : (b : ℕ) (bs : List ℕ) → eqb b 0x5C ≡ false → escape (b ∷ bs) ≡ false
unfolding escape
no_escape b [] h = refl
no_escape b (c ∷ bs) h = rw h

high_byte : (b : ℕ) → 0x80 ≤ b → eqb b 0xC0 ≡ false → module_byte b ≡ true
unfolding module_byte
high_byte b h e = rw (le-leb 0x20 b (omega arith), no_mark b h, e)

through : (p ps : List ℕ) → High p → module_name (p ++ ps) ≡ module_name ps
through [] ps h = refl
through (b ∷ p) ps h = step_on b (p ++ ps) (no_escape b (p ++ ps) (far b 0x5C (λ e. omega (arith, h.0)))) (high_byte b h.0 h.1) ∙ through p ps h.2

-- ---- bytes that fit a form, and what sort of code point they are

abbrev Fits : Form → List ℕ → Type 0
Fits [] [] = Unit {0}
Fits [] (b ∷ bs) = ⊥
Fits (r ∷ rs) [] = ⊥
Fits (r ∷ rs) (b ∷ bs) = (r.0 ≤ b) × (b ≤ r.1) × Fits rs bs

fits : (f : Form) (p : List ℕ) → begins f p ≡ true → length p ≡ length f → Fits f p
unfolding begins
fits [] [] h l = tt
fits [] (b ∷ p) h l = absurd (let z : ⊥ = omega arith in z)
fits (r ∷ rs) [] h l = absurd (true≢false (sym h))
fits (r ∷ rs) (b ∷ p) h l =
    let x = and_both (leb r.0 b && leb b r.1) (begins rs p) h in
    let y = and_both (leb r.0 b) (leb b r.1) x.0 in
    (leb-true r.0 b y.0, leb-true b r.1 y.1, fits rs p x.1 (omega arith))

data Sort : List ℕ → Type 0 where
  plain : (b : ℕ) → b ≤ 0x7F → Sort (b ∷ [])
  nul : Sort (0xC0 ∷ 0x80 ∷ [])
  high : (b : ℕ) (p : List ℕ) → High (b ∷ p) → 0x80 ≤ point_of (b ∷ p) → Sort (b ∷ p)

-- every range of a form is from 80 up, and without C0
abbrev high_form : Form → Bool
high_form [] = true
high_form (r ∷ rs) = (leb 0x80 r.0 && (ltb r.1 0xC0 || ltb 0xC0 r.0)) && high_form rs

high_of : (f : Form) (p : List ℕ) → high_form f ≡ true → Fits f p → High p
high_of [] [] h t = tt
high_of [] (b ∷ p) h t = absurd t
high_of (r ∷ rs) [] h t = absurd t
high_of (r ∷ rs) (b ∷ p) h (l, u, t) =
    let x = and_both (leb 0x80 r.0 && (ltb r.1 0xC0 || ltb 0xC0 r.0)) (high_form rs) h in
    let y = and_both (leb 0x80 r.0) (ltb r.1 0xC0 || ltb 0xC0 r.0) x.0 in
    (omega (arith, leb-true 0x80 r.0 y.0), far b 0xC0 (off (ltb r.1 0xC0) refl y.1), high_of rs p x.1 t)
  where
    off : (z : Bool) → ltb r.1 0xC0 ≡ z → z || ltb 0xC0 r.0 ≡ true → b ≡ 0xC0 → ⊥
    off true e g q = omega (arith, ltb-true r.1 0xC0 e)
    off false e g q = omega (arith, ltb-true 0xC0 r.0 g)

abbrev Each : List Form → Type 0
Each [] = Unit {0}
Each (f ∷ fs) = ((p : List ℕ) → Fits f p → Sort p) × Each fs

pick : (f : Form) (fs : List Form) → Each fs → Among f fs → (p : List ℕ) → Fits f p → Sort p
pick f fs h (here a rest) = h.0
pick f fs h (later a b rest m) = pick a rest h.1 m

one : (p : List ℕ) → Fits ((0x01, 0x7F) ∷ []) p → Sort p
one [] t = absurd t
one (b ∷ []) (l, u, t) = plain b u
one (b ∷ c ∷ p) (l, u, t) = absurd t

zero_point : (p : List ℕ) → Fits ((0xC0, 0xC0) ∷ (0x80, 0x80) ∷ []) p → Sort p
zero_point [] t = absurd t
zero_point (b ∷ []) (l, u, t) = absurd t
zero_point (b ∷ c ∷ []) (l, u, (m, v, t)) = subst (λ (q : List ℕ). Sort q) (λ i. both i) nul
  where
    both : (0xC0 ∷ 0x80 ∷ []) ≡ (b ∷ c ∷ [])
    both = let x : 0xC0 ≡ b = omega arith in let y : 0x80 ≡ c = omega arith in cc
zero_point (b ∷ c ∷ d ∷ p) (l, u, (m, v, t)) = absurd t

two : (r s : ℕ × ℕ) → high_form (r ∷ s ∷ []) ≡ true → 0xC2 ≤ r.0 → (p : List ℕ) → Fits (r ∷ s ∷ []) p → Sort p
unfolding point_of
two r s h k [] t = absurd t
two r s h k (b ∷ []) (l, u, t) = absurd t
two r s h k (b ∷ c ∷ []) (l, u, (m, v, t)) = high b (c ∷ []) (high_of (r ∷ s ∷ []) (b ∷ c ∷ []) h (l, u, (m, v, t))) (omega arith)
two r s h k (b ∷ c ∷ d ∷ p) (l, u, (m, v, t)) = absurd t

three : (r s q : ℕ × ℕ) → high_form (r ∷ s ∷ q ∷ []) ≡ true → 0xE0 * 4096 + 0xA0 * 64 ≤ r.0 * 4096 + s.0 * 64 → 0xE0 ≤ r.0 → 0x80 ≤ s.0 → (p : List ℕ) → Fits (r ∷ s ∷ q ∷ []) p → Sort p
unfolding point_of
three r s q h k j i [] t = absurd t
three r s q h k j i (b ∷ []) (l, u, t) = absurd t
three r s q h k j i (b ∷ c ∷ []) (l, u, (m, v, t)) = absurd t
three r s q h k j i (b ∷ c ∷ d ∷ []) (l, u, (m, v, (n, w, t))) = high b (c ∷ d ∷ []) (high_of (r ∷ s ∷ q ∷ []) (b ∷ c ∷ d ∷ []) h (l, u, (m, v, (n, w, t)))) (omega arith)
three r s q h k j i (b ∷ c ∷ d ∷ e ∷ p) (l, u, (m, v, (n, w, t))) = absurd t

fits_length : (f : Form) (p : List ℕ) → Fits f p → length p ≡ length f
fits_length [] [] t = refl
fits_length [] (b ∷ p) t = absurd t
fits_length (r ∷ rs) [] t = absurd t
fits_length (r ∷ rs) (b ∷ p) (l, u, t) = let e = fits_length rs p t in omega arith

six : (f : Form) → length f ≡ 6 → high_form f ≡ true → (p : List ℕ) → Fits f p → Sort p
unfolding point_of
six f k h [] t = absurd (let e = fits_length f [] t in let z : ⊥ = omega arith in z)
six f k h (b ∷ p) t = let e : length (b ∷ p) ≡ 6 = fits_length f (b ∷ p) t ∙ k in high b p (high_of f (b ∷ p) h t) (rw e (omega arith))

table : Each text_forms
table = (
  one,
  (
    zero_point,
    (
      two (0xC2, 0xDF) (0x80, 0xBF) refl (omega arith),
      (
        three (0xE0, 0xE0) (0xA0, 0xBF) (0x80, 0xBF) refl (omega arith) (omega arith) (omega arith),
        (
          three (0xE1, 0xEC) (0x80, 0xBF) (0x80, 0xBF) refl (omega arith) (omega arith) (omega arith),
          (
            three (0xED, 0xED) (0x80, 0x9F) (0x80, 0xBF) refl (omega arith) (omega arith) (omega arith),
            (
              three (0xEE, 0xEF) (0x80, 0xBF) (0x80, 0xBF) refl (omega arith) (omega arith) (omega arith),
              (six pair_form refl refl, tt),
            ),
          ),
        ),
      ),
    ),
  ),
)

sort_of : (p : List ℕ) → Point p → Sort p
sort_of p d = pick d.form text_forms table d.among p (fits d.form p d.fits d.whole)

-- ---- a name by points

others : (c : ℕ) (cs : List ℕ) → eqb c 0x5C ≡ false → module_points (c ∷ cs) ≡ plain_point c && module_points cs
unfolding module_points
others c [] e = sym (and_true (plain_point c))
  where
    and_true : (a : Bool) → a && true ≡ a
    and_true true = refl
    and_true false = refl
others c (d ∷ cs) e = rw e

slash_pair : (d : ℕ) (cs : List ℕ) → one_of escaped d ≡ true → module_points (0x5C ∷ d ∷ cs) ≡ module_points cs
unfolding module_points
slash_pair d cs e = rw e

slash_stop : (d : ℕ) (cs : List ℕ) → one_of escaped d ≡ false → module_points (0x5C ∷ d ∷ cs) ≡ false
unfolding module_points plain_point one_of
slash_stop d cs e = rw e

high_point : (c : ℕ) → 0x80 ≤ c → plain_point c ≡ true
unfolding plain_point
high_point c h = rw (le-leb 0x20 c (omega arith), no_mark c h)

-- ---- both agree, from a code point on, and from a `\` before it on

slash_bytes_pair : (b : ℕ) (ps : List ℕ) → one_of escaped b ≡ true → module_name (0x5C ∷ b ∷ ps) ≡ module_name ps
unfolding escape
slash_bytes_pair b ps e = step_pair 0x5C b ps e

slash_bytes_stop : (b : ℕ) (ps : List ℕ) → one_of escaped b ≡ false → module_name (0x5C ∷ b ∷ ps) ≡ false
unfolding escape module_byte one_of
slash_bytes_stop b ps e = step_stop 0x5C (b ∷ ps) e refl

low_byte : (b : ℕ) → b ≤ 0x7F → module_byte b ≡ plain_point b
unfolding module_byte plain_point
low_byte b h = rw (far b 0xC0 (λ e. omega arith)) (go (leb 0x20 b) (not (one_of escaped b)))
  where
    go : (x y : Bool) → x && (y && true) ≡ x && y
    go true true = refl
    go true false = refl
    go false y = refl

module _ (ps cs : List ℕ) (a : module_name ps ≡ module_points cs) (b : module_name (0x5C ∷ ps) ≡ module_points (0x5C ∷ cs)) where
  low : (c : ℕ) → c ≤ 0x7F → module_name (c ∷ ps) ≡ module_points (c ∷ cs)
  low c h = go (eqb c 0x5C) refl
    where
      go : (x : Bool) → eqb c 0x5C ≡ x → module_name (c ∷ ps) ≡ module_points (c ∷ cs)
      go true e = subst (λ (n : ℕ). module_name (n ∷ ps) ≡ module_points (n ∷ cs)) (sym (eqb-true c 0x5C e)) b
      go false e = by (plain_point c) refl
        where
          by : (y : Bool) → plain_point c ≡ y → module_name (c ∷ ps) ≡ module_points (c ∷ cs)
          by true k = step_on c ps (no_escape c ps e) (low_byte c h ∙ k) ∙ a ∙ sym (others c cs e ∙ rw k)
          by false k = step_stop c ps (no_escape c ps e) (low_byte c h ∙ k) ∙ sym (others c cs e ∙ rw k)

  low_slash : (c : ℕ) → module_name (0x5C ∷ c ∷ ps) ≡ module_points (0x5C ∷ c ∷ cs)
  low_slash c = go (one_of escaped c) refl
    where
      go : (x : Bool) → one_of escaped c ≡ x → module_name (0x5C ∷ c ∷ ps) ≡ module_points (0x5C ∷ c ∷ cs)
      go true e = slash_bytes_pair c ps e ∙ a ∙ sym (slash_pair c cs e)
      go false e = slash_bytes_stop c ps e ∙ sym (slash_stop c cs e)

  point : (p : List ℕ) → Sort p → (module_name (p ++ ps) ≡ module_points (point_of p ∷ cs)) × (module_name (0x5C ∷ (p ++ ps)) ≡ module_points (0x5C ∷ point_of p ∷ cs))
  unfolding point_of plain_point one_of escape module_byte
  point p (plain c h) = (low c h, low_slash c)
  point p nul = (step_stop 0xC0 (0x80 ∷ ps) refl refl ∙ sym (others 0 cs refl), slash_bytes_stop 0xC0 (0x80 ∷ ps) refl ∙ sym (slash_stop 0 cs refl))
  point p (high c q h k) =
      let n = point_of (c ∷ q) in
      (through (c ∷ q) ps h ∙ a ∙ sym (others n cs (far n 0x5C (λ e. omega (arith, k))) ∙ rw (high_point n k)), slash_bytes_stop c (q ++ ps) (no_mark c h.0) ∙ sym (slash_stop n cs (no_mark n k)))

agree : {bs : List ℕ} (ds : Points bs) → (module_name bs ≡ module_points (codes ds)) × (module_name (0x5C ∷ bs) ≡ module_points (0x5C ∷ codes ds))
unfolding module_name module_form module_byte escape one_of covered module_points plain_point
agree none = (refl, refl)
agree (more p ps d ds) = let h = agree ds in point ps (codes ds) h.0 h.1 p (sort_of p d)

-- a module name by bytes is one by code points, however the text is cut into them
pub by_points : {bs : List ℕ} (ds : Points bs) → module_name bs ≡ module_points (codes ds)
by_points ds = (agree ds).0

pub of_text : (bs : List ℕ) (t : is_text bs ≡ true) → module_name bs ≡ module_points (codes (text_of bs t))
of_text bs t = by_points (text_of bs t)
