-- The grammar of document 01, as it is written there, and that the definitions decide it, both ways. Assumes nothing.
use Prim.Native.Nat.{ℕ, zero, suc, ◌+◌, ◌≤◌, ◌<◌}
use native.Mathlib.Omega.{arith}
use native.Mathlib.Numerals.{add-one}
use mathlib.Core.Path.{◌≡◌, refl, sym, ◌∙◌, ap, subst}
use mathlib.Core.List.{List, [], ◌∷◌, ◌++◌, append_assoc, append-nil}
use mathlib.Core.Bool.{Bool, true, false, cond, not, ◌&&◌, ◌||◌, true≢false}
use lib.ListN.{length, take, drop, get_or, length-append, length-drop, take-append-drop}
use lib.Seq.{take_all, take-append_seam, drop-append_seam, take-add, drop-cons}
use lib.Dec.{eqb, ltb}
use borrow.Author.Tests.{eq-eqb, eqb-true, lt-ltb, ltb-true}
use Rattle.text.specs.Text.{one_of, before, same, binary, follows, covered, run}
use Rattle.text.proofs.Laws.{and_both}
use Rattle.text.proofs.Names.{same_eq, scan, binary_scan}
use Rattle.text.proofs.Runs.{run_step, run_stop}
use Rattle.descriptors.specs.Descriptors.{stands, letters, class_length, base_length, on_more, type_length, field_descriptor, void, return_descriptor, closing, returned, method_descriptor}
use Rattle.descriptors.proofs.Types.{more_yes, type_in}

-- one of BCDFIJSZ, `L` binary name `;`, or `[` and a field type
pub data FieldType : List ℕ → Type 0 where
  letter : (b : ℕ) → one_of letters b ≡ true → FieldType (b ∷ [])
  object : (name : List ℕ) → binary name ≡ true → FieldType (0x4C ∷ (name ++ (0x3B ∷ [])))
  array : (t : List ℕ) → FieldType t → FieldType (0x5B ∷ t)

some : {t : List ℕ} → FieldType t → 0 < length t
some (letter b h) = omega arith
some (object name h) = omega arith
some (array t d) = omega arith

-- ---- a field type is as long as `typeLength` says, whatever follows it

abbrev semi : List ℕ
semi = 0x3B ∷ []

no_bracket : (b : ℕ) → one_of letters b ≡ true → eqb b 0x5B ≡ false
unfolding one_of
no_bracket b h = go (eqb b 0x5B) refl
  where
    go : (t : Bool) → eqb b 0x5B ≡ t → t ≡ false
    go false e = refl
    go true e = absurd (true≢false (sym (rw (eqb-true b 0x5B e) at h)))

no_semi : (seen : Bool) (b : ℕ) → follows seen b ≡ true → eqb b 0x3B ≡ false
unfolding follows one_of
no_semi seen b h = go (eqb b 0x3B) refl
  where
    go : (t : Bool) → eqb b 0x3B ≡ t → t ≡ false
    go false e = refl
    go true e = absurd (true≢false (sym (rw (eqb-true b 0x3B e) at h)))

name_before : (seen : Bool) (name rest : List ℕ) → scan seen name ≡ true → before semi (name ++ (0x3B ∷ rest)) ≡ length name
unfolding scan before one_of
name_before seen [] rest h = refl
name_before seen (b ∷ name) rest h =
    let p = and_both (follows seen b) (scan (not (eqb b 0x2F)) name) h in
    rw (no_semi seen b p.0) (ap suc (name_before (not (eqb b 0x2F)) name rest p.1))

class_is : (name rest : List ℕ) → binary name ≡ true → class_length (name ++ (0x3B ∷ rest)) ≡ length name + 1
unfolding class_length
class_is name rest h =
    let e = name_before false name rest (sym (binary_scan name) ∙ h) in
    let l : length name < length (name ++ (0x3B ∷ rest)) = simp length-append (omega arith) in
    simp (e, lt-ltb _ _ l, take-append_seam, h)

pub type_is : {t : List ℕ} (rest : List ℕ) → FieldType t → type_length (t ++ rest) ≡ length t
unfolding type_length base_length one_of
type_is rest (letter b h) = rw (no_bracket b h, h)
type_is rest (object name h) =
    rw (append_assoc name (0x3B ∷ []) rest, class_is name rest h) (sym (more_yes 1 (length name + 1) (λ z. omega arith)) ∙ simp length-append (omega arith))
type_is rest (array t d) =
    rw (type_is rest d) (sym (more_yes 1 (length t) (λ z. let p = some d in omega arith)) ∙ omega arith)

-- ---- what `typeLength` counts is a field type

semi_of : (b : ℕ) → one_of semi b ≡ true → b ≡ 0x3B
unfolding one_of
semi_of b = go (eqb b 0x3B) refl
  where
    go : (t : Bool) → eqb b 0x3B ≡ t → t || false ≡ true → b ≡ 0x3B
    go true e h = eqb-true b 0x3B e
    go false e h = absurd (true≢false (sym h))

to_semi : (bs : List ℕ) → before semi bs < length bs → take (suc (before semi bs)) bs ≡ take (before semi bs) bs ++ (0x3B ∷ [])
unfolding before
to_semi [] h = absurd (let z : ⊥ = omega arith in z)
to_semi (b ∷ bs) h = go (one_of semi b) refl h (to_semi bs)
  where
    go : (t : Bool) → one_of semi b ≡ t → cond t 0 (suc (before semi bs)) < suc (length bs)
        → (before semi bs < length bs → take (suc (before semi bs)) bs ≡ take (before semi bs) bs ++ (0x3B ∷ []))
        → take (suc (cond t 0 (suc (before semi bs)))) (b ∷ bs) ≡ take (cond t 0 (suc (before semi bs))) (b ∷ bs) ++ (0x3B ∷ [])
    go true e k ih = ap (λ (x : ℕ). x ∷ []) (semi_of b e)
    go false e k ih = ap (λ (l : List ℕ). b ∷ l) (ih (omega arith))

-- a length with bytes before it that is not 0
more_some : (k n : ℕ) → 0 < on_more k n → (0 < n) × (on_more k n ≡ k + n)
unfolding on_more
more_some k zero h = omega arith
more_some k (suc n) h = (omega arith, sym (more_yes k (suc n) (λ z. omega arith)))

class_of : (bs : List ℕ) → 0 < class_length bs → (before semi bs < length bs) × (binary (take (before semi bs) bs) ≡ true) × (class_length bs ≡ before semi bs + 1)
unfolding class_length
class_of bs = go (ltb (before semi bs) (length bs)) refl (binary (take (before semi bs) bs))
  where
    go : (t : Bool) → ltb (before semi bs) (length bs) ≡ t → (u : Bool) → 0 < cond (t && u) (before semi bs + 1) 0
        → (before semi bs < length bs) × (u ≡ true) × (cond (t && u) (before semi bs + 1) 0 ≡ before semi bs + 1)
    go true e true h = (ltb-true _ _ e, refl, refl)
    go true e false h = absurd (let z : ⊥ = omega arith in z)
    go false e u h = absurd (let z : ⊥ = omega arith in z)

object_of : (bs : List ℕ) → 0 < on_more 1 (class_length bs) → FieldType (take (on_more 1 (class_length bs)) (0x4C ∷ bs))
object_of bs h =
    let p = more_some 1 (class_length bs) h in
    let q = class_of bs p.0 in
    let e : on_more 1 (class_length bs) ≡ suc (suc (before semi bs)) = p.1 ∙ ap (λ (n : ℕ). 1 + n) q.2 ∙ omega arith in
    subst (λ (n : ℕ). FieldType (take n (0x4C ∷ bs))) (sym e) (subst (λ (l : List ℕ). FieldType (0x4C ∷ l)) (sym (to_semi bs q.0)) (object (take (before semi bs) bs) q.1))

pub type_of : (bs : List ℕ) → 0 < type_length bs → FieldType (take (type_length bs) bs)
unfolding type_length base_length
type_of [] h = absurd (let z : ⊥ = omega arith in z)
type_of (b ∷ bs) h = go (eqb b 0x5B) refl (one_of letters b) refl (eqb b 0x4C) refl h (type_of bs)
  where
    length_of : Bool → Bool → Bool → ℕ
    length_of t u v = cond t (on_more 1 (type_length bs)) (cond u 1 (cond v (on_more 1 (class_length bs)) 0))

    go : (t : Bool) → eqb b 0x5B ≡ t → (u : Bool) → one_of letters b ≡ u → (v : Bool) → eqb b 0x4C ≡ v → 0 < length_of t u v
        → (0 < type_length bs → FieldType (take (type_length bs) bs)) → FieldType (take (length_of t u v) (b ∷ bs))
    go true e u f v g k ih =
        let p = more_some 1 (type_length bs) k in
        let l : on_more 1 (type_length bs) ≡ suc (type_length bs) = p.1 ∙ omega arith in
        subst (λ (n : ℕ). FieldType (take n (b ∷ bs))) (sym l) (subst (λ (x : ℕ). FieldType (x ∷ take (type_length bs) bs)) (sym (eqb-true b 0x5B e)) (array (take (type_length bs) bs) (ih p.0)))
    go false e true f v g k ih = letter b f
    go false e false f true g k ih = subst (λ (x : ℕ). FieldType (take (on_more 1 (class_length bs)) (x ∷ bs))) (sym (eqb-true b 0x4C g)) (object_of bs k)
    go false e false f false g k ih = absurd (let z : ⊥ = omega arith in z)

-- a field descriptor is one field type and no more
pub field_is : {t : List ℕ} → FieldType t → field_descriptor t ≡ true
unfolding field_descriptor
field_is {t} d =
    let e : type_length t ≡ length t = subst (λ (l : List ℕ). type_length l ≡ length t) (append-nil t) (type_is [] d) in
    simp (lt-ltb _ _ (some d), e, eq-eqb (length t) (length t) refl)

pub field_of : (bs : List ℕ) → field_descriptor bs ≡ true → FieldType bs
unfolding field_descriptor
field_of bs h =
    let p = and_both (ltb 0 (length bs)) (eqb (type_length bs) (length bs)) h in
    let e = eqb-true (type_length bs) (length bs) p.1 in
    let d = type_of bs (let l = ltb-true 0 (length bs) p.0 in omega arith) in
    subst (λ (l : List ℕ). FieldType l) (take_all (type_length bs) bs (omega arith)) d

-- ---- method descriptors: `(` field types `)` then a field type or `V`

pub data Parameters : List ℕ → Type 0 where
  none : Parameters []
  more : (t ts : List ℕ) → FieldType t → Parameters ts → Parameters (t ++ ts)

pub data Returned : List ℕ → Type 0 where
  nothing : Returned void
  type : (t : List ℕ) → FieldType t → Returned t

-- the byte behind some bytes, and what follows it
module _ (c : ℕ) (rest : List ℕ) where
  byte_seam : (h : List ℕ) → get_or (h ++ (c ∷ rest)) (length h) 0 ≡ c
  byte_seam [] = refl
  byte_seam (x ∷ h) = byte_seam h

  drop_seam : (h : List ℕ) → drop (suc (length h)) (h ++ (c ∷ rest)) ≡ rest
  drop_seam [] = refl
  drop_seam (x ∷ h) = drop_seam h

  stands_seam : (h : List ℕ) (n : ℕ) → length h ≡ n → stands c n (h ++ (c ∷ rest)) ≡ true
  unfolding stands
  stands_seam h n e =
      let l : length h < length (h ++ (c ∷ rest)) = simp length-append (omega arith) in
      rw (← e) (simp (lt-ltb _ _ l, byte_seam h, eq-eqb c c refl))

parameters_run : {ts : List ℕ} (rest : List ℕ) → Parameters ts → run type_length (ts ++ (0x29 ∷ rest)) ≡ length ts
unfolding covered type_length base_length one_of
parameters_run rest none = refl
parameters_run rest (more t ts d ds) =
    let e = type_is (ts ++ (0x29 ∷ rest)) d in
    let l : length t ≤ length (t ++ (ts ++ (0x29 ∷ rest))) = simp length-append (omega arith) in
    rw (append_assoc t ts (0x29 ∷ rest), run_step type_length (length t) (t ++ (ts ++ (0x29 ∷ rest))) e l, drop-append_seam, parameters_run rest ds, length-append)

returned_is : {r : List ℕ} → Returned r → return_descriptor r ≡ true
unfolding return_descriptor same
returned_is nothing = refl
returned_is (type t d) = rw (field_is d) (go (same t void))
  where
    go : (a : Bool) → a || true ≡ true
    go true = refl
    go false = refl

pub method_is : {ts r : List ℕ} → Parameters ts → Returned r → method_descriptor (0x28 ∷ (ts ++ (0x29 ∷ r))) ≡ true
unfolding method_descriptor returned closing
method_is {ts} {r} ds d =
    let e = parameters_run r ds in
    let l : length (0x28 ∷ ts) ≡ length ts + 1 = omega arith in
    let p = stands_seam 0x29 r (0x28 ∷ ts) (length ts + 1) l in
    let q : drop (length ts + 1 + 1) (0x28 ∷ (ts ++ (0x29 ∷ r))) ≡ r = rw (add-one, ← l) (drop_seam 0x29 r (0x28 ∷ ts)) in
    simp (e, stands_seam 0x28 (ts ++ (0x29 ∷ r)) [] 0 refl, p, q, returned_is d)

parameters_of : (k : ℕ) (bs : List ℕ) → length bs ≤ k → Parameters (take (run type_length bs) bs)
unfolding covered
parameters_of zero [] h = none
parameters_of zero (b ∷ bs) h = absurd (let z : ⊥ = omega arith in z)
parameters_of (suc k) bs h = go (type_length bs) refl (λ m l. parameters_of k (drop (suc m) bs) l)
  where
    go : (n : ℕ) → type_length bs ≡ n → ((m : ℕ) → length (drop (suc m) bs) ≤ k → Parameters (take (run type_length (drop (suc m) bs)) (drop (suc m) bs)))
        → Parameters (take (run type_length bs) bs)
    go zero e ih = subst (λ (n : ℕ). Parameters (take n bs)) (sym (run_stop type_length bs e)) none
    go (suc m) e ih =
        let l : suc m ≤ length bs = omega (arith, type_in bs) in
        let t = subst (λ (n : ℕ). FieldType (take n bs)) e (type_of bs (omega arith)) in
        let i = ih m (rw length-drop (omega arith)) in
        let q = run type_length (drop (suc m) bs) in
        subst (λ (n : ℕ). Parameters (take n bs)) (sym (run_step type_length (suc m) bs e l))
        (subst (λ (ts : List ℕ). Parameters ts) (sym (take-add (suc m) q bs)) (more (take (suc m) bs) (take q (drop (suc m) bs)) t i))

stands_of : (c i : ℕ) (s : List ℕ) → stands c i s ≡ true → (i < length s) × (get_or s i 0 ≡ c)
unfolding stands
stands_of c i s h =
    let p = and_both (ltb i (length s)) (eqb (get_or s i 0) c) h in
    (ltb-true i (length s) p.0, eqb-true (get_or s i 0) c p.1)

returned_of : (r : List ℕ) → return_descriptor r ≡ true → Returned r
unfolding return_descriptor
returned_of r h = go (same r void) refl h
  where
    go : (t : Bool) → same r void ≡ t → t || field_descriptor r ≡ true → Returned r
    go true e k = subst (λ (l : List ℕ). Returned l) (sym (same_eq r void e)) nothing
    go false e k = type r (field_of r k)

-- what a method descriptor is made of
abbrev pub Made : List ℕ → Type 0
Made bs = (ts : List ℕ) × (r : List ℕ) × (Parameters ts) × (Returned r) × (bs ≡ 0x28 ∷ (ts ++ (0x29 ∷ r)))

pub method_of : (bs : List ℕ) → method_descriptor bs ≡ true → Made bs
unfolding method_descriptor returned closing
method_of [] h = absurd (let z = stands_of 0x28 0 [] (and_both _ _ (and_both _ _ h).0).0 in let y : ⊥ = omega arith in y)
method_of (b ∷ x) h = made (and_both (stands 0x28 0 (b ∷ x) && stands 0x29 (run type_length x + 1) (b ∷ x)) (return_descriptor (drop (run type_length x + 1 + 1) (b ∷ x))) h)
  where
    n : ℕ
    n = run type_length x

    made : (stands 0x28 0 (b ∷ x) && stands 0x29 (n + 1) (b ∷ x) ≡ true) × (return_descriptor (drop (n + 1 + 1) (b ∷ x)) ≡ true) → Made (b ∷ x)
    made p =
        let q = and_both (stands 0x28 0 (b ∷ x)) (stands 0x29 (n + 1) (b ∷ x)) p.0 in
        let first = (stands_of 0x28 0 (b ∷ x) q.0).1 in
        let close = stands_of 0x29 (n + 1) (b ∷ x) q.1 in
        let l : n < length x = omega arith in
        let g : get_or x n 0 ≡ 0x29 = rw add-one at close.1 in
        let e : x ≡ take n x ++ (0x29 ∷ drop (suc n) x) = sym (take-append-drop n x) ∙ ap (λ (t : List ℕ). take n x ++ t) (drop-cons x n 0 l ∙ ap (λ (c : ℕ). c ∷ drop (suc n) x) g) in
        let r = returned_of (drop (suc n) x) (simp add-one at p.1) in
        (take n x, drop (suc n) x, parameters_of (length x) x (omega arith), r, rw first (ap (λ (t : List ℕ). 0x28 ∷ t) e))
