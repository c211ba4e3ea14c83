-- Laws of field types: their walk by an index, and that each lies inside its bytes. Assumes nothing.
use Prim.Native.Nat.{ℕ, zero, suc, ◌+◌, ◌≤◌, ◌<◌}
use native.Mathlib.Omega.{arith}
use native.Mathlib.Nat.{zero-add}
use mathlib.Core.Path.{◌≡◌, refl, sym, ◌∙◌, ap, subst}
use mathlib.Core.List.{List, [], ◌∷◌}
use mathlib.Core.Bool.{Bool, true, false, cond, not, ◌&&◌, true≢false}
use lib.ListN.{length, take, drop, get_or, length-drop}
use Rattle.std.specs.List.{prefix_len}
use lib.Dec.{eqb, ltb, leb-suc-suc, eqb-suc-zero}
use borrow.Author.Tests.{eq-eqb, ne_eqb, eqb-true, lt-ltb, ltb-true}
use Rattle.text.specs.Text.{one_of, before, binary, follows, walked, whole, covered}
use Rattle.text.proofs.Laws.{and_both}
use Rattle.text.proofs.Names.{scan, binary_scan}
use Rattle.descriptors.specs.Descriptors.{stands, letters, class_length, base_length, on_more, type_length, depth, closing}

-- ---- a byte at an index

first : (n : ℕ) → ltb 0 (suc n) ≡ true
first n = lt-ltb 0 (suc n) (omega arith)

and_false : (a : Bool) → a && false ≡ false
and_false true = refl
and_false false = refl

-- ---- a class type: the walk along its name stops at the first `;`

abbrev semi : List ℕ
semi = 0x3B ∷ []

before_next : (b : ℕ) (bs : List ℕ) → eqb b 0x3B ≡ false → before semi (b ∷ bs) ≡ suc (before semi bs)
unfolding before one_of
before_next b bs e = simp e

abbrev Stops : Bool → List ℕ → Type 0
Stops seen bs =
    (ltb (before semi bs) (length bs) && scan seen (take (before semi bs) bs) ≡ stands 0x3B (walked seen bs) bs && whole seen bs)
    × (stands 0x3B (walked seen bs) bs ≡ true → before semi bs ≡ walked seen bs)

at_semi : (seen : Bool) (bs : List ℕ) → Stops seen (0x3B ∷ bs)
unfolding before one_of scan walked whole follows stands
at_semi seen bs = (rw (first (length bs)), λ h. refl)

stops : (seen : Bool) (bs : List ℕ) → Stops seen bs
unfolding before scan walked whole stands
stops seen [] = (refl, λ h. absurd (true≢false (sym h)))
stops seen (b ∷ bs) = go (eqb b 0x3B) refl (follows seen b) refl (stops (not (eqb b 0x2F)) bs)
  where
    go : (u : Bool) → eqb b 0x3B ≡ u → (t : Bool) → follows seen b ≡ t → Stops (not (eqb b 0x2F)) bs → Stops seen (b ∷ bs)
    go true e t f ih = subst (λ (x : ℕ). Stops seen (x ∷ bs)) (sym (eqb-true b 0x3B e)) (at_semi seen bs)
    go false e true f ih =
        (simp (before_next, f, leb-suc-suc) ih.0, λ h. simp (before_next, f) (ap suc (ih.1 (simp (f, leb-suc-suc) at h))))
    go false e false f ih =
        (simp (before_next, f, e, and_false), λ h. absurd (true≢false (sym h ∙ simp (f, e, and_false))))

pub class_walk : (bs : List ℕ) → class_length bs ≡ cond (stands 0x3B (walked false bs) bs && whole false bs) (walked false bs + 1) 0
unfolding class_length
class_walk bs = simp (binary_scan, (stops false bs).0) (go (stands 0x3B (walked false bs) bs) refl)
  where
    go : (t : Bool) → stands 0x3B (walked false bs) bs ≡ t
        → cond (stands 0x3B (walked false bs) bs && whole false bs) (before semi bs + 1) 0 ≡ cond (stands 0x3B (walked false bs) bs && whole false bs) (walked false bs + 1) 0
    go true e = rw ((stops false bs).1 e)
    go false e = simp e

pub class_in : (bs : List ℕ) → class_length bs ≤ length bs
unfolding class_length
class_in bs = go (ltb (before semi bs) (length bs)) refl (binary (take (before semi bs) bs))
  where
    go : (t : Bool) → ltb (before semi bs) (length bs) ≡ t → (u : Bool) → cond (t && u) (before semi bs + 1) 0 ≤ length bs
    go true e true = omega (arith, ltb-true (before semi bs) (length bs) e)
    go true e false = omega arith
    go false e u = omega arith

-- ---- lengths with bytes before them

module _ (k n : ℕ) where
  pub more_no : n ≡ 0 → 0 ≡ on_more k n
  unfolding on_more
  more_no h = simp (eq-eqb _ _ h)

  pub more_yes : (n ≡ 0 → ⊥) → k + n ≡ on_more k n
  unfolding on_more
  more_yes h = simp (ne_eqb _ _ h)

more_none : (n : ℕ) → n ≡ on_more 0 n
unfolding on_more
more_none zero = refl
more_none (suc n) = rw eqb-suc-zero (sym (zero-add (suc n)))

more_more : (d n : ℕ) → on_more 1 (on_more d n) ≡ on_more (suc d) n
unfolding on_more
more_more d zero = refl
more_more d (suc n) = let e : eqb (d + suc n) 0 ≡ false = ne_eqb (d + suc n) 0 (λ h. omega arith) in simp (eqb-suc-zero, e) (omega arith)

more_in : (k n l : ℕ) → n ≤ l → on_more k n ≤ k + l
unfolding on_more
more_in k zero l h = omega arith
more_in k (suc n) l h = rw eqb-suc-zero (omega arith)

-- ---- a field type with no `[`

pub base_none : (s : List ℕ) → length s ≡ 0 → base_length s ≡ 0
unfolding base_length
base_none [] h = refl
base_none (b ∷ bs) h = omega arith

pub base_some : (s : List ℕ) → 0 < length s → base_length s ≡ cond (one_of letters (get_or s 0 0)) 1 (cond (eqb (get_or s 0 0) 0x4C) (on_more 1 (class_length (drop 1 s))) 0)
unfolding base_length
base_some [] h = omega arith
base_some (b ∷ bs) h = refl

base_in : (bs : List ℕ) → base_length bs ≤ length bs
unfolding base_length
base_in [] = omega arith
base_in (b ∷ bs) = go (one_of letters b) (eqb b 0x4C)
  where
    go : (t u : Bool) → cond t 1 (cond u (on_more 1 (class_length bs)) 0) ≤ suc (length bs)
    go true u = omega arith
    go false true = let h = more_in 1 (class_length bs) (length bs) (class_in bs) in omega arith
    go false false = omega arith

-- ---- a field type: its `[`, and what follows them

pub depth_prefix : (bs : List ℕ) → prefix_len (λ b. eqb b 0x5B) bs ≡ depth bs
unfolding depth
depth_prefix [] = refl
depth_prefix (b ∷ bs) = go (eqb b 0x5B) (depth_prefix bs)
  where
    go : (t : Bool) → prefix_len (λ c. eqb c 0x5B) bs ≡ depth bs → cond t (1 + prefix_len (λ c. eqb c 0x5B) bs) 0 ≡ cond t (suc (depth bs)) 0
    go true e = omega arith
    go false e = refl

pub depth_le : (bs : List ℕ) → depth bs ≤ length bs
unfolding depth
depth_le [] = omega arith
depth_le (b ∷ bs) = go (eqb b 0x5B) (depth_le bs)
  where
    go : (t : Bool) → depth bs ≤ length bs → cond t (suc (depth bs)) 0 ≤ suc (length bs)
    go true h = omega arith
    go false h = omega arith

pub type_depth : (bs : List ℕ) → type_length bs ≡ on_more (depth bs) (base_length (drop (depth bs) bs))
unfolding type_length depth base_length
type_depth [] = more_none (base_length [])
type_depth (b ∷ bs) = go (eqb b 0x5B) (type_depth bs)
  where
    go : (t : Bool) → type_length bs ≡ on_more (depth bs) (base_length (drop (depth bs) bs))
        → cond t (on_more 1 (type_length bs)) (base_length (b ∷ bs)) ≡ on_more (cond t (suc (depth bs)) 0) (base_length (drop (cond t (suc (depth bs)) 0) (b ∷ bs)))
    go true e = rw e (more_more (depth bs) (base_length (drop (depth bs) bs)))
    go false e = more_none (base_length (b ∷ bs))

-- the type without its `[` ends inside
pub base_fits : (bs : List ℕ) → depth bs + base_length (drop (depth bs) bs) ≤ length bs
base_fits bs = omega (arith, base_in (drop (depth bs) bs), length-drop (depth bs) bs, depth_le bs)

pub type_in : (bs : List ℕ) → type_length bs ≤ length bs
type_in bs = rw (type_depth bs) (omega (arith, more_in (depth bs) _ _ (base_in (drop (depth bs) bs)), length-drop (depth bs) bs, depth_le bs))

pub stands_lt : (c i : ℕ) (s : List ℕ) → stands c i s ≡ true → i < length s
unfolding stands
stands_lt c i s h = ltb-true i (length s) (and_both (ltb i (length s)) (eqb (get_or s i 0) c) h).0

-- ---- parameters

pub closing_none : (s : List ℕ) → length s ≡ 0 → 1 ≡ closing s
unfolding closing covered
closing_none [] h = refl
closing_none (b ∷ bs) h = omega arith
