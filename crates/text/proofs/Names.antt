-- Laws of names: tests on lists of bytes and walks along them by an index. Assumes nothing.
use Prim.Native.Nat.{ℕ, suc, ◌+◌, ◌≤◌, ◌<◌}
use native.Mathlib.Omega.{arith}
use native.Mathlib.Numerals.{add-one}
use mathlib.Core.Path.{◌≡◌, refl, sym, ◌∙◌, ap, subst}
use mathlib.Core.List.{List, [], ◌∷◌}
use mathlib.Core.Bool.{Bool, true, false, cond, not, ◌&&◌, ◌||◌}
use lib.ListN.{length, drop, get_or, drop_of_length-le}
use lib.Seq.{drop-cons}
use lib.Pointwise.{pointwise}
use Rattle.std.specs.List.{prefix_len}
use lib.Dec.{eqb, ltb, eqb-suc-suc, eqb-zero-suc}
use borrow.Author.Tests.{eq-eqb, eqb-true, lt-ltb}
use Rattle.text.proofs.Laws.{and_assoc, and_both}
use Rattle.text.specs.Text.{one_of, none_of, before, same, marks, angles, method_marks, plain, unqualified, onto, split, all_of, binary, follows, walked, whole}
use Rattle.text.specs.Text.{escaped, escape, module_byte, module_form}

-- ---- equality of two lists of bytes

same_refl : (xs : List ℕ) → same xs xs ≡ true
unfolding same
same_refl [] = refl
same_refl (x ∷ xs) = simp (eq-eqb x x refl, same_refl xs)

pub same_eq : (xs ys : List ℕ) → same xs ys ≡ true → xs ≡ ys
unfolding same
same_eq [] [] h = refl
same_eq [] (y ∷ ys) h = cc
same_eq (x ∷ xs) [] h = cc
same_eq (x ∷ xs) (y ∷ ys) h =
    let b = and_both (eqb x y) (same xs ys) h in
    let p = eqb-true x y b.0 in
    let q = same_eq xs ys b.1 in
    cc

agree : (r t : Bool) → (r ≡ true → t ≡ true) → (t ≡ true → r ≡ true) → r ≡ t
agree true t f g = sym (f refl)
agree false true f g = g refl
agree false false f g = refl

-- a test that holds exactly of equal lists
pub decides : (r : Bool) (a b : List ℕ) → (r ≡ true → a ≡ b) × (a ≡ b → r ≡ true) → r ≡ same a b
decides r a b e = agree r (same a b) (λ h. subst (λ (l : List ℕ). same a l ≡ true) (e.0 h) (same_refl a)) (λ h. e.1 (same_eq a b h))

-- what `==` of two slices answers
pub pointwise_same : (a b : List ℕ) → pointwise eqb a b ≡ same a b
unfolding same
pointwise_same [] [] = refl
pointwise_same [] (y ∷ ys) = refl
pointwise_same (x ∷ xs) [] = refl
pointwise_same (x ∷ xs) (y ∷ ys) = rw (pointwise_same xs ys)

-- ---- the byte at an index, and the end

module _ (s : List ℕ) (i : ℕ) where
  pub at : i < length s → drop i s ≡ get_or s i 0 ∷ drop (i + 1) s
  at h = rw (add-one, drop-cons s i 0)

  module _ (seen : Bool) where
    pub walked_in : i < length s → walked seen (drop i s) ≡ cond (follows seen (get_or s i 0)) (suc (walked (not (eqb (get_or s i 0) 0x2F)) (drop (i + 1) s))) 0
    unfolding walked
    walked_in h = ap (walked seen) (at h)

    pub walked_out : length s ≤ i → walked seen (drop i s) ≡ 0
    unfolding walked
    walked_out h = rw (drop_of_length-le s h)

    pub whole_in : i < length s → whole seen (drop i s) ≡ cond (follows seen (get_or s i 0)) (whole (not (eqb (get_or s i 0) 0x2F)) (drop (i + 1) s)) seen
    unfolding whole
    whole_in h = ap (whole seen) (at h)

    pub whole_out : length s ≤ i → whole seen (drop i s) ≡ seen
    unfolding whole
    whole_out h = rw (drop_of_length-le s h)

pub walked_le : (seen : Bool) (bs : List ℕ) → walked seen bs ≤ length bs
unfolding walked
walked_le seen [] = omega arith
walked_le seen (b ∷ bs) = go (follows seen b) (walked_le (not (eqb b 0x2F)) bs)
  where
    go : (t : Bool) → walked (not (eqb b 0x2F)) bs ≤ length bs → cond t (suc (walked (not (eqb b 0x2F)) bs)) 0 ≤ suc (length bs)
    go true h = omega arith
    go false h = omega arith

-- ---- none of some bytes: all stand before the first of them

-- the bytes before the first of cs are the longest beginning that has none
pub before_prefix : (cs bs : List ℕ) → prefix_len (λ b. not (one_of cs b)) bs ≡ before cs bs
unfolding before
before_prefix cs [] = refl
before_prefix cs (b ∷ bs) = go (one_of cs b) (before_prefix cs bs)
  where
    go : (t : Bool) → prefix_len (λ c. not (one_of cs c)) bs ≡ before cs bs → cond (not t) (1 + prefix_len (λ c. not (one_of cs c)) bs) 0 ≡ cond t 0 (suc (before cs bs))
    go true e = refl
    go false e = omega arith

pub none_before : (cs bs : List ℕ) → none_of cs bs ≡ eqb (before cs bs) (length bs)
unfolding none_of before
none_before cs [] = refl
none_before cs (b ∷ bs) = go (one_of cs b) (none_before cs bs)
  where
    go : (t : Bool) → none_of cs bs ≡ eqb (before cs bs) (length bs) → not t && none_of cs bs ≡ eqb (cond t 0 (suc (before cs bs))) (suc (length bs))
    go true e = sym (eqb-zero-suc (length bs))
    go false e = e ∙ sym (eqb-suc-suc (before cs bs) (length bs))

-- a method's name: none of `. ; [ /` and none of `< >`
none_both : (bs : List ℕ) → none_of method_marks bs ≡ none_of marks bs && none_of angles bs
unfolding none_of one_of
none_both [] = refl
none_both (b ∷ bs) = rw (none_both bs) (go (eqb b 0x3C) (eqb b 0x3E) (one_of marks b) (none_of marks bs) (none_of angles bs))
  where
    go : (p q r m n : Bool) → not (p || (q || r)) && (m && n) ≡ (not r && m) && (not (p || (q || false)) && n)
    go true q true m n = refl
    go true q false true n = refl
    go true q false false n = refl
    go false true true m n = refl
    go false true false true n = refl
    go false true false false n = refl
    go false false true m n = refl
    go false false false true n = refl
    go false false false false n = refl

pub plain_method : (bs : List ℕ) → plain true bs ≡ unqualified bs && none_of angles bs
unfolding plain unqualified
plain_method bs = rw (none_both bs) (and_assoc (ltb 0 (length bs)) (none_of marks bs) (none_of angles bs))

-- ---- binary names: the walk passes all, and ends inside a name

unfoldable pub scan : Bool → List ℕ → Bool
scan seen [] = seen
scan seen (b ∷ bs) = follows seen b && scan (not (eqb b 0x2F)) bs

abbrev begun : List (List ℕ) → Bool
begun [] = true
begun (w ∷ ws) = none_of marks w && all_of unqualified ws

put_on : (b : ℕ) (ws : List (List ℕ)) → not (one_of marks b) && begun ws ≡ begun (onto b ws)
unfolding onto none_of all_of
put_on b [] = and_assoc (not (one_of marks b)) true true
put_on b (w ∷ ws) = and_assoc (not (one_of marks b)) (none_of marks w) (all_of unqualified ws)

put_on' : (b : ℕ) (ws : List (List ℕ)) → begun (onto b ws) ≡ all_of unqualified (onto b ws)
unfolding onto all_of unqualified
put_on' b [] = refl
put_on' b (w ∷ ws) = rw (lt-ltb 0 (suc (length w)) (omega arith))

scans : (bs : List ℕ) → (scan true bs ≡ begun (split 0x2F bs)) × (scan false bs ≡ all_of unqualified (split 0x2F bs))
unfolding follows scan split all_of unqualified none_of
scans [] = (refl, refl)
scans (b ∷ bs) = go (eqb b 0x2F) (scans bs)
  where
    go : (t : Bool) → (scan true bs ≡ begun (split 0x2F bs)) × (scan false bs ≡ all_of unqualified (split 0x2F bs))
        → (cond t true (not (one_of marks b)) && scan (not t) bs ≡ begun (cond t ([] ∷ split 0x2F bs) (onto b (split 0x2F bs))))
        × (cond t false (not (one_of marks b)) && scan (not t) bs ≡ all_of unqualified (cond t ([] ∷ split 0x2F bs) (onto b (split 0x2F bs))))
    go true ih = (ih.1, refl)
    go false ih =
        let p = ap (λ (x : Bool). not (one_of marks b) && x) ih.0 ∙ put_on b (split 0x2F bs) in
        (p, p ∙ put_on' b (split 0x2F bs))

scan_walk : (seen : Bool) (bs : List ℕ) → scan seen bs ≡ eqb (walked seen bs) (length bs) && whole seen bs
unfolding scan walked whole
scan_walk seen [] = refl
scan_walk seen (b ∷ bs) = go (follows seen b) (scan_walk (not (eqb b 0x2F)) bs)
  where
    go : (t : Bool) → scan (not (eqb b 0x2F)) bs ≡ eqb (walked (not (eqb b 0x2F)) bs) (length bs) && whole (not (eqb b 0x2F)) bs
        → t && scan (not (eqb b 0x2F)) bs
        ≡ eqb (cond t (suc (walked (not (eqb b 0x2F)) bs)) 0) (suc (length bs)) && cond t (whole (not (eqb b 0x2F)) bs) seen
    go true e = rw eqb-suc-suc e
    go false e = simp eqb-zero-suc

pub binary_scan : (bs : List ℕ) → binary bs ≡ scan false bs
unfolding binary
binary_scan bs = sym (scans bs).1

pub binary_walk : (bs : List ℕ) → binary bs ≡ eqb (walked false bs) (length bs) && whole false bs
binary_walk bs = binary_scan bs ∙ scan_walk false bs

-- ---- module names

pub escape_short : (t : List ℕ) → length t < 2 → escape t ≡ false
unfolding escape
escape_short [] h = refl
escape_short (b ∷ []) h = refl
escape_short (b ∷ c ∷ bs) h = absurd (let z : ⊥ = omega arith in z)

pub escape_long : (t : List ℕ) → 2 ≤ length t → escape t ≡ eqb (get_or t 0 0) 0x5C && one_of escaped (get_or t 1 0)
unfolding escape
escape_long [] h = absurd (let z : ⊥ = omega arith in z)
escape_long (b ∷ []) h = absurd (let z : ⊥ = omega arith in z)
escape_long (b ∷ c ∷ bs) h = refl

pub module_none : (t : List ℕ) → length t ≡ 0 → module_form t ≡ 0
unfolding module_form
module_none [] h = refl
module_none (b ∷ bs) h = omega arith

pub module_some : (t : List ℕ) → 0 < length t → module_form t ≡ cond (escape t) 2 (cond (module_byte (get_or t 0 0)) 1 0)
unfolding module_form
module_some [] h = omega arith
module_some (b ∷ bs) h = refl

pub module_escape : (t : List ℕ) → escape t ≡ true → module_form t ≡ 2
unfolding module_form escape
module_escape [] h = cc
module_escape (b ∷ bs) h = rw h

pub module_in : (bs : List ℕ) → module_form bs ≤ length bs
unfolding module_form escape
module_in [] = omega arith
module_in (b ∷ []) = go (module_byte b)
  where
    go : (t : Bool) → cond t 1 0 ≤ 1
    go true = omega arith
    go false = omega arith
module_in (b ∷ c ∷ bs) = go (eqb b 0x5C && one_of escaped c) (module_byte b)
  where
    go : (t u : Bool) → cond t 2 (cond u 1 0) ≤ suc (suc (length bs))
    go true u = omega arith
    go false true = omega arith
    go false false = omega arith
