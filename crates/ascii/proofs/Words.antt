-- Eight bytes as one number: each operation on it goes byte by byte, so its tests are tests of the bytes. Assumes nothing.
use Prim.Native.Nat.{ℕ, zero, suc, ◌+◌, ◌*◌, ◌/◌, ◌%◌, ◌<◌}
use native.Mathlib.Omega.{arith}
use native.Mathlib.Nat.{mod-eq_of_lt}
use mathlib.Core.Path.{◌≡◌, refl, sym, ◌∙◌, ap, subst}
use mathlib.Core.List.{List, [], ◌∷◌}
use mathlib.Core.Bool.{Bool, true, false, cond, not, ◌&&◌, ◌||◌}
use lib.ListN.{length}
use lib.Bits.{bit_and, bit_or, bit_xor, or_block, or_lt, or_add_and, and_block, xor_block, xor_lt, and_le_r, and_le_l, and_mask, and_high, xor_self, xor_add_and}
use lib.Dec.{leb, ltb, eqb}
use borrow.Author.Tests.{eq-eqb, ne_eqb, eqb-true, eqb-false, lt-ltb, ltb-true, ltb-false, le-leb, lt-leb}
use Rattle.text.specs.Text.{one_of, none_of, marks}
use Rattle.text.proofs.Laws.{and_both}
use Rattle.ascii.specs.Ascii.{ascii, every, packed, bytes, small, lacks, unmarked8, every8}
use Rattle.ascii.specs.Ascii.{firsts, seconds, apart, stops, linked, linked8}

-- a byte n times
abbrev rep : ℕ → ℕ → ℕ
rep zero k = 0
rep (suc n) k = rep n k * 256 + k

-- ---- one byte

-- the highest bit
top_bit : (x : ℕ) → bit_and x 128 ≡ (x / 128 % 2) * 128
top_bit x = and_high x 1 7

differs : (x k : ℕ) → bit_xor x k ≡ 0 → x ≡ k
differs x k e = omega (arith, xor_add_and x k, and_le_l x k, and_le_r x k)

left : (k x : ℕ) → k < 128 → x < 128 → bit_and (bit_and (bit_xor x k) 127 + 127) 128 ≡ cond (eqb x k) 0 128
left k x hk hx =
    let h : bit_xor x k < 128 = xor_lt 7 x k hx hk in
    let m : bit_and (bit_xor x k) 127 ≡ bit_xor x k = and_mask (bit_xor x k) 7 ∙ mod-eq_of_lt h in
    ap (λ (y : ℕ). bit_and (y + 127) 128) m ∙ top_bit (bit_xor x k + 127) ∙ go (eqb x k) refl h
  where
    go : (t : Bool) → eqb x k ≡ t → bit_xor x k < 128 → ((bit_xor x k + 127) / 128 % 2) * 128 ≡ cond t 0 128
    go true e h =
        let z : bit_xor x k ≡ 0 = subst (λ (j : ℕ). bit_xor x j ≡ 0) (eqb-true x k e) (xor_self x) in
        omega arith
    go false e h = go2 (bit_xor x k) refl h
      where
        go2 : (y : ℕ) → bit_xor x k ≡ y → y < 128 → ((y + 127) / 128 % 2) * 128 ≡ 128
        go2 zero z h = absurd (eqb-false x k e (differs x k z))
        go2 (suc y) z h = omega arith

-- ---- a byte and the bytes after it

abbrev clears : ℕ → ℕ → ℕ → ℕ
clears n k w = bit_and (bit_and (bit_xor w (rep n k)) (rep n 127) + rep n 127) (rep n 128)

step : (n k a x : ℕ) → k < 128 → x < 128 → clears (suc n) k (a * 256 + x) ≡ clears n k a * 256 + bit_and (bit_and (bit_xor x k) 127 + 127) 128
step n k a x hk hx =
    let h : bit_xor x k < 256 = omega (arith, xor_lt 7 x k hx hk) in
    let l : bit_and (bit_xor x k) 127 + 127 < 256 = omega (arith, and_le_r (bit_xor x k) 127) in
    ap (λ (v : ℕ). bit_and (bit_and v (rep n 127 * 256 + 127) + (rep n 127 * 256 + 127)) (rep n 128 * 256 + 128)) (xor_block 8 a (rep n k) x k (omega arith) (omega arith))
    ∙ ap (λ (v : ℕ). bit_and (v + (rep n 127 * 256 + 127)) (rep n 128 * 256 + 128)) (and_block 8 (bit_xor a (rep n k)) (rep n 127) (bit_xor x k) 127 h (omega arith))
    ∙ ap (λ (v : ℕ). bit_and v (rep n 128 * 256 + 128)) (shuffle (bit_and (bit_xor a (rep n k)) (rep n 127)) (bit_and (bit_xor x k) 127) (rep n 127))
    ∙ and_block 8 (bit_and (bit_xor a (rep n k)) (rep n 127) + rep n 127) (rep n 128) (bit_and (bit_xor x k) 127 + 127) 128 l (omega arith)
  where
    shuffle : (p y q : ℕ) → p * 256 + y + (q * 256 + 127) ≡ (p + q) * 256 + (y + 127)
    shuffle p y q = omega arith

same_digits : (a b x y : ℕ) → x < 256 → y < 256 → eqb (a * 256 + x) (b * 256 + y) ≡ eqb x y && eqb a b
same_digits a b x y hx hy = go (eqb x y) refl (eqb a b) refl
  where
    go : (t : Bool) → eqb x y ≡ t → (u : Bool) → eqb a b ≡ u → eqb (a * 256 + x) (b * 256 + y) ≡ t && u
    go true e true f = let p = eqb-true x y e in let q = eqb-true a b f in eq-eqb (a * 256 + x) (b * 256 + y) (omega arith)
    go true e false f = let p = eqb-true x y e in ne_eqb (a * 256 + x) (b * 256 + y) (λ z. eqb-false a b f (omega arith))
    go false e u f = ne_eqb (a * 256 + x) (b * 256 + y) (λ z. eqb-false x y e (omega arith))

lacking : (k : ℕ) (xs : List ℕ) → k < 128 → small xs ≡ true → eqb (clears (length xs) k (packed xs)) (rep (length xs) 128) ≡ none_of (k ∷ []) xs
unfolding packed small none_of one_of
lacking k [] hk h = refl
lacking k (x ∷ xs) hk h =
    let p = and_both (ltb x 128) (small xs) h in
    let l = ltb-true x 128 p.0 in
    ap (λ (v : ℕ). eqb v (rep (length xs) 128 * 256 + 128)) (step (length xs) k (packed xs) x hk l ∙ ap (λ (v : ℕ). clears (length xs) k (packed xs) * 256 + v) (left k x hk l))
    ∙ go (eqb x k) (lacking k xs hk p.1)
  where
    go : (t : Bool) → eqb (clears (length xs) k (packed xs)) (rep (length xs) 128) ≡ none_of (k ∷ []) xs
        → eqb (clears (length xs) k (packed xs) * 256 + cond t 0 128) (rep (length xs) 128 * 256 + 128) ≡ not (t || false) && none_of (k ∷ []) xs
    go true e = same_digits (clears (length xs) k (packed xs)) (rep (length xs) 128) 0 128 (omega arith) (omega arith)
    go false e = same_digits (clears (length xs) k (packed xs)) (rep (length xs) 128) 128 128 (omega arith) (omega arith) ∙ e

below : (xs : List ℕ) → bytes xs ≡ true → eqb (bit_and (packed xs) (rep (length xs) 128)) 0 ≡ small xs
unfolding packed small bytes
below [] h = refl
below (x ∷ xs) h =
    let p = and_both (ltb x 256) (bytes xs) h in
    let l = ltb-true x 256 p.0 in
    ap (λ (v : ℕ). eqb v 0) (and_block 8 (packed xs) (rep (length xs) 128) x 128 l (omega arith) ∙ ap (λ (v : ℕ). bit_and (packed xs) (rep (length xs) 128) * 256 + v) (top_bit x))
    ∙ go (ltb x 128) refl l (below xs p.1)
  where
    go : (t : Bool) → ltb x 128 ≡ t → x < 256 → eqb (bit_and (packed xs) (rep (length xs) 128)) 0 ≡ small xs
        → eqb (bit_and (packed xs) (rep (length xs) 128) * 256 + (x / 128 % 2) * 128) 0 ≡ t && small xs
    go true e l i =
        let u = ltb-true x 128 e in
        let z : (x / 128 % 2) * 128 ≡ 0 = omega arith in
        ap (λ (v : ℕ). eqb (bit_and (packed xs) (rep (length xs) 128) * 256 + v) 0) z ∙ same_digits (bit_and (packed xs) (rep (length xs) 128)) 0 0 0 (omega arith) (omega arith) ∙ i
    go false e l i =
        let u = ltb-false x 128 e in
        let z : (x / 128 % 2) * 128 ≡ 128 = omega arith in
        ap (λ (v : ℕ). eqb (bit_and (packed xs) (rep (length xs) 128) * 256 + v) 0) z ∙ same_digits (bit_and (packed xs) (rep (length xs) 128)) 0 128 0 (omega arith) (omega arith)

-- ---- eight of them

module _ (xs : List ℕ) (eight : length xs ≡ 8) (h : small xs ≡ true) where
  lacks_none : (k : ℕ) → k < 128 → lacks (packed xs) (rep 8 k) ≡ none_of (k ∷ []) xs
  unfolding lacks
  lacks_none k hk = subst (λ (n : ℕ). eqb (clears n k (packed xs)) (rep n 128) ≡ none_of (k ∷ []) xs) eight (lacking k xs hk h)

none_more : (c : ℕ) (cs xs : List ℕ) → none_of (c ∷ cs) xs ≡ none_of (c ∷ []) xs && none_of cs xs
unfolding none_of one_of
none_more c cs [] = refl
none_more c cs (x ∷ xs) = rw (none_more c cs xs) (go (eqb x c) (one_of cs x) (none_of (c ∷ []) xs) (none_of cs xs))
  where
    go : (p q m n : Bool) → not (p || q) && (m && n) ≡ (not (p || false) && m) && (not q && n)
    go true q m n = refl
    go false true true n = refl
    go false true false n = refl
    go false false m n = refl

ascii_small : (xs : List ℕ) → ascii xs ≡ small xs && none_of (0 ∷ []) xs
unfolding ascii small none_of one_of
ascii_small [] = refl
ascii_small (x ∷ xs) = rw (ascii_small xs) (go x (small xs) (none_of (0 ∷ []) xs))
  where
    mix : (p q m n : Bool) → (q && p) && (m && n) ≡ (p && m) && (q && n)
    mix true true m n = refl
    mix true false true n = refl
    mix true false false n = refl
    mix false true m n = refl
    mix false false m n = refl

    go : (x : ℕ) (m n : Bool) → (leb 1 x && leb x 127) && (m && n) ≡ (ltb x 128 && m) && (not (eqb x 0 || false) && n)
    go x m n = rw (low x, high x) (mix (ltb x 128) (not (eqb x 0 || false)) m n)
      where
        low : (x : ℕ) → leb 1 x ≡ not (eqb x 0 || false)
        low zero = refl
        low (suc x) = le-leb 1 (suc x) (omega arith) ∙ sym (ap (λ (t : Bool). not (t || false)) (ne_eqb (suc x) 0 (λ z. omega arith)))

        high : (x : ℕ) → leb x 127 ≡ ltb x 128
        high x = by_case (ltb x 128) refl
          where
            by_case : (t : Bool) → ltb x 128 ≡ t → leb x 127 ≡ t
            by_case true e = le-leb x 127 (let u = ltb-true x 128 e in omega arith)
            by_case false e = lt-leb x 127 (let u = ltb-false x 128 e in omega arith)

pub every_eight : (name : Bool) (xs : List ℕ) → length xs ≡ 8 → bytes xs ≡ true → every8 name (packed xs) ≡ every name xs
unfolding every
every_eight name xs eight b =
    rw (ascii_small xs, subst (λ (n : ℕ). eqb (bit_and (packed xs) (rep n 128)) 0 ≡ small xs) eight (below xs b)) (go (small xs) refl)
  where
    go : (t : Bool) → small xs ≡ t → (t && lacks (packed xs) 0) && cond name (unmarked8 (packed xs)) true ≡ (t && none_of (0 ∷ []) xs) && cond name (none_of marks xs) true
    go false e = refl
    go true e =
        rw (
          lacks_none xs eight e 0 (omega arith),
          lacks_none xs eight e 0x2E (omega arith),
          lacks_none xs eight e 0x3B (omega arith),
          lacks_none xs eight e 0x5B (omega arith),
          lacks_none xs eight e 0x2F (omega arith),
          none_more 0x2E (0x3B ∷ 0x5B ∷ 0x2F ∷ []) xs,
          none_more 0x3B (0x5B ∷ 0x2F ∷ []) xs,
          none_more 0x5B (0x2F ∷ []) xs,
        )

-- ---- pairs: bytes beside those before them

abbrev pub zip : List ℕ → List ℕ → List (ℕ × ℕ)
zip [] bs = []
zip (p ∷ ps) [] = []
zip (p ∷ ps) (b ∷ bs) = (p, b) ∷ zip ps bs

abbrev clash : List ℕ → List ℕ → List ℕ
clash [] bs = []
clash (p ∷ ps) [] = []
clash (p ∷ ps) (b ∷ bs) = bit_or (bit_xor b 0x2F) (bit_xor p 0x2F) ∷ clash ps bs

clash_packed : (ps bs : List ℕ) → length ps ≡ length bs → bytes ps ≡ true → bytes bs ≡ true
    → bit_or (bit_xor (packed bs) (rep (length bs) 0x2F)) (bit_xor (packed ps) (rep (length bs) 0x2F)) ≡ packed (clash ps bs)
unfolding packed bytes
clash_packed [] [] e h k = refl
clash_packed [] (b ∷ bs) e h k = absurd (let z : ⊥ = omega arith in z)
clash_packed (p ∷ ps) [] e h k = absurd (let z : ⊥ = omega arith in z)
clash_packed (p ∷ ps) (b ∷ bs) e h k =
    let u = and_both (ltb p 256) (bytes ps) h in
    let v = and_both (ltb b 256) (bytes bs) k in
    let hp = ltb-true p 256 u.0 in
    let hb = ltb-true b 256 v.0 in
    ap (λ (x : ℕ). bit_or x (bit_xor (packed ps * 256 + p) (rep (length bs) 0x2F * 256 + 0x2F))) (xor_block 8 (packed bs) (rep (length bs) 0x2F) b 0x2F hb (omega arith))
    ∙ ap (λ (x : ℕ). bit_or (bit_xor (packed bs) (rep (length bs) 0x2F) * 256 + bit_xor b 0x2F) x) (xor_block 8 (packed ps) (rep (length bs) 0x2F) p 0x2F hp (omega arith))
    ∙ or_block 8 (bit_xor (packed bs) (rep (length bs) 0x2F)) (bit_xor (packed ps) (rep (length bs) 0x2F)) (bit_xor b 0x2F) (bit_xor p 0x2F) (xor_lt 8 b 0x2F hb (omega arith)) (xor_lt 8 p 0x2F hp (omega arith))
    ∙ ap (λ (x : ℕ). x * 256 + bit_or (bit_xor b 0x2F) (bit_xor p 0x2F)) (clash_packed ps bs (omega arith) u.1 v.1)

clash_small : (ps bs : List ℕ) → small ps ≡ true → small bs ≡ true → small (clash ps bs) ≡ true
unfolding small
clash_small [] bs h k = refl
clash_small (p ∷ ps) [] h k = refl
clash_small (p ∷ ps) (b ∷ bs) h k =
    let u = and_both (ltb p 128) (small ps) h in
    let v = and_both (ltb b 128) (small bs) k in
    let hp = ltb-true p 128 u.0 in
    let hb = ltb-true b 128 v.0 in
    rw (lt-ltb (bit_or (bit_xor b 0x2F) (bit_xor p 0x2F)) 128 (or_lt 7 (bit_xor b 0x2F) (bit_xor p 0x2F) (xor_lt 7 b 0x2F hb (omega arith)) (xor_lt 7 p 0x2F hp (omega arith)))) (clash_small ps bs u.1 v.1)

clash_length : (ps bs : List ℕ) → length ps ≡ length bs → length (clash ps bs) ≡ length bs
clash_length [] [] e = refl
clash_length [] (b ∷ bs) e = e
clash_length (p ∷ ps) [] e = refl
clash_length (p ∷ ps) (b ∷ bs) e = ap suc (clash_length ps bs (omega arith))

both_slashes : (p b : ℕ) → eqb (bit_or (bit_xor b 0x2F) (bit_xor p 0x2F)) 0 ≡ eqb b 0x2F && eqb p 0x2F
both_slashes p b = go (eqb b 0x2F) refl (eqb p 0x2F) refl
  where
    zero_or : (x y : ℕ) → bit_or x y ≡ 0 → (x ≡ 0) × (y ≡ 0)
    zero_or x y e = (omega (arith, or_add_and x y, and_le_l x y, and_le_r x y), omega (arith, or_add_and x y, and_le_l x y, and_le_r x y))

    self : (x : ℕ) → eqb x 0x2F ≡ true → bit_xor x 0x2F ≡ 0
    self x e = subst (λ (j : ℕ). bit_xor x j ≡ 0) (eqb-true x 0x2F e) (xor_self x)

    go : (t : Bool) → eqb b 0x2F ≡ t → (u : Bool) → eqb p 0x2F ≡ u → eqb (bit_or (bit_xor b 0x2F) (bit_xor p 0x2F)) 0 ≡ t && u
    go true e true f =
        eq-eqb (bit_or (bit_xor b 0x2F) (bit_xor p 0x2F)) 0 (ap (λ (x : ℕ). bit_or x (bit_xor p 0x2F)) (self b e) ∙ ap (λ (x : ℕ). bit_or 0 x) (self p f))
    go true e false f = ne_eqb (bit_or (bit_xor b 0x2F) (bit_xor p 0x2F)) 0 (λ z. eqb-false p 0x2F f (differs p 0x2F (zero_or (bit_xor b 0x2F) (bit_xor p 0x2F) z).1))
    go false e u f = ne_eqb (bit_or (bit_xor b 0x2F) (bit_xor p 0x2F)) 0 (λ z. eqb-false b 0x2F e (differs b 0x2F (zero_or (bit_xor b 0x2F) (bit_xor p 0x2F) z).0))

clash_apart : (ps bs : List ℕ) → none_of (0 ∷ []) (clash ps bs) ≡ apart (zip ps bs)
unfolding none_of one_of apart
clash_apart [] bs = refl
clash_apart (p ∷ ps) [] = refl
clash_apart (p ∷ ps) (b ∷ bs) = rw (both_slashes p b, clash_apart ps bs) (go (eqb b 0x2F && eqb p 0x2F) (apart (zip ps bs)))
  where
    go : (t u : Bool) → not (t || false) && u ≡ not t && u
    go true u = refl
    go false u = refl

zip_firsts : (ps bs : List ℕ) → length ps ≡ length bs → firsts (zip ps bs) ≡ ps
unfolding firsts
zip_firsts [] bs e = refl
zip_firsts (p ∷ ps) [] e = absurd (let z : ⊥ = omega arith in z)
zip_firsts (p ∷ ps) (b ∷ bs) e = ap (λ (l : List ℕ). p ∷ l) (zip_firsts ps bs (omega arith))

zip_seconds : (ps bs : List ℕ) → length ps ≡ length bs → seconds (zip ps bs) ≡ bs
unfolding seconds
zip_seconds [] [] e = refl
zip_seconds [] (b ∷ bs) e = absurd (let z : ⊥ = omega arith in z)
zip_seconds (p ∷ ps) [] e = absurd (let z : ⊥ = omega arith in z)
zip_seconds (p ∷ ps) (b ∷ bs) e = ap (λ (l : List ℕ). b ∷ l) (zip_seconds ps bs (omega arith))

pub linked_eight : (ps bs : List ℕ) → length ps ≡ 8 → length bs ≡ 8 → bytes ps ≡ true → bytes bs ≡ true → linked8 (packed ps) (packed bs) ≡ linked (zip ps bs)
unfolding linked
linked_eight ps bs e8 f8 h k =
    let e : length ps ≡ length bs = e8 ∙ sym f8 in
    rw (zip_firsts ps bs e, zip_seconds ps bs e, ascii_small bs, below8 ps e8 h, below8 bs f8 k)
    (ap (λ (z : ℕ). (small ps && (small bs && lacks (packed bs) 0)) && ((lacks (packed bs) 0x2E2E2E2E2E2E2E2E && (lacks (packed bs) 0x3B3B3B3B3B3B3B3B && lacks (packed bs) 0x5B5B5B5B5B5B5B5B)) && lacks z 0))
    (subst (λ (n : ℕ). bit_or (bit_xor (packed bs) (rep n 0x2F)) (bit_xor (packed ps) (rep n 0x2F)) ≡ packed (clash ps bs)) f8 (clash_packed ps bs e h k))
    ∙ go (small ps) refl (small bs) refl)
  where
    below8 : (xs : List ℕ) → length xs ≡ 8 → bytes xs ≡ true → eqb (bit_and (packed xs) (rep 8 128)) 0 ≡ small xs
    below8 xs n b = subst (λ (n : ℕ). eqb (bit_and (packed xs) (rep n 128)) 0 ≡ small xs) n (below xs b)

    go : (t : Bool) → small ps ≡ t → (u : Bool) → small bs ≡ u
        → (t && (u && lacks (packed bs) 0)) && ((lacks (packed bs) 0x2E2E2E2E2E2E2E2E && (lacks (packed bs) 0x3B3B3B3B3B3B3B3B && lacks (packed bs) 0x5B5B5B5B5B5B5B5B)) && lacks (packed (clash ps bs)) 0)
        ≡ (t && (u && none_of (0 ∷ []) bs)) && (none_of stops bs && apart (zip ps bs))
    go false x u y = refl
    go true x false y = refl
    go true x true y =
        rw (
          lacks_none bs f8 y 0 (omega arith),
          lacks_none bs f8 y 0x2E (omega arith),
          lacks_none bs f8 y 0x3B (omega arith),
          lacks_none bs f8 y 0x5B (omega arith),
          none_more 0x2E (0x3B ∷ 0x5B ∷ []) bs,
          none_more 0x3B (0x5B ∷ []) bs,
          lacks_none (clash ps bs) (clash_length ps bs (e8 ∙ sym f8) ∙ f8) (clash_small ps bs x y) 0 (omega arith),
          clash_apart ps bs,
        )
