-- A test of every element goes part by part, and parts may overlap. Assumes nothing.
use Prim.Native.Nat.{ℕ, zero, suc, ◌+◌, ◌*◌, ◌-◌, ◌/◌, ◌≤◌, ◌<◌}
use native.Mathlib.Omega.{arith}
use mathlib.Core.Path.{◌≡◌, refl, sym, ◌∙◌, ap}
use mathlib.Core.List.{List, [], ◌∷◌, ◌++◌}
use mathlib.Core.Bool.{Bool, true, false, not, ◌&&◌, ◌||◌}
use lib.ListN.{length, take, drop, get_or, length-drop, take-append-drop}
use lib.Seq.{take_all, take-take, take-add, drop-cons}
use lib.Dec.{leb, ltb, eqb}
use Rattle.std.specs.List.{list_all}
use Rattle.std.specs.Borrow.{Bor}
use Rattle.std.specs.Prelude.{Some, None, MatchOption}
use Rattle.std.specs.Array.{IsWholeChunk}
use Rattle.std.specs.declared.option.Option.{Option}
use Rattle.std.specs.Simd.{first_chunks}
use Rattle.std.specs.Int.{from_le_bytes, w64}
use borrow.Author.Tests.{lt-ltb, le-ltb}
use Rattle.text.specs.Text.{one_of, none_of, marks, unqualified}
use Rattle.text.proofs.Laws.{and_both, and_assoc}
use Rattle.ascii.specs.Ascii.{ascii, every, packed, bytes}

pub and_true : (a : Bool) → a && true ≡ a
and_true true = refl
and_true false = refl

pub and_none : (a : Bool) → a && false ≡ false
and_none true = refl
and_none false = refl

module _ {A : Type 0} (T : List A → Bool) (join : (xs ys : List A) → T (xs ++ ys) ≡ T xs && T ys) (s : List A) where
  cut : (k : ℕ) → T s ≡ T (take k s) && T (drop k s)
  cut k = ap T (sym (take-append-drop k s)) ∙ join (take k s) (drop k s)

  -- the part from i on is as tested, after what was good; it is not; the part from k on ends the test
  pub go_on : (i m : ℕ) → T (take i s) ≡ true → T (take m (drop i s)) ≡ true → T (take (i + m) s) ≡ true
  go_on i m h e = ap T (take-add i m s) ∙ join (take i s) (take m (drop i s)) ∙ rw (h, e)

  pub stop : (i m : ℕ) → T (take m (drop i s)) ≡ false → T s ≡ false
  stop i m e =
      cut i
      ∙ ap (λ (t : Bool). T (take i s) && t) (ap T (sym (take-append-drop m (drop i s))) ∙ join (take m (drop i s)) (drop m (drop i s)) ∙ rw e)
      ∙ and_none (T (take i s))

  pub rest : (i k : ℕ) → T (take i s) ≡ true → k ≤ i → T s ≡ T (drop k s)
  rest i k h l =
      let p = ap T (sym (take-append-drop k (take i s))) ∙ join (take k (take i s)) (drop k (take i s)) in
      let q = (and_both (T (take k (take i s))) (T (drop k (take i s))) (sym p ∙ h)).0 in
      cut k ∙ ap (λ (t : Bool). t && T (drop k s)) (ap T (sym (take-take k i s l)) ∙ q)

  -- the first i and those from k on, which may begin before the first end
  pub overlap : (i k : ℕ) → k ≤ i → T (take i s) && T (drop k s) ≡ T s
  overlap i k l = go (T (take i s)) refl
    where
      go : (t : Bool) → T (take i s) ≡ t → t && T (drop k s) ≡ T s
      go true h = sym (rest i k h l)
      go false h = sym (stop 0 i h)

  -- the first four and the last four
  pub both_fours : (k : ℕ) → k ≤ 4 → length s ≤ k + 4 → T (take 4 (drop 0 s) ++ take 4 (drop k s)) ≡ T s
  both_fours k l e = join (take 4 s) (take 4 (drop k s)) ∙ ap (λ (v : List A). T (take 4 s) && T v) (take_all 4 (drop k s) (rw length-drop (omega arith))) ∙ overlap 4 k l

-- eight by eight
pub eights : {A : Type 0} (T : List A → Bool) → ((xs ys : List A) → T (xs ++ ys) ≡ T xs && T ys) → T [] ≡ true
    → (k : ℕ) (s : List A) → list_all T (first_chunks 8 k s) ≡ T (take (k * 8) s)
eights T join nil zero s = sym nil
eights T join nil (suc k) s =
    ap (λ (t : Bool). T (take 8 s) && t) (eights T join nil k (drop 8 s))
    ∙ sym (ap (λ (m : ℕ). T (take m s)) (let e : suc k * 8 ≡ 8 + k * 8 = omega arith in e) ∙ ap T (take-add 8 (k * 8) s) ∙ join (take 8 s) (take (k * 8) (drop 8 s)))

-- ---- the tests here go so

pub mixed : (a b c d : Bool) → (a && b) && (c && d) ≡ (a && c) && (b && d)
mixed true true c d = refl
mixed true false true d = refl
mixed true false false d = refl
mixed false b c d = refl

pub ascii_join : (xs ys : List ℕ) → ascii (xs ++ ys) ≡ ascii xs && ascii ys
unfolding ascii
ascii_join [] ys = refl
ascii_join (x ∷ xs) ys = rw (ascii_join xs ys) (and_assoc (leb 0x01 x && leb x 0x7F) (ascii xs) (ascii ys))

pub none_join : (cs xs ys : List ℕ) → none_of cs (xs ++ ys) ≡ none_of cs xs && none_of cs ys
unfolding none_of
none_join cs [] ys = refl
none_join cs (x ∷ xs) ys = rw (none_join cs xs ys) (and_assoc (not (one_of cs x)) (none_of cs xs) (none_of cs ys))

pub every_join : (name : Bool) (xs ys : List ℕ) → every name (xs ++ ys) ≡ every name xs && every name ys
unfolding every
every_join true xs ys = rw (ascii_join xs ys, none_join marks xs ys) (mixed (ascii xs) (ascii ys) (none_of marks xs) (none_of marks ys))
every_join false xs ys = rw (ascii_join xs ys) (mixed (ascii xs) (ascii ys) true true)

pub bytes_join : (xs ys : List ℕ) → bytes xs ≡ true → bytes ys ≡ true → bytes (xs ++ ys) ≡ true
unfolding bytes
bytes_join [] ys h k = k
bytes_join (x ∷ xs) ys h k = let p = and_both (ltb x 256) (bytes xs) h in rw p.0 (bytes_join xs ys p.1 k)

-- ---- one byte

pub byte_out : (name : Bool) (b : ℕ) → leb 0x01 b && leb b 0x7F ≡ false → false ≡ every name (b ∷ [])
unfolding every ascii
byte_out name b e = rw e

pub byte_text : (b : ℕ) → leb 0x01 b && leb b 0x7F ≡ true → true ≡ every false (b ∷ [])
unfolding every ascii
byte_text b e = rw e

or_false : (a b c d : Bool) → a || (b || (c || d)) ≡ a || (b || (c || (d || false)))
or_false true b c d = refl
or_false false true c d = refl
or_false false false true d = refl
or_false false false false true = refl
or_false false false false false = refl

pub byte_name : (b : ℕ) → leb 0x01 b && leb b 0x7F ≡ true → not (eqb b 0x2E || (eqb b 0x3B || (eqb b 0x5B || eqb b 0x2F))) ≡ every true (b ∷ [])
unfolding every ascii none_of one_of
byte_name b e =
    rw e (ap not (or_false (eqb b 0x2E) (eqb b 0x3B) (eqb b 0x5B) (eqb b 0x2F)) ∙ sym (and_true (not (eqb b 0x2E || (eqb b 0x3B || (eqb b 0x5B || (eqb b 0x2F || false)))))))

-- ---- what the published tests say

pub every_ascii : (s : List ℕ) → every false s ≡ ascii s
unfolding every
every_ascii s = and_true (ascii s)

every_name : (s : List ℕ) → ltb 0 (length s) && every true s ≡ ascii s && unqualified s
unfolding every unqualified
every_name s = go (ltb 0 (length s)) (ascii s) (none_of marks s)
  where
    go : (a b c : Bool) → a && (b && c) ≡ b && (a && c)
    go true b c = refl
    go false b c = sym (and_none b)

pub named : (s : List ℕ) (r : Bool) → 0 < length s → r ≡ every true s → r ≡ ascii s && unqualified s
named s r h e = e ∙ sym (ap (λ (t : Bool). t && every true s) (lt-ltb 0 (length s) h)) ∙ every_name s

pub unnamed : (s : List ℕ) → length s ≤ 0 → false ≡ ascii s && unqualified s
unnamed s h = sym (ap (λ (t : Bool). t && every true s) (le-ltb 0 (length s) h)) ∙ every_name s

-- ---- four bytes by their places

pub next : (s : List ℕ) (j k : ℕ) → k ≡ suc j → j < length s → drop j s ≡ get_or s j 0 ∷ drop k s
next s j k e h = drop-cons s j 0 h ∙ ap (λ (n : ℕ). get_or s j 0 ∷ drop n s) (sym e)

pub four_at : (s : List ℕ) (i : ℕ) → i + 4 ≤ length s → take 4 (drop i s) ≡ get_or s i 0 ∷ get_or s (i + 1) 0 ∷ get_or s (i + 2) 0 ∷ get_or s (i + 3) 0 ∷ []
four_at s i h =
    ap (take 4) (next s i (i + 1) (omega arith) (omega arith))
    ∙ ap (λ (l : List ℕ). get_or s i 0 ∷ l) (ap (take 3) (next s (i + 1) (i + 2) (omega arith) (omega arith))
    ∙ ap (λ (l : List ℕ). get_or s (i + 1) 0 ∷ l) (ap (take 2) (next s (i + 2) (i + 3) (omega arith) (omega arith))
    ∙ ap (λ (l : List ℕ). get_or s (i + 2) 0 ∷ l) (ap (take 1) (next s (i + 3) (i + 4) (omega arith) (omega arith)))))

pub packed_four : (a b c d : ℕ) (ys : List ℕ) → packed ys * 4294967296 + packed (a ∷ b ∷ c ∷ d ∷ []) ≡ packed ((a ∷ b ∷ c ∷ d ∷ []) ++ ys)
unfolding packed
packed_four a b c d ys = omega arith

pub fours_long : (s : List ℕ) (i j : ℕ) → i + 4 ≤ length s → j + 4 ≤ length s → length (take 4 (drop i s) ++ take 4 (drop j s)) ≡ 8
fours_long s i j h k = rw (four_at s i h, four_at s j k)

pub packed_eight : (s : List ℕ) (i j : ℕ) → i + 4 ≤ length s → packed (take 4 (drop j s)) * 4294967296 + packed (take 4 (drop i s)) ≡ packed (take 4 (drop i s) ++ take 4 (drop j s))
packed_eight s i j h = rw (four_at s i h) (packed_four _ _ _ _ (take 4 (drop j s)))

-- ---- eight bytes of an array

pub bytes_all : (s : List ℕ) → ((i : ℕ) → get_or s i 0 < 256) → bytes s ≡ true
unfolding bytes
bytes_all [] h = refl
bytes_all (b ∷ s) h = rw (lt-ltb b 256 (h 0)) (bytes_all s (λ i. h (suc i)))

pub packed_word : (s : List ℕ) → length s ≡ 8 → from_le_bytes w64 s ≡ packed s
unfolding packed
packed_word s l =
    let whole : take 4 (drop 0 s) ++ take 4 (drop 4 s) ≡ s = ap (λ (t : List ℕ). take 4 s ++ t) (take_all 4 (drop 4 s) (rw length-drop (omega arith))) ∙ take-append-drop 4 s in
    let p : packed (take 4 (drop 0 s) ++ take 4 (drop 4 s)) ≡ from_le_bytes w64 s = rw (four_at s 0 (omega arith), four_at s 4 (omega arith)) (omega arith) in
    sym p ∙ ap packed whole

-- ---- all of them

every_nil : (name : Bool) → every name [] ≡ true
unfolding every ascii none_of
every_nil true = refl
every_nil false = refl

-- each byte by itself
pub every_all : (name : Bool) (s : List ℕ) → list_all (λ b. every name (b ∷ [])) s ≡ every name s
every_all name [] = sym (every_nil name)
every_all name (b ∷ s) = ap (λ (t : Bool). every name (b ∷ []) && t) (every_all name s) ∙ sym (every_join name (b ∷ []) s)

-- eight by eight (a is x), and the last eight
pub every_words : (name : Bool) (s : List ℕ) (a x r : Bool) → 8 ≤ length s → a ≡ list_all (every name) (first_chunks 8 (length s / 8) s) → a ≡ x
    → r ≡ x && every name (drop (length s - 8) s) → r ≡ every name s
every_words name s a x r h p e q =
    q
    ∙ ap (λ (t : Bool). t && every name (drop (length s - 8) s)) (sym e ∙ p ∙ eights (every name) (every_join name) (every_nil name) (length s / 8) s)
    ∙ overlap (every name) (every_join name) s (length s / 8 * 8) (length s - 8) (omega arith)

pub last_word : (T : List ℕ → Bool) (s : List ℕ) (r : Bool) (Q : Bor (List ℕ) → Type 0) (o : Option (Bor (List ℕ)))
    → MatchOption o (length s < 8) (λ w. (8 ≤ length s) × IsWholeChunk (drop (length s - 8) s) w.now 8) → 8 ≤ length s
    → MatchOption o (r ≡ false) Q → ((w : Bor (List ℕ)) → Q w → r ≡ T w.now) → r ≡ T (drop (length s - 8) s)
last_word T s r Q None a h q e = absurd (omega arith)
last_word T s r Q (Some w) a h q e = e w q ∙ ap T a.1.same
