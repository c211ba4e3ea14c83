-- Laws of lines, words and numbers, for walks along them by an index. Assumes nothing.
use Rattle.std.specs.List.{position_or_len}
use Rattle.std.specs.Option.{unwrap_or}
use Rattle.std.proofs.Common.{Option, Some, None}
use Rattle.std.proofs.lemmas.Bool.{ltb-false}
use Rattle.std.proofs.lemmas.Slice.{between_to_end}
use Rattle.std.proofs.lemmas.List.Recursion.{is_position_or_len}
use Rattle.std.proofs.lemmas.List.Sums.{prefix_len-le-length}
use Prim.Native.Nat.{ℕ, suc, ◌+◌, ◌*◌, ◌-◌, ◌≤◌, ◌<◌}
use native.Mathlib.Omega.{arith}
use native.Mathlib.Numerals.{add-one}
use mathlib.Core.Path.{◌≡◌, refl, ◌∙◌, ap}
use mathlib.Core.List.{List, [], ◌∷◌}
use mathlib.Core.Bool.{Bool, true, false, cond}
use lib.ListN.{length, take, drop, get_or, set, drop_of_length-le}
use lib.Seq.{drop-cons}
use lib.Dec.{ltb, eqb}
use borrow.Author.Tests.{lt-ltb, le-ltb, le-leb, lt-leb}
use Rattle.script.specs.Script.{until, past, word_from, digit, joined, filled, decimal_on}

-- the part of a slice from an index on is what is left when as many are dropped
pub part : (i : ℕ) (s : List ℕ) → take (length s - i) (drop i s) ≡ drop i s
part i s = between_to_end s i (length s) (omega arith)

-- what stands before the first mark, in the library's words, and so what `position` answers
until_first : (mark : ℕ) (s : List ℕ) → until mark s ≡ position_or_len (λ b. eqb b mark) s
unfolding until
until_first mark s = is_position_or_len (until mark) (λ b. eqb b mark) refl (λ x xs. ap (cond (eqb x mark) 0) (omega arith)) s

module _ (mark : ℕ) (s : List ℕ) where
  abbrev pub first : ℕ
  first = position_or_len (λ b. eqb b mark) s

  go : (t : Bool) → ltb first (length s) ≡ t → first ≤ length s → (unwrap_or (cond t (Some first) None) (length s) ≡ first) × (unwrap_or (cond t (Some first) None) (length s) ≤ length s)
  go true e h = (refl, h)
  go false e h = let k = ltb-false _ _ e in (omega arith, omega arith)

  pub found : (r : Option ℕ) → r ≡ cond (ltb first (length s)) (Some first) None → (unwrap_or r (length s) ≡ until mark s) × (unwrap_or r (length s) ≤ length s)
  found r e = rw (until_first mark s, e) (go (ltb first (length s)) refl (prefix_len-le-length _ s))

module _ (s : List ℕ) (i : ℕ) where
  at : i < length s → drop i s ≡ get_or s i 0 ∷ drop (i + 1) s
  at h = rw (add-one, drop-cons s i 0)

  module _ (n : ℕ) where
    pub decimal_in : i < length s → decimal_on n (drop i s) ≡ cond (ltb 9 (digit (get_or s i 0))) 0 (cond (ltb 1844674407370955160 n) 0 (decimal_on (n * 10 + digit (get_or s i 0)) (drop (i + 1) s)))
    unfolding decimal_on
    decimal_in h = ap (decimal_on n) (at h)

    pub decimal_no_digit : i < length s → 9 < digit (get_or s i 0) → decimal_on n (drop i s) ≡ 0
    decimal_no_digit h k = decimal_in h ∙ simp (lt-ltb _ _ k)

    module _ (d : ℕ) (h : i < length s) (e : (d ≡ digit (get_or s i 0)) × (d < 16)) where
      pub decimal_wide : 9 < d → decimal_on n (drop i s) ≡ 0
      decimal_wide k = decimal_no_digit h (rw (← e.0) k)

      pub decimal_large : d ≤ 9 → 1844674407370955160 < n → decimal_on n (drop i s) ≡ 0
      decimal_large k l = decimal_in h ∙ simp (← e.0, le-ltb _ _ k, lt-ltb _ _ l)

      pub decimal_digit : d ≤ 9 → n ≤ 1844674407370955160 → decimal_on n (drop i s) ≡ decimal_on (n * 10 + d) (drop (i + 1) s)
      decimal_digit k l = decimal_in h ∙ simp (← e.0, le-ltb _ _ k, le-ltb _ _ l)

    pub decimal_out : length s ≤ i → decimal_on n (drop i s) ≡ n
    unfolding decimal_on
    decimal_out h = rw (drop_of_length-le s h)

-- the bytes that a word says: it ends, the next pair is none, `out` is full, or a pair is put
pub filled_short : (w out : List ℕ) (n : ℕ) → length w < 2 → filled w out n ≡ (n, out)
unfolding filled
filled_short [] out n h = refl
filled_short (a ∷ []) out n h = refl
filled_short (a ∷ b ∷ w) out n h = absurd (let z : ⊥ = omega arith in z)

pub filled_none : (w out : List ℕ) (n : ℕ) → 2 ≤ length w → n < length out → 256 ≤ joined (digit (get_or w 0 0)) (digit (get_or w 1 0)) → filled w out n ≡ (n, out)
unfolding filled
filled_none [] out n two more h = absurd (let z : ⊥ = omega arith in z)
filled_none (a ∷ []) out n two more h = absurd (let z : ⊥ = omega arith in z)
filled_none (a ∷ b ∷ w) out n two more h = simp (lt-ltb _ _ more, le-ltb _ _ h)

pub filled_full : (w out : List ℕ) (n : ℕ) → length out ≤ n → filled w out n ≡ (n, out)
unfolding filled
filled_full [] out n h = refl
filled_full (a ∷ []) out n h = refl
filled_full (a ∷ b ∷ w) out n h = simp (le-ltb _ _ h)

pub filled_on : (w out : List ℕ) (n b : ℕ) → 2 ≤ length w → n < length out → (b ≡ joined (digit (get_or w 0 0)) (digit (get_or w 1 0))) × (b < 256) → filled w out n ≡ filled (drop 2 w) (set out n b) (n + 1)
unfolding filled
filled_on [] out n b two more h = absurd (let z : ⊥ = omega arith in z)
filled_on (a ∷ []) out n b two more h = absurd (let z : ⊥ = omega arith in z)
filled_on (a ∷ c ∷ w) out n b two more h = let k = rw h.0 at h.1 in simp (lt-ltb _ _ more, lt-ltb _ _ k, h.0)

-- the place after a mark lies inside, and further on
module _ (mark : ℕ) (s : List ℕ) (at : ℕ) where
  pub past_end : length s ≤ at → length s ≡ past mark s at
  unfolding past
  past_end h = simp (le-leb _ _ h)

  module _ (n : ℕ) (h : at < length s) (e : n ≡ until mark (take (length s - at) (drop at s))) where
    pub past_mark : n < length s - at → at + n + 1 ≡ past mark s at
    unfolding past
    past_mark k = let p = rw part at e in simp (lt-leb _ _ h, ← p, lt-ltb _ _ k)

    pub past_none : length s - at ≤ n → length s ≡ past mark s at
    unfolding past
    past_none k = let p = rw part at e in simp (lt-leb _ _ h, ← p, le-ltb _ _ k)

-- the place of a word, one word further on
pub word_on : (s : List ℕ) (at n i : ℕ) → i < n → word_from (n - i) s at ≡ word_from (n - (i + 1)) s (past 32 s at)
unfolding word_from
word_on s at n i h = let e : n - i ≡ suc (n - (i + 1)) = omega arith in rw e

pub word_done : (s : List ℕ) (at n i : ℕ) → n ≤ i → word_from (n - i) s at ≡ at
unfolding word_from
word_done s at n i h = let e : n - i ≡ 0 = omega arith in rw e
