-- The code's own notion: a script's lines, words, numbers and byte strings. Assumes nothing.
use Rattle.std.specs.Prelude.{ℕ, zero, suc, ◌+◌, ◌*◌, ◌-◌, List, [], ◌∷◌, Bool, false, cond, not, length, take, drop, set, leb, ltb, eqb}

-- how many bytes stand before the first mark; all, where there is none
unfoldable pub until : ℕ → List ℕ → ℕ
until mark [] = 0
until mark (b ∷ bs) = cond (eqb b mark) 0 (suc (until mark bs))

-- the place after the first mark from a place on; the end, where there is none
unfoldable pub past : ℕ → List ℕ → ℕ → ℕ
past mark s at = cond (leb (length s) at) (length s) (cond (ltb (until mark (drop at s)) (length s - at)) (at + until mark (drop at s) + 1) (length s))

-- the line at a place, without its end
unfoldable pub line_at : List ℕ → ℕ → List ℕ
line_at s at = take (until 10 (drop at s)) (drop at s)

-- it is not empty and does not begin with `#`
unfoldable pub asked : List ℕ → Bool
asked [] = false
asked (b ∷ bs) = not (eqb b 35)

-- the place n words after a place, and the word of a line that has a number
unfoldable pub word_from : ℕ → List ℕ → ℕ → ℕ
word_from zero line at = at
word_from (suc n) line at = word_from n line (past 32 line at)

unfoldable pub word_at : List ℕ → ℕ → List ℕ
word_at line n = take (until 32 (drop (word_from n line 0) line)) (drop (word_from n line 0) line)

-- the value of a digit in base 16, in lower case; 16 of any other byte
unfoldable pub digit : ℕ → ℕ
digit b = cond (ltb b 48) 16 (cond (leb b 57) (b - 48) (cond (ltb b 97) 16 (cond (leb b 102) (b - 87) 16)))

-- the byte that two digits make; 256 where they are no digits
unfoldable pub joined : ℕ → ℕ → ℕ
joined x y = cond (ltb x 16) (cond (ltb y 16) (x * 16 + y) 256) 256

-- the bytes that pairs of digits make, put into `out` from n on, up to what is no pair or to the end of `out`: the place reached, and `out`
unfoldable pub filled : List ℕ → List ℕ → ℕ → ℕ × List ℕ
filled [] out n = (n, out)
filled (a ∷ []) out n = (n, out)
filled (a ∷ b ∷ w) out n =
    cond (ltb n (length out))
    (cond (ltb (joined (digit a) (digit b)) 256) (filled w (set out n (joined (digit a) (digit b))) (n + 1)) (n, out))
    (n, out)

-- the value of a decimal number, from the value of the digits before it; 0 where a byte is no digit, or the number does not fit
unfoldable pub decimal_on : ℕ → List ℕ → ℕ
decimal_on n [] = n
decimal_on n (b ∷ bs) = cond (ltb 9 (digit b)) 0 (cond (ltb 1844674407370955160 n) 0 (decimal_on (n * 10 + digit b) bs))

unfoldable pub decimal : List ℕ → ℕ
decimal w = decimal_on 0 w
