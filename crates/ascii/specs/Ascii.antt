-- The code's own notion: plain ASCII, and how eight bytes at once are seen to be that. Assumes nothing.
use Rattle.std.specs.Prelude.{ℕ, ◌+◌, ◌*◌, List, [], ◌∷◌, Bool, true, cond, not, ◌&&◌, ◌||◌, leb, ltb, eqb}
use Rattle.std.specs.Int.Bits.{bit_and, bit_or, bit_xor}
use Rattle.text.specs.Text.{none_of, marks}

-- each byte is one of 01 to 7F
unfoldable pub ascii : List ℕ → Bool
ascii [] = true
ascii (b ∷ bs) = (leb 0x01 b && leb b 0x7F) && ascii bs

-- the same, and in a name none of `. ; [ /`
unfoldable pub every : Bool → List ℕ → Bool
every name bs = ascii bs && cond name (none_of marks bs) true

-- ---- a binary name: each byte beside the one before it

unfoldable pub pairs : ℕ → List ℕ → List (ℕ × ℕ)
pairs p [] = []
pairs p (b ∷ bs) = (p, b) ∷ pairs b bs

unfoldable pub firsts : List (ℕ × ℕ) → List ℕ
firsts [] = []
firsts (q ∷ qs) = q.0 ∷ firsts qs

unfoldable pub seconds : List (ℕ × ℕ) → List ℕ
seconds [] = []
seconds (q ∷ qs) = q.1 ∷ seconds qs

-- each byte is below 80
unfoldable pub small : List ℕ → Bool
small [] = true
small (b ∷ bs) = ltb b 128 && small bs

-- no `/` follows a `/`
unfoldable pub apart : List (ℕ × ℕ) → Bool
apart [] = true
apart (q ∷ qs) = not (eqb q.1 0x2F && eqb q.0 0x2F) && apart qs

-- `. ; [`
abbrev pub stops : List ℕ
stops = 0x2E ∷ 0x3B ∷ 0x5B ∷ []

unfoldable pub linked : List (ℕ × ℕ) → Bool
linked qs = (small (firsts qs) && ascii (seconds qs)) && (none_of stops (seconds qs) && apart qs)

abbrev pub linked1 : ℕ → ℕ → Bool
linked1 p b = (ltb p 128 && (leb 0x01 b && leb b 0x7F)) && (not (eqb b 0x2E || (eqb b 0x3B || eqb b 0x5B)) && not (eqb b 0x2F && eqb p 0x2F))

-- ---- eight bytes as one number, the first the lowest

unfoldable pub packed : List ℕ → ℕ
packed [] = 0
packed (b ∷ bs) = packed bs * 256 + b

unfoldable pub bytes : List ℕ → Bool
bytes [] = true
bytes (b ∷ bs) = ltb b 256 && bytes bs

abbrev pub lows : ℕ
lows = 0x7F7F7F7F7F7F7F7F

abbrev pub highs : ℕ
highs = 0x8080808080808080

-- no byte is the one that c has eight times: less that one's bits each has some left, and 7F more reach its highest bit
unfoldable pub lacks : ℕ → ℕ → Bool
lacks w c = eqb (bit_and (bit_and (bit_xor w c) lows + lows) highs) highs

-- no highest bit, and no byte 00
abbrev pub plain8 : ℕ → Bool
plain8 w = eqb (bit_and w highs) 0 && lacks w 0

-- none of `. ; [ /`
abbrev pub unmarked8 : ℕ → Bool
unmarked8 w = lacks w 0x2E2E2E2E2E2E2E2E && (lacks w 0x3B3B3B3B3B3B3B3B && (lacks w 0x5B5B5B5B5B5B5B5B && lacks w 0x2F2F2F2F2F2F2F2F))

abbrev pub every8 : Bool → ℕ → Bool
every8 name w = plain8 w && cond name (unmarked8 w) true

-- eight bytes w, each after the one at its place in v
abbrev pub slashes : ℕ
slashes = 0x2F2F2F2F2F2F2F2F

abbrev pub linked8 : ℕ → ℕ → Bool
linked8 v w =
    (eqb (bit_and v highs) 0 && plain8 w)
    && ((lacks w 0x2E2E2E2E2E2E2E2E && (lacks w 0x3B3B3B3B3B3B3B3B && lacks w 0x5B5B5B5B5B5B5B5B)) && lacks (bit_or (bit_xor w slashes) (bit_xor v slashes)) 0)
