-- A statement: module names by code points, as document 01 says them; held against those by bytes in proofs/Modules.antt. Assumes nothing.
use Rattle.std.specs.Prelude.{ℕ, ◌+◌, ◌-◌, ◌*◌, List, [], ◌∷◌, Bool, true, cond, not, ◌&&◌, length, get_or, leb, eqb}
use Rattle.text.specs.Text.{one_of, escaped}
use Rattle.text.proofs.Texts.{Points, none, more}

-- the code point whose form is these one, two, three or six bytes
unfoldable pub point_of : List ℕ → ℕ
point_of p =
    cond (eqb (length p) 1) (get_or p 0 0)
    (cond (eqb (length p) 2) ((get_or p 0 0 - 0xC0) * 64 + (get_or p 1 0 - 0x80))
    (cond (eqb (length p) 3) ((get_or p 0 0 - 0xE0) * 4096 + ((get_or p 1 0 - 0x80) * 64 + (get_or p 2 0 - 0x80)))
    (0x10000 + (((get_or p 1 0 - 0xA0) * 64 + (get_or p 2 0 - 0x80)) * 1024 + ((get_or p 4 0 - 0xB0) * 64 + (get_or p 5 0 - 0x80))))))

-- the code points of a text
abbrev pub codes : {bs : List ℕ} → Points bs → List ℕ
codes none = []
codes (more p ps d ds) = point_of p ∷ codes ds

-- a code point from 0x20 up but `\ : @`
unfoldable pub plain_point : ℕ → Bool
plain_point c = leb 0x20 c && not (one_of escaped c)

-- from the left, the pairs `\\ \: \@`, else such code points
unfoldable pub module_points : List ℕ → Bool
module_points [] = true
module_points (c ∷ []) = plain_point c
module_points (c ∷ d ∷ cs) = cond (eqb c 0x5C && one_of escaped d) (module_points cs) (plain_point c && module_points (d ∷ cs))
