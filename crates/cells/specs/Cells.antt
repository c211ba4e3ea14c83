-- A table as bytes: four big-endian bytes a cell, a remainder no cell and zero. Document 01, "File and lent tables". Assumes nothing.
use Rattle.std.specs.Prelude.{ℕ, ◌+◌, ◌-◌, ◌*◌, ◌/◌, ◌%◌, List, [], ◌∷◌, ◌++◌, length, take, drop, replicate}

-- ---- bytes as cells

unfoldable pub cells_in : List ℕ → List ℕ
cells_in [] = []
cells_in (a ∷ []) = []
cells_in (a ∷ b ∷ []) = []
cells_in (a ∷ b ∷ c ∷ []) = []
cells_in (a ∷ b ∷ c ∷ d ∷ bs) = ((a * 256 + b) * 65536 + (c * 256 + d)) ∷ cells_in bs

-- ---- cells as bytes

abbrev pub cell_bytes : ℕ → List ℕ
cell_bytes x = x / 16777216 % 256 ∷ x / 65536 % 256 ∷ x / 256 % 256 ∷ x % 256 ∷ []

unfoldable pub bytes_for : List ℕ → List ℕ
bytes_for [] = []
bytes_for (x ∷ xs) = cell_bytes x ++ bytes_for xs

-- `len` bytes that begin with these cells: what follows them, and the remainder, is zero
unfoldable pub as_bytes : ℕ → List ℕ → List ℕ
as_bytes len cells = bytes_for cells ++ replicate (len - 4 * length cells) 0

-- ---- bytes written into a table

-- xs with p from `at` on, and nothing else changed
unfoldable pub written : List ℕ → ℕ → List ℕ → List ℕ
written xs at p = take at xs ++ (p ++ drop (at + length p) xs)
