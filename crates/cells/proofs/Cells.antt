-- Cells as bytes and bytes as cells. Assumes nothing.
use mathlib.Core.Path.{◌≡◌, refl, ap, sym, ◌∙◌}
use Prim.Native.Nat.{ℕ, zero, suc, ◌+◌, ◌-◌, ◌*◌, ◌/◌, ◌%◌, ◌≤◌, ◌<◌}
use native.Mathlib.Nat.{sub-zero, suc-add, div-div-eq-div-mul, div-add-mod', mod-eq_of_lt}
use native.Mathlib.Numerals.{add-one}
use native.Mathlib.Omega.{arith}
use mathlib.Core.List.{List, [], ◌∷◌, ◌++◌, append_assoc}
use lib.ListN.{length, get_or, take, replicate, get_or-eq_default, length-append, length-replicate, replicate-append-replicate}
use lib.Seq.{take-suc, take_all}
use Rattle.reads.specs.Bytes.{num4}
use Rattle.reads.specs.Answer.{Answer, accept, refuse}
use Rattle.reads.specs.Tables.{padded, after}
use Rattle.cells.specs.Cells.{cells_in, cell_bytes, bytes_for, as_bytes}

-- ---- cells as bytes

pub length_bytes : (xs : List ℕ) → length (bytes_for xs) ≡ 4 * length xs
unfolding bytes_for
length_bytes [] = refl
length_bytes (x ∷ xs) = let h = length_bytes xs in omega arith

bytes_append : (xs ys : List ℕ) → bytes_for (xs ++ ys) ≡ bytes_for xs ++ bytes_for ys
unfolding bytes_for
bytes_append [] ys = refl
bytes_append (x ∷ xs) ys = ap (λ (l : List ℕ). cell_bytes x ++ l) (bytes_append xs ys)

-- one cell more
pub bytes_more : (xs : List ℕ) (i : ℕ) → i < length xs → bytes_for (take i xs) ++ cell_bytes (get_or xs i 0) ≡ bytes_for (take (i + 1) xs)
unfolding bytes_for
bytes_more xs i h = sym (ap (λ (k : ℕ). bytes_for (take k xs)) (add-one i) ∙ ap bytes_for (take-suc xs i 0 h) ∙ bytes_append (take i xs) (get_or xs i 0 ∷ []))

-- cells that all fit are all written
pub all_fit : (xs : List ℕ) (len room : ℕ) → length xs ≤ room → as_bytes len xs ≡ as_bytes len (take room xs)
all_fit xs len room h = ap (as_bytes len) (sym (take_all room xs h))

-- ---- bytes as cells

-- the cell whose first byte is `at`
pub cell_in : (bs : List ℕ) (i at : ℕ) → at ≡ i * 4 → i < length bs / 4 → num4 bs at ≡ get_or (cells_in bs) i 0
unfolding cells_in
cell_in [] i at e h = absurd (omega arith)
cell_in (a ∷ []) i at e h = absurd (omega arith)
cell_in (a ∷ b ∷ []) i at e h = absurd (omega arith)
cell_in (a ∷ b ∷ c ∷ []) i at e h = absurd (omega arith)
cell_in (a ∷ b ∷ c ∷ d ∷ bs) zero at e h = let z : at ≡ 0 = omega arith in rw z refl
cell_in (a ∷ b ∷ c ∷ d ∷ bs) (suc i) at e h =
    let z : at ≡ suc (suc (suc (suc (i * 4)))) = omega arith in
    rw z (simp suc-add (cell_in bs i (i * 4) refl (omega arith)))

pub length_cells : (bs : List ℕ) → length (cells_in bs) ≡ length bs / 4
unfolding cells_in
length_cells [] = refl
length_cells (a ∷ []) = refl
length_cells (a ∷ b ∷ []) = refl
length_cells (a ∷ b ∷ c ∷ []) = refl
length_cells (a ∷ b ∷ c ∷ d ∷ bs) = let h = length_cells bs in omega arith

pub cell_past : (bs : List ℕ) (i : ℕ) → length bs / 4 ≤ i → 0 ≡ get_or (cells_in bs) i 0
cell_past bs i h =
    let l = length_cells bs in
    let g : length (cells_in bs) ≤ i = omega arith in
    sym (get_or-eq_default (cells_in bs) 0 g)

-- ---- there and back: what is written for cells is read as these cells

abbrev pub Words : List ℕ → Type 0
Words xs = (i : ℕ) → get_or xs i 0 < 4294967296

-- a number from its four bytes
four : (x : ℕ) → x < 4294967296 → (x / 16777216 % 256 * 256 + x / 65536 % 256) * 65536 + (x / 256 % 256 * 256 + x % 256) ≡ x
four x h =
    let p : x / 256 / 256 ≡ x / 65536 = div-div-eq-div-mul x 256 256 in
    let q : x / 65536 / 256 ≡ x / 16777216 = div-div-eq-div-mul x 65536 256 in
    let a : x / 16777216 % 256 ≡ x / 16777216 = mod-eq_of_lt (omega arith) in
    let b : x / 65536 / 256 * 256 + x / 65536 % 256 ≡ x / 65536 = div-add-mod' (x / 65536) 256 in
    let c : x / 256 / 256 * 256 + x / 256 % 256 ≡ x / 256 = div-add-mod' (x / 256) 256 in
    let d : x / 256 * 256 + x % 256 ≡ x = div-add-mod' x 256 in
    rw a (join (x / 16777216) (x / 65536 % 256) (x / 256 % 256) (x % 256) (x / 65536) (x / 256) x (rw q at b) (rw p at c) d)
  where
    join : (a b c d y z x : ℕ) → a * 256 + b ≡ y → y * 256 + c ≡ z → z * 256 + d ≡ x → (a * 256 + b) * 65536 + (c * 256 + d) ≡ x
    join a b c d y z x e f g = omega arith

module _ (zs : List ℕ) (few : cells_in zs ≡ []) where
  back : (xs : List ℕ) → Words xs → cells_in (bytes_for xs ++ zs) ≡ xs
  unfolding bytes_for cells_in
  back [] w = few
  back (x ∷ xs) w = λ i. four x (w 0) i ∷ back xs (λ j. w (suc j)) i

less_than_a_cell : (n : ℕ) → n < 4 → cells_in (replicate n 0) ≡ []
unfolding cells_in
less_than_a_cell zero h = refl
less_than_a_cell (suc zero) h = refl
less_than_a_cell (suc (suc zero)) h = refl
less_than_a_cell (suc (suc (suc zero))) h = refl
less_than_a_cell (suc (suc (suc (suc n)))) h = absurd (omega arith)

-- a table of so many bytes that holds as many cells as it can
pub there_and_back : (len : ℕ) (xs : List ℕ) → length xs ≡ len / 4 → Words xs → cells_in (as_bytes len xs) ≡ xs
unfolding as_bytes
there_and_back len xs e w = back (replicate (len - 4 * length xs) 0) (less_than_a_cell (len - 4 * length xs) (omega arith)) xs w

-- ---- zeros past the cells are no matter

bytes_zeros : (k : ℕ) → bytes_for (replicate k 0) ≡ replicate (4 * k) 0
unfolding bytes_for
bytes_zeros zero = refl
bytes_zeros (suc k) =
    let e : 4 * suc k ≡ suc (suc (suc (suc (4 * k)))) = omega arith in
    rw e (ap (λ (l : List ℕ). cell_bytes 0 ++ l) (bytes_zeros k))

module _ (len : ℕ) where
  zeros_after : (xs : List ℕ) (k : ℕ) → 4 * (length xs + k) ≤ len → as_bytes len (xs ++ replicate k 0) ≡ as_bytes len xs
  unfolding as_bytes
  zeros_after xs k h =
      let l : length (xs ++ replicate k 0) ≡ length xs + k = simp (length-append, length-replicate) in
      let e : 4 * k + (len - 4 * (length xs + k)) ≡ len - 4 * length xs = omega arith in
      rw (l, bytes_append, bytes_zeros, append_assoc, replicate-append-replicate, e) refl

  zeros_padded : (room : ℕ) (xs : List ℕ) → 4 * room ≤ len → length xs ≤ room → as_bytes len (padded 0 room xs) ≡ as_bytes len xs
  unfolding padded
  zeros_padded room xs h g = zeros_after xs (room - length xs) (omega arith)

  -- zeros alone
  pub all_zero : replicate len 0 ≡ as_bytes len (replicate (len / 4) 0)
  unfolding as_bytes bytes_for
  all_zero = sym (zeros_after [] (len / 4) (omega arith) ∙ simp sub-zero)

  -- a table with less room leaves the same bytes, where the answer is the same
  module _ {X : Type 0} (holds : X → List ℕ) (n : ℕ) (few : n ≤ len / 4) where
    less_room : (y : Answer X) → length (after 0 holds n y) ≡ n → as_bytes len (after 0 holds n y) ≡ as_bytes len (after 0 holds (len / 4) y)
    unfolding padded
    less_room (refuse nr place) e = zeros_after [] n (omega arith) ∙ sym (zeros_after [] (len / 4) (omega arith))
    less_room (accept x) e =
        let l : length (padded 0 n (holds x)) ≡ length (holds x) + (n - length (holds x)) = simp (length-append, length-replicate) in
        zeros_padded n (holds x) (omega arith) (omega arith) ∙ sym (zeros_padded (len / 4) (holds x) (omega arith) (omega arith))

    pub handed_back : (t : List ℕ) (y : Answer X) → length t ≡ n → t ≡ after 0 holds n y → as_bytes len (take (len / 4) t) ≡ as_bytes len (after 0 holds (len / 4) y)
    handed_back t y l e = sym (all_fit t len (len / 4) (omega arith)) ∙ ap (as_bytes len) e ∙ less_room y (sym (ap length e) ∙ l)
