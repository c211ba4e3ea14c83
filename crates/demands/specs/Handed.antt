-- A statement: where a handed table differs from the cells that the file gives, as document 01 says it of refusal 12. Assumes nothing.
use Rattle.std.specs.Prelude.{ℕ, ◌<◌, ◌≡◌, List, ◌⊎◌, length, get_or}

-- `place` is the first cell that differs, those past the file's slots being 0; or the table's length, where it is short and agrees
pub record Differs (cells table : List ℕ) (place : ℕ) : Type 0 where
  pub before : (i : ℕ) → i < place → get_or table i 0 ≡ get_or cells i 0
  pub there : ((place < length table) × (get_or table place 0 ≡ get_or cells place 0 → ⊥)) ⊎ ((place ≡ length table) × (length table < length cells))
