-- The code's own notion: how many cells are enough for the pool of a file: one more than its count, or a third of its bytes where that is less. Assumes nothing.
use Rattle.std.specs.Prelude.{ℕ, ◌+◌, ◌/◌, min, List, length}
use Rattle.reads.specs.Bytes.{num2}

-- an entry takes three bytes or more, and one that is wide and takes two slots takes nine
abbrev pub enough_for : List ℕ → ℕ
enough_for s = min (num2 s 8 + 1) (length s / 3)
