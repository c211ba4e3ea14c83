-- A statement: what demand 3 says of the dependants of a slot. Assumes nothing.
use Rattle.std.specs.Prelude.{ℕ, ◌≤◌, ◌<◌, ◌≡◌, List, ◌↔◌, length, get_or, replicate}
use Rattle.reads.specs.Answer.{Answer, accept, refuse}
use Rattle.reads.specs.Tables.{padded}
use Rattle.pool.specs.Pool.{Pool, slots}
use Rattle.reach.specs.Reach.{◌∈◌, Reach}

-- the call for slot n of pool p, with k cells lent: whether it answers so (how many there are, or a refusal), and what it leaves in the cells
pub record Demand3 (p : Pool) (n k : ℕ) (Answered : Answer ℕ → Type 0) (left : List ℕ) : Type 0 where
  -- the list holds exactly the slots that reach slot n along one or more references, ..
  pub list : List ℕ
  pub exactly : (a : ℕ) → (a ∈ list) ↔ Reach p a n
  pub slot : (a : ℕ) → a ∈ list → a < slots p
  -- .. each once, rising
  pub once : (i j : ℕ) → i < length list → j < length list → get_or list i 0 ≡ get_or list j 0 → i ≡ j
  pub rising : (i j : ℕ) → i < j → j < length list → get_or list i 0 < get_or list j 0
  -- .. and no other list does
  pub alone : (xs : List ℕ) → ((a : ℕ) → (a ∈ xs) ↔ Reach p a n) → ((i j : ℕ) → i < j → j < length xs → get_or xs i 0 < get_or xs j 0) → xs ≡ list
  -- it is answered, and left in the cells, where it fits them; refused for room exactly when there are more, with the number needed, and the cells are zero
  pub fits : length list ≤ k → Answered (accept (length list)) × (left ≡ padded 0 k list)
  pub more : k < length list → Answered (refuse 13 (length list)) × (left ≡ replicate k 0)
  pub only_then : (place : ℕ) → Answered (refuse 13 place) ↔ ((k < length list) × (place ≡ length list))
