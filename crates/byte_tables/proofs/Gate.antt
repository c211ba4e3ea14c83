-- What is read afresh and held against a handed table says of the pool that the table hands in. Assumes nothing.
use mathlib.Core.Path.{◌≡◌, refl, ap, sym, ◌∙◌}
use mathlib.Core.List.{List}
use Prim.Native.Nat.{ℕ, ◌≤◌}
use lib.ListN.{replicate}
use Rattle.reads.specs.Answer.{Check, fine, accept, refuse, mapped}
use Rattle.reads.specs.Tables.{after}
use Rattle.reads.proofs.Answers.{first, carried, refused_of}
use Rattle.reads.proofs.Leaves.{Bytes}
use Rattle.pool.specs.declared.Head.{Head}
use Rattle.pool.specs.Pool.{Pool, read_pool, seen}
use Rattle.pool.specs.Readings.{head_of}
use Rattle.pool.proofs.Slots.{slots_fit}
use Rattle.checks.proofs.Edge.{Leaves, held, same_pool}
use Rattle.handed.specs.Handed.{agree, judged, no_limit, handed}
use Rattle.handed.proofs.Own.{own_cells}
use Rattle.byte_tables.specs.Afresh.{afresh, taken}
use Rattle.byte_tables.specs.Enough.{enough_for}
use Rattle.byte_tables.proofs.Rooms.{read_same, enough_few}

-- ---- from what the parts answer to what `afresh` does

module _ (s table : List ℕ) (len : ℕ) where
  pub not_read : (nr place : ℕ) → refuse nr place ≡ mapped head_of (read_pool s len) → refuse nr place ≡ afresh s table len
  unfolding afresh
  not_read nr place e = rw (← refused_of head_of (read_pool s len) nr place e) refl

  pub read : (h : Head) (t : List ℕ) (x : Check) → Leaves len (accept h) t (read_pool s len) → x ≡ agree (seen s h.major t h.slots).cells table → x ≡ afresh s table len
  unfolding afresh
  read h t x p e =
      let v = held len h t (read_pool s len) p in
      rw (← v.answered) (e ∙ ap (λ (y : Pool). agree y.cells table) (same_pool s len h t v))

  -- the cells hold what was read where the table agrees, and zeros where anything is refused
  pub none_taken : (nr place : ℕ) → refuse nr place ≡ afresh s table len → refuse nr place ≡ taken s table len
  unfolding afresh taken
  none_taken nr place e = carried (read_pool s len) _ _ nr place (λ w q. rw (← q) refl) e

  pub all_taken : fine ≡ afresh s table len → read_pool s len ≡ taken s table len
  unfolding afresh taken
  all_taken e = let r = first (read_pool s len) _ tt e in rw (← r.1, ← r.2) refl

  -- .. whichever of the two leaves them
  abbrev pub Left : List ℕ → Type 0
  Left t = t ≡ after 0 (λ w. w.pool.cells) len (taken s table len)

  pub left_zero : (nr place : ℕ) (t : List ℕ) → refuse nr place ≡ afresh s table len → t ≡ replicate len 0 → Left t
  left_zero nr place t e z = z ∙ ap (after 0 (λ w. w.pool.cells) len) (none_taken nr place e)

  pub left_unread : (nr place : ℕ) (t : List ℕ) → refuse nr place ≡ mapped head_of (read_pool s len) → t ≡ after 0 (λ w. w.pool.cells) len (read_pool s len) → Left t
  left_unread nr place t e z = left_zero nr place t (not_read nr place e) (z ∙ sym (ap (after 0 (λ w. w.pool.cells) len) (refused_of head_of (read_pool s len) nr place e)))

  pub left_read : (t : List ℕ) → fine ≡ afresh s table len → t ≡ after 0 (λ w. w.pool.cells) len (read_pool s len) → Left t
  left_read t e z = z ∙ ap (after 0 (λ w. w.pool.cells) len) (all_taken e)

-- ---- from what `afresh` answers to the pool of the handed table, where there is room enough

module _ (s : List ℕ) (b : Bytes s) (len : ℕ) (above : enough_for s ≤ len) (table : List ℕ) where
  unbounded : read_pool s len ≡ read_pool s no_limit
  unbounded = read_same s b len no_limit above (enough_few s b)

  pub refused : (nr place : ℕ) → refuse nr place ≡ afresh s table len → refuse nr place ≡ handed s table
  unfolding afresh handed judged
  refused nr place e = rw (← unbounded) (carried (read_pool s len) _ _ nr place (λ w q. rw (← q) refl) e)

  -- the cells that were read, handed in, are as good as the table
  pub agreed : fine ≡ afresh s table len → handed s (after 0 (λ w. w.pool.cells) len (taken s table len)) ≡ handed s table
  unfolding afresh taken handed judged
  agreed e =
      let r = first (read_pool s len) _ tt e in
      let w = r.0 in
      let k = own_cells w.pool.cells len (slots_fit s len w r.1) in
      rw (← unbounded, ← r.1, ← r.2, ← k) refl
