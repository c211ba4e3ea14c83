-- Tables as bytes hold the cells of the tables that they stand for. Assumes nothing.
use Prim.Native.Nat.{ℕ, ◌*◌, ◌/◌, ◌≤◌, ◌<◌}
use native.Mathlib.Omega.{arith}
use mathlib.Core.Path.{◌≡◌, refl, ap, ◌∙◌}
use mathlib.Core.Bool.{Bool, true, false}
use mathlib.Core.List.{List}
use lib.ListN.{length, get_or, replicate, length-append, length-replicate, get_or-eq_default}
use lib.Dec.{ltb}
use borrow.Author.Tests.{ltb-true, ltb-false}
use Rattle.reads.specs.Answer.{Answer, accept, refuse}
use Rattle.reads.specs.Tables.{padded, after}
use Rattle.reads.proofs.Tables.{padded_length, zero_at}
use Rattle.pool.specs.Pool.{Whole}
use Rattle.pool.proofs.Room.{Bytes, few_read}
use Rattle.checks.specs.Checks.{pool}
use Rattle.checks.proofs.Room.{slots_in_room}
use Rattle.handed.specs.Handed.{no_limit}
use Rattle.handed.proofs.Own.{own_cells}
use Rattle.reach.specs.Reach.{◌∈◌}
use Rattle.reach.proofs.Sieve.{at_place}
use Rattle.dependants.specs.Dependants.{dependants}
use Rattle.dependants.proofs.Demand.{answered}
use Rattle.dependants.proofs.Edge.{handed_is}
use Rattle.cells.specs.Cells.{cells_in, as_bytes}
use Rattle.cells.proofs.Cells.{Words, there_and_back, length_cells, length_bytes}
use Rattle.loader.proofs.Own.{leaves, table_is_taken}
use Rattle.demands.proofs.Agreement.{same_cell, taken}

-- zeros, and cells with zeros after them
no_cells : (len : ℕ) → cells_in (as_bytes len (replicate (len / 4) 0)) ≡ replicate (len / 4) 0
no_cells len = there_and_back len (replicate (len / 4) 0) (length-replicate (len / 4) 0) (λ i. let z = zero_at (len / 4) i in omega arith)

words_padded : (xs : List ℕ) (k : ℕ) → length xs ≤ k → Words xs → Words (padded 0 k xs)
words_padded xs k l w i = go (ltb i k) refl
  where
    go : (t : Bool) → ltb i k ≡ t → get_or (padded 0 k xs) i 0 < 4294967296
    go true q =
        let z = padded_length 0 k xs l in
        let h = ltb-true i k q in
        let e = same_cell xs (padded 0 k xs) (own_cells xs k l) i (omega arith) in
        let b = w i in
        omega arith
    go false q =
        let z = padded_length 0 k xs l in
        let h = ltb-false i k q in
        let e : get_or (padded 0 k xs) i 0 ≡ 0 = get_or-eq_default (padded 0 k xs) 0 (omega arith) in
        omega arith

-- ---- the pool's table

length_as_bytes : (len : ℕ) (cells : List ℕ) → 4 * length cells ≤ len → length (as_bytes len cells) ≡ len
unfolding as_bytes
length_as_bytes len cells h = simp (length-append, length-replicate, length_bytes) (omega arith)

module _ (s : List ℕ) (b : Bytes s) (len : ℕ) where
  abbrev cells : Answer Whole → List ℕ
  cells x = after 0 (λ w. w.pool.cells) (len / 4) x

  accepted_cells : (w : Whole) → accept w ≡ pool s (len / 4) → cells_in (as_bytes len (cells (pool s (len / 4)))) ≡ cells (pool s (len / 4))
  accepted_cells w e =
      let t = taken s (cells_in (leaves s b len w e)) w (table_is_taken s b len w e) in
      let z = padded_length 0 (len / 4) w.pool.cells (slots_in_room s (len / 4) w e) in
      let y : length (cells (pool s (len / 4))) ≡ len / 4 = rw (← e) z in
      let k : length (cells_in (leaves s b len w e)) ≡ len / 4 = length_cells (leaves s b len w e) ∙ ap (λ (n : ℕ). n / 4) (length_as_bytes len (cells (pool s (len / 4))) (omega arith)) in
      t.1 ∙ rw k (rw (← e) refl)

  -- what `luo_pool` leaves stands for what `read_pool` leaves
  pub pool_cells : cells_in (as_bytes len (cells (pool s (len / 4)))) ≡ cells (pool s (len / 4))
  pool_cells = go (pool s (len / 4)) refl
    where
      go : (x : Answer Whole) → x ≡ pool s (len / 4) → cells_in (as_bytes len (cells (pool s (len / 4)))) ≡ cells (pool s (len / 4))
      go (accept w) e = accepted_cells w e
      go (refuse nr place) e = rw (← e) (no_cells len)

-- ---- the list of dependants

module _ (s : List ℕ) (b : Bytes s) (table : List ℕ) (n len : ℕ) where
  module _ (xs : List ℕ) (e : accept xs ≡ dependants s table n (len / 4)) where
    few : (a : ℕ) → a ∈ xs → a < 4294967296
    few a m =
        let r = answered s table n (len / 4) xs e in
        let k = few_read s b no_limit r.0 (handed_is s table r.0 r.1).0 in
        let h = r.3.slot a m in
        omega arith

    words : Words xs
    words i = go (ltb i (length xs)) refl
      where
        go : (t : Bool) → ltb i (length xs) ≡ t → get_or xs i 0 < 4294967296
        go true q = few (get_or xs i 0) (at_place xs i (ltb-true i (length xs) q))
        go false q =
            let h = ltb-false i (length xs) q in
            let z : get_or xs i 0 ≡ 0 = get_or-eq_default xs 0 h in
            omega arith

    listed_cells : cells_in (as_bytes len (padded 0 (len / 4) xs)) ≡ padded 0 (len / 4) xs
    listed_cells =
        let l = (answered s table n (len / 4) xs e).3.fits in
        there_and_back len (padded 0 (len / 4) xs) (padded_length 0 (len / 4) xs l) (words_padded xs (len / 4) l words)

  -- what `luo_dependants` leaves stands for what `dependants` leaves
  pub list_cells : cells_in (as_bytes len (after 0 (λ xs. xs) (len / 4) (dependants s table n (len / 4)))) ≡ after 0 (λ xs. xs) (len / 4) (dependants s table n (len / 4))
  list_cells = go (dependants s table n (len / 4)) refl
    where
      go : (x : Answer (List ℕ)) → x ≡ dependants s table n (len / 4) → cells_in (as_bytes len (after 0 (λ xs. xs) (len / 4) x)) ≡ after 0 (λ xs. xs) (len / 4) x
      go (accept xs) e = listed_cells xs e
      go (refuse nr place) e = no_cells len
