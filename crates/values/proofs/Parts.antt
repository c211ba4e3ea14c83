-- Where the bytes of a Utf8 slot stand: in the file, and they are these bytes. Assumes nothing.
use mathlib.Core.Path.{◌≡◌, refl, sym, ◌∙◌, subst}
use mathlib.Core.Bool.{Bool, true, false, cond}
use mathlib.Core.List.{List, []}
use Prim.Native.Nat.{ℕ, ◌+◌, ◌-◌, ◌≤◌, ◌<◌, min}
use native.Mathlib.Omega.{arith}
use lib.ListN.{length, take, drop}
use lib.Dec.{leb}
use borrow.Author.Tests.{le-leb, lt-leb, leb-true, leb-false}
use Rattle.reads.specs.Answer.{Answer, Check, accept, refuse, ◌>>=◌}
use Rattle.reads.proofs.Leaves.{part_none, part_cut, part_whole}
use Rattle.pool.specs.Pool.{Pool, Whole}
use Rattle.slot.specs.Slots.{cell, field, bytes_of}
use Rattle.handed.specs.Handed.{handed, lookup, asked}
use Rattle.handed.proofs.Handed.{its_cells}
use Rattle.values.specs.declared.Span.{Span}
use Rattle.values.specs.Lookups.{utf8, cut, span_of, span_at, span_in, bytes_at, bytes_in}

-- ---- a place that is cut at the end of the file

module _ (s : List ℕ) where
  pub least : (at : ℕ) → min at (length s) ≡ cut s at
  unfolding cut
  least at = by_test (leb at (length s)) refl
    where
      by_test : (b : Bool) → leb at (length s) ≡ b → min at (length s) ≡ cond b at (length s)
      by_test true e = let h = leb-true _ _ e in omega arith
      by_test false e = let h = leb-false _ _ e in omega arith

  cut_in : (at : ℕ) → at ≤ length s → cut s at ≡ at
  unfolding cut
  cut_in at h = simp (le-leb _ _ h)

  cut_past : (at : ℕ) → length s < at → cut s at ≡ length s
  unfolding cut
  cut_past at h = simp (lt-leb _ _ h)

  -- k bytes from `at` on
  module _ (at k : ℕ) where
    abbrev Good : ℕ → ℕ → Type 0
    Good from to = (from ≤ to) × (to ≤ length s) × (take (to - from) (drop from s) ≡ take k (drop at s))

    good : (a b : Bool) → leb at (length s) ≡ a → leb (at + k) (length s) ≡ b → Good (cut s at) (cut s (at + k))
    good true true p q =
        let i : at ≤ length s = leb-true _ _ p in
        let o : at + k ≤ length s = leb-true _ _ q in
        rw (cut_in at i, cut_in (at + k) o) (omega arith, o, part_whole s at k)
    good true false p q =
        let i : at ≤ length s = leb-true _ _ p in
        let o : length s < at + k = leb-false _ _ q in
        rw (cut_in at i, cut_past (at + k) o) (i, omega arith, part_cut s at k (omega arith))
    good false b p q =
        let i : length s < at = leb-false _ _ p in
        let o : length s < at + k = omega arith in
        rw (cut_past at i, cut_past (at + k) o) (omega arith, omega arith, sym (part_none s (length s) (length s - length s) (omega arith)) ∙ part_none s at k (omega arith))

-- ---- a slot's part of the file

abbrev Part : List ℕ → Span → List ℕ → Type 0
Part s x bs = (x.from ≤ x.to) × (x.to ≤ length s) × (take (x.to - x.from) (drop x.from s) ≡ bs)

none : (s : List ℕ) → Part s (record { from = 0; to = 0 }) []
none s = (omega arith, omega arith, refl)

on_pool : (p : Pool) (n : ℕ) → Part p.file (span_in (span_at n p)) (bytes_in (bytes_at n p))
unfolding span_at span_of bytes_at bytes_of
on_pool p n = by_answer (asked p utf8 n)
  where
    by_answer : (x : Check) → Part p.file (span_in (x >>= λ _. accept (span_of p n))) (bytes_in (x >>= λ _. accept (bytes_of p n)))
    by_answer (accept _) = good p.file (cell p n + 3) (field p n 1) _ _ refl refl
    by_answer (refuse nr place) = none p.file

on_table : (s table : List ℕ) (n : ℕ) → Part s (span_in (lookup s table (span_at n))) (bytes_in (lookup s table (bytes_at n)))
unfolding lookup
on_table s table n = by_answer (handed s table) refl
  where
    by_answer : (x : Answer Whole) → x ≡ handed s table → Part s (span_in (x >>= λ w. span_at n w.pool)) (bytes_in (x >>= λ w. bytes_at n w.pool))
    by_answer (accept w) e = subst (λ (f : List ℕ). Part f (span_in (span_at n w.pool)) (bytes_in (bytes_at n w.pool))) (its_cells s table w e).0 (on_pool w.pool n)
    by_answer (refuse nr place) e = none s

-- what `utf8_span` answers lies in the file, and is the bytes of the slot
pub part : (s table : List ℕ) (n : ℕ) (x : Span) → x ≡ span_in (lookup s table (span_at n)) → Part s x (bytes_in (lookup s table (bytes_at n)))
part s table n x e = rw e (on_table s table n)
