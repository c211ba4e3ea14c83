-- A handed table: how it is judged, and that one that agrees holds the pool that the file gives. Assumes nothing.
use mathlib.Core.Path.{◌≡◌, refl, ap, sym, ◌∙◌}
use mathlib.Core.List.{List, [], ◌∷◌}
use Prim.Native.Nat.{ℕ, suc, ◌≤◌, ◌<◌}
use native.Mathlib.Omega.{arith}
use lib.ListN.{length, get_or, take}
use lib.Dec.{leb, eqb}
use borrow.Author.Tests.{leb-true, eqb-true, le-leb, lt-leb}
use Rattle.std.specs.Borrow.{Bor}
use Rattle.reads.specs.Answer.{Answer, Check, fine, accept, refuse, ◌>>=◌, require, each, mapped}
use Rattle.reads.proofs.Answers.{same, first, required, whole_only, refused_of, each_at}
use Rattle.pool.specs.Pool.{Pool, Whole, read_pool, seen, slots}
use Rattle.checks.proofs.Edge.{its_file}
use Rattle.slot.specs.declared.Pool.{Pool as Lent}
use Rattle.slot.specs.Shown.{shown}
use Rattle.handed.specs.Handed.{agree, judged, no_limit, handed, lookup}
use Rattle.handed.specs.Walk.{lent}

-- ---- cell by cell

module _ (cells table : List ℕ) where
  abbrev pub same_at : ℕ → Check
  same_at i = require (eqb (get_or table i 0) (get_or cells i 0)) 12 i

  pub differs : (nr place : ℕ) → each (length table) 0 same_at ≡ refuse nr place → refuse nr place ≡ agree cells table
  unfolding agree
  differs nr place e = rw e refl

  pub short : each (length table) 0 same_at ≡ fine → length table < length cells → refuse 12 (length table) ≡ agree cells table
  unfolding agree
  short e h = rw (e, lt-leb _ _ h) refl

  pub agrees : each (length table) 0 same_at ≡ fine → length cells ≤ length table → fine ≡ agree cells table
  unfolding agree
  agrees e h = rw (e, le-leb _ _ h) refl

-- ---- a table that agrees begins with the cells

equal : (cells table : List ℕ) → ((i : ℕ) → i < length table → get_or table i 0 ≡ get_or cells i 0) → length cells ≤ length table → take (length cells) table ≡ cells
equal [] table h l = refl
equal (c ∷ cs) [] h l = absurd (omega arith)
equal (c ∷ cs) (t ∷ ts) h l = λ i. h 0 (omega arith) i ∷ equal cs ts (λ j k. h (suc j) (omega arith)) (omega arith) i

pub agreed : (cells table : List ℕ) → fine ≡ agree cells table → take (length cells) table ≡ cells
unfolding agree
agreed cells table e =
    let a = first (each (length table) 0 (same_at cells table)) _ tt e in
    equal cells table
    (λ i k. eqb-true _ _ (required (eqb (get_or table i 0) (get_or cells i 0)) 12 i (each_at (length table) 0 (same_at cells table) a.1 i (omega arith) (omega arith))))
    (leb-true _ _ (required (leb (length cells) (length table)) 12 (length table) a.2))

-- ---- from an accepted table to the pool that lookups look at

module _ (s table : List ℕ) where
  pub its_cells : (w : Whole) → accept w ≡ handed s table → (w.pool.file ≡ s) × (take (length w.pool.cells) table ≡ w.pool.cells)
  unfolding handed judged
  its_cells w e =
      let r = first (read_pool s no_limit) _ w e in
      let j = first (agree r.0.pool.cells table >>= _) _ w r.2 in
      let a = first (agree r.0.pool.cells table) _ tt j.1 in
      let q : r.0 ≡ w = sym (same j.2) in
      rw (← q) (its_file s no_limit r.0 r.1, agreed r.0.pool.cells table a.1)

  looks_at : (w : Whole) → accept w ≡ handed s table → seen s w.pool.major table (slots w.pool) ≡ w.pool
  looks_at w e = λ i. record { file = sym (its_cells w e).0 i; major = w.pool.major; cells = (its_cells w e).1 i }

-- ---- ... as the code lends it on

module _ (file table : Bor (List ℕ)) {A : Type 0} (f : Pool → Answer A) where
  pub on_lent : (p : Lent) → accept p ≡ mapped (lent file table) (handed file.now table.now) → f (shown p) ≡ lookup file.now table.now f
  unfolding lookup
  on_lent p e =
      let w = whole_only (lent file table) (handed file.now table.now) p e in
      rw (← w.1) (ap f (ap shown (sym w.2) ∙ looks_at file.now table.now w.0 w.1))

  pub off_lent : (nr place : ℕ) → refuse nr place ≡ mapped (lent file table) (handed file.now table.now) → refuse nr place ≡ lookup file.now table.now f
  unfolding lookup
  off_lent nr place e = rw (← refused_of (lent file table) (handed file.now table.now) nr place e) refl
