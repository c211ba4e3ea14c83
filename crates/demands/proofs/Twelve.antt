-- Refusal 12 stands at the first cell that differs, or at the table's length. Assumes nothing.
use Prim.Native.Nat.{ℕ, zero, suc, ◌+◌, ◌≤◌, ◌<◌}
use native.Mathlib.Omega.{arith}
use mathlib.Core.Path.{◌≡◌, refl, sym, ◌∙◌}
use mathlib.Core.Bool.{Bool, true, false}
use mathlib.Core.List.{List}
use mathlib.Core.Logic.{inl, inr, ⊎_elim, ◌↔◌}
use lib.ListN.{length, get_or}
use lib.Dec.{leb, ltb, eqb}
use borrow.Author.Tests.{leb-false, ltb-true, ltb-false, eqb-true, eqb-false}
use Rattle.reads.specs.Answer.{Check, fine, accept, refuse, ◌>>=◌, require, each}
use Rattle.reads.proofs.Answers.{never, required, each_at}
use Rattle.pool.specs.Pool.{Whole, read_pool}
use Rattle.checks.specs.Checks.{checked}
use Rattle.handed.specs.Handed.{agree, judged, no_limit, handed}
use Rattle.handed.proofs.Handed.{same_at}
use Rattle.demands.specs.Handed.{Differs}
use Rattle.demands.proofs.Only.{bounds}
use Rattle.demands.proofs.Numbered.{checked_only}
use Rattle.demands.proofs.Agreement.{same_cell, long_enough}

-- ---- where a loop of checks stops

pub record Stop (f : ℕ → Check) (i k nr place : ℕ) : Type 0 where
  pub at : ℕ
  pub from : i ≤ at
  pub below : at < i + k
  pub fine_before : (n : ℕ) → i ≤ n → n < at → fine ≡ f n
  pub refused : refuse nr place ≡ f at

each_stops : (k i : ℕ) (f : ℕ → Check) (nr place : ℕ) → refuse nr place ≡ each k i f → Stop f i k nr place
unfolding each
each_stops zero i f nr place e = absurd (never (sym e))
each_stops (suc k) i f nr place e = go (f i) refl e (λ h. each_stops k (i + 1) f nr place h)
  where
    first_fine : (u : Unit {0}) → f i ≡ accept u → (s : Stop f (i + 1) k nr place) (n : ℕ) → i ≤ n → n < s.at → (t : Bool) → eqb n i ≡ t → fine ≡ f n
    first_fine u q s n h l true t = let z = eqb-true n i t in rw z (sym q)
    first_fine u q s n h l false t = let d = eqb-false n i t in s.fine_before n (omega arith) l

    go : (x : Check) → f i ≡ x → refuse nr place ≡ (x >>= λ _. each k (i + 1) f) → (refuse nr place ≡ each k (i + 1) f → Stop f (i + 1) k nr place) → Stop f i (suc k) nr place
    go (accept u) q e later =
        let s = later e in
        let a = s.from in
        let b = s.below in
        record { at = s.at; from = omega arith; below = omega arith; fine_before = λ n h l. first_fine u q s n h l (eqb n i) refl; refused = s.refused }
    go (refuse a b) q e later = record { at = i; from = omega arith; below = omega arith; fine_before = λ n h l. absurd (omega arith); refused = e ∙ sym q }

not_kept : (t : Bool) (n p nr place : ℕ) → refuse nr place ≡ require t n p → (t ≡ false) × (nr ≡ n) × (place ≡ p)
not_kept true n p nr place e = absurd (never (sym e))
not_kept false n p nr place e = (refl, cc, cc)

-- ---- where a table differs

module _ (cells table : List ℕ) where
  abbrev one : ℕ → Bool
  one i = eqb (get_or table i 0) (get_or cells i 0)

  agreeing : (n : ℕ) → fine ≡ same_at cells table n → get_or table n 0 ≡ get_or cells n 0
  agreeing n h = eqb-true _ _ (required (one n) 12 n h)

  short_there : (place : ℕ) → fine ≡ each (length table) 0 (same_at cells table) → place ≡ length table → length table < length cells → Differs cells table place
  short_there place q p l = record { before = λ i h. agreeing i (each_at (length table) 0 (same_at cells table) q i (omega arith) (omega arith)); there = inr (p, l) }

  stops_there : (nr place : ℕ) → refuse nr place ≡ each (length table) 0 (same_at cells table) → (nr ≡ 12) × Differs cells table place
  stops_there nr place e =
      let s = each_stops (length table) 0 (same_at cells table) nr place e in
      let r = not_kept (one s.at) 12 s.at nr place s.refused in
      let p = r.2 in
      let h = s.below in
      (r.1, rw p (record { before = λ i h. agreeing i (s.fine_before i (omega arith) h); there = inl (omega arith, eqb-false _ _ r.0) }))

  pub refused_there : (nr place : ℕ) → refuse nr place ≡ agree cells table → (nr ≡ 12) × Differs cells table place
  unfolding agree
  refused_there nr place e = go (each (length table) 0 (same_at cells table)) refl e
    where
      go : (x : Check) → each (length table) 0 (same_at cells table) ≡ x → refuse nr place ≡ (x >>= λ _. require (leb (length cells) (length table)) 12 (length table)) → (nr ≡ 12) × Differs cells table place
      go (accept u) q e =
          let r = not_kept (leb (length cells) (length table)) 12 (length table) nr place e in
          (r.1, short_there place (sym q) r.2 (leb-false _ _ r.0))
      go (refuse a b) q e = stops_there nr place (e ∙ sym q)

  later : (p q : ℕ) → Differs cells table p → Differs cells table q → p < q → ⊥
  later p q a b h = ⊎_elim (λ l. l.1 (b.before p h)) (λ l. let k = l.0 in ⊎_elim (λ m. let n = m.0 in omega arith) (λ m. let n = m.0 in omega arith) b.there) a.there

  same_place : (p q : ℕ) → Differs cells table p → Differs cells table q → p ≡ q
  same_place p q a b = go (ltb p q) refl (ltb q p) refl
    where
      go : (x : Bool) → ltb p q ≡ x → (y : Bool) → ltb q p ≡ y → p ≡ q
      go true h y k = absurd (later p q a b (ltb-true p q h))
      go false h true k = absurd (later q p b a (ltb-true q p k))
      go false h false k = let l = ltb-false p q h in let m = ltb-false q p k in omega arith

  not_fine : (p : ℕ) → Differs cells table p → fine ≡ agree cells table → ⊥
  not_fine p d e = ⊎_elim (λ l. l.1 (same_cell cells table e p l.0)) (λ l. let m = l.1 in let k = long_enough cells table e in omega arith) d.there

  pub there_refused : (place : ℕ) → Differs cells table place → refuse 12 place ≡ agree cells table
  there_refused place d = go (agree cells table) refl
    where
      go : (x : Check) → x ≡ agree cells table → refuse 12 place ≡ x
      go (accept u) q = absurd (not_fine place d q)
      go (refuse nr p) q =
          let r = refused_there nr p q in
          let n = r.0 in
          let z = same_place place p d r.1 in
          rw (n, z) refl

-- ---- of a handed table

module _ (s table : List ℕ) (w : Whole) (r : accept w ≡ read_pool s no_limit) (place : ℕ) where
  twelve_back : Differs w.pool.cells table place → refuse 12 place ≡ handed s table
  unfolding handed judged
  twelve_back d = rw (← r, ← there_refused w.pool.cells table place d) refl

  no_check : refuse 12 place ≡ checked w.pool → ⊥
  no_check e = let b = bounds 6 11 (checked_only w.pool) refl 12 place e in let l = b.1 in omega arith

  into : (x : Check) → refuse 12 place ≡ ((x >>= λ _. checked w.pool) >>= λ _. accept w) → x ≡ agree w.pool.cells table → Differs w.pool.cells table place
  into (refuse a b) e q =
      let n : 12 ≡ a = cc in
      let p : place ≡ b = cc in
      (refused_there w.pool.cells table 12 place (rw (n, p) q)).1
  into (accept u) e q = absurd (go (checked w.pool) refl e)
    where
      go : (y : Check) → y ≡ checked w.pool → refuse 12 place ≡ (y >>= λ _. accept w) → ⊥
      go (accept u) q e = never (sym e)
      go (refuse a b) q e =
          let n : 12 ≡ a = cc in
          let p : place ≡ b = cc in
          no_check (rw (n, p) q)

  twelve_to : refuse 12 place ≡ handed s table → Differs w.pool.cells table place
  unfolding handed judged
  twelve_to e = into (agree w.pool.cells table) (e ∙ rw (← r) refl) refl

  pub twelve : (refuse 12 place ≡ handed s table) ↔ Differs w.pool.cells table place
  twelve = (twelve_to, twelve_back)
