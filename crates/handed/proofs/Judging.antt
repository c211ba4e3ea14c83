-- From what the parts of `check_handed` answer to what `handed` does. Assumes nothing.
use mathlib.Core.Path.{◌≡◌, refl, ap, sym, ◌∙◌}
use mathlib.Core.Bool.{Bool, true, false, cond}
use mathlib.Core.List.{List, [], ◌∷◌}
use Prim.Native.Nat.{ℕ, zero, suc, ◌+◌, ◌-◌, ◌≤◌, ◌<◌}
use native.Mathlib.Omega.{arith}
use native.Mathlib.Nat.{sub-zero}
use native.Mathlib.Numerals.{add-one}
use lib.ListN.{length, get_or, get_or-eq_default}
use lib.Dec.{leb, ltb, eqb}
use borrow.Author.Tests.{le-leb, leb-true, leb-false, ltb-true, ltb-false, eq-eqb, ne_eqb, eqb-true, eqb-false}
use Rattle.reads.specs.Answer.{Check, fine, accept, refuse, ◌>>=◌, require, each, mapped}
use Rattle.reads.proofs.Answers.{alike, whole_only, refused_of, each_go, each_stop, each_done}
use Rattle.pool.specs.declared.Header.{Header}
use Rattle.pool.specs.Pool.{Whole, Read, header_of, all_entries, whole_of, read_pool, seen}
use Rattle.pool.specs.Readings.{head_of}
use Rattle.checks.specs.Checks.{checked}
use Rattle.handed.specs.declared.Walked.{Walked}
use Rattle.handed.specs.Handed.{agree, judged, no_limit, handed}
use Rattle.handed.specs.Walk.{agreeing, walked_of, rest, judged_as}
use Rattle.handed.proofs.Handed.{same_at, differs, short, agreed}

-- ---- how many cells agree

at_most : (cells table : List ℕ) → (agreeing cells table ≤ length cells) × (agreeing cells table ≤ length table)
unfolding agreeing
at_most [] table = (omega arith, omega arith)
at_most (c ∷ cells) [] = (omega arith, omega arith)
at_most (c ∷ cells) (t ∷ table) = by_cell (at_most cells table) (eqb t c)
  where
    by_cell : (agreeing cells table ≤ length cells) × (agreeing cells table ≤ length table) → (b : Bool) → (cond b (suc (agreeing cells table)) 0 ≤ suc (length cells)) × (cond b (suc (agreeing cells table)) 0 ≤ suc (length table))
    by_cell h true = (omega arith, omega arith)
    by_cell h false = (omega arith, omega arith)

below : (cells table : List ℕ) (i : ℕ) → i < agreeing cells table → get_or table i 0 ≡ get_or cells i 0
unfolding agreeing
below [] table i h = absurd (omega arith)
below (c ∷ cells) [] i h = absurd (omega arith)
below (c ∷ cells) (t ∷ table) i h = by_cell (below cells table) (eqb t c) refl i h
  where
    by_cell : ((i : ℕ) → i < agreeing cells table → get_or table i 0 ≡ get_or cells i 0) → (b : Bool) → eqb t c ≡ b → (i : ℕ) → i < cond b (suc (agreeing cells table)) 0 → get_or (t ∷ table) i 0 ≡ get_or (c ∷ cells) i 0
    by_cell f true e zero h = eqb-true t c e
    by_cell f true e (suc i) h = f i (omega arith)
    by_cell f false e i h = absurd (omega arith)

stop : (cells table : List ℕ) → agreeing cells table < length cells → agreeing cells table < length table → get_or table (agreeing cells table) 0 ≡ get_or cells (agreeing cells table) 0 → ⊥
unfolding agreeing
stop [] table h l = absurd (omega arith)
stop (c ∷ cells) [] h l = absurd (omega arith)
stop (c ∷ cells) (t ∷ table) h l = by_cell (stop cells table) (eqb t c) refl h l
  where
    by_cell : (agreeing cells table < length cells → agreeing cells table < length table →
        get_or table (agreeing cells table) 0 ≡ get_or cells (agreeing cells table) 0 → ⊥) → (b : Bool) → eqb t c ≡ b → cond b (suc (agreeing cells table)) 0 < suc (length cells) → cond b (suc (agreeing cells table)) 0 <
        suc (length table)
        → get_or (t ∷ table) (cond b (suc (agreeing cells table)) 0) 0 ≡ get_or (c ∷ cells) (cond b (suc (agreeing cells table)) 0) 0 → ⊥
    by_cell f true e h l = f (omega arith) (omega arith)
    by_cell f false e h l = eqb-false t c e

-- ---- a loop of checks: its first turns fine, other checks that do the same

each_run : (k a : ℕ) (f : ℕ → Check) → a ≤ k → ((i : ℕ) → i < a → fine ≡ f i) → each k 0 f ≡ each (k - a) a f
each_run k zero f h g = simp sub-zero refl
each_run k (suc a) f h g = each_run k a f (omega arith) (λ i l. g i (omega arith)) ∙ each_go k a f (omega arith) (g a (omega arith)) ∙ simp add-one refl

each_same : (k i : ℕ) (f g : ℕ → Check) → ((n : ℕ) → i ≤ n → f n ≡ g n) → each k i f ≡ each k i g
unfolding each
each_same zero i f g h = refl
each_same (suc k) i f g h = rw (h i (omega arith), each_same k (i + 1) f g (λ n l. h n (omega arith))) refl

last_fine : (x : Check) → (x >>= λ _. fine) ≡ x
last_fine (accept _) = refl
last_fine (refuse nr place) = refl

-- ---- 12

module _ (cells table : List ℕ) where
  run : each (length table) 0 (same_at cells table) ≡ each (length table - agreeing cells table) (agreeing cells table) (same_at cells table)
  run = each_run (length table) (agreeing cells table) (same_at cells table) (at_most cells table).1 (λ i h. rw (eq-eqb _ _ (below cells table i h)) refl)

  off : agreeing cells table < length cells → refuse 12 (agreeing cells table) ≡ agree cells table
  off h = by_length (ltb (agreeing cells table) (length table)) refl
    where
      by_length : (b : Bool) → ltb (agreeing cells table) (length table) ≡ b → refuse 12 (agreeing cells table) ≡ agree cells table
      by_length true e =
          let l = ltb-true _ _ e in
          differs cells table 12 _ (run ∙ each_stop _ _ _ 12 _ l (sym (rw (ne_eqb _ _ (stop cells table h l)) refl)))
      by_length false e =
          let l : length table ≤ agreeing cells table = ltb-false _ _ e in
          let q : agreeing cells table ≡ length table = omega (arith, (at_most cells table).1) in
          rw q (short cells table (run ∙ each_done _ _ _ l) (rw q at h))

  on : length cells ≤ agreeing cells table → agree cells table ≡ rest table (length cells)
  unfolding agree rest
  on h =
      let q : agreeing cells table ≡ length cells = omega (arith, (at_most cells table).0) in
      let l : length cells ≤ length table = omega (arith, (at_most cells table).1) in
      let r = run ∙ ap (λ (n : ℕ). each (length table - n) n (same_at cells table)) q in
      rw (r, le-leb _ _ l) (last_fine _ ∙ each_same (length table - length cells) (length cells) (same_at cells table) _ (λ n m. ap (λ (x : ℕ). require (eqb (get_or table n 0) x) 12 n) (get_or-eq_default cells 0 m)))

-- ---- 12, then the pool's checks

module _ (s : List ℕ) (major : ℕ) (cells table : List ℕ) where
  its_judged : judged_as s major table (length cells) (agreeing cells table) ≡ judged (record { file = s; major = major; cells = cells }) table
  unfolding judged_as judged
  its_judged = by_test (leb (length cells) (agreeing cells table)) refl
    where
      by_test : (b : Bool) → leb (length cells) (agreeing cells table) ≡ b
          → (require b 12 (agreeing cells table) >>= λ _. rest table (length cells) >>= λ _. checked (seen s major table (length cells))) ≡ (agree cells table >>= λ _. checked (record { file = s; major = major; cells = cells }))
      by_test true e =
          rw (← on cells table (leb-true _ _ e))
          (alike (agree cells table) _ _ (λ _ g. ap (λ (l : List ℕ). checked (record { file = s; major = major; cells = l })) (agreed cells table g)))
      by_test false e = rw (← off cells table (leb-false _ _ e)) refl

-- ---- the whole

head_after : (x : Check) (w : Whole) → mapped head_of (x >>= λ _. accept w) ≡ (x >>= λ _. accept (head_of w))
head_after (accept _) w = refl
head_after (refuse nr place) w = refl

module _ (s table : List ℕ) where
  pub no_header : (nr place : ℕ) → refuse nr place ≡ header_of s → refuse nr place ≡ mapped head_of (handed s table)
  unfolding handed read_pool
  no_header nr place e = rw (← e) refl

  module _ (h : Header) (e : accept h ≡ header_of s) where
    pub not_walked : (nr place : ℕ) → refuse nr place ≡ mapped (walked_of table) (all_entries s h.major h.count no_limit) → refuse nr place ≡ mapped head_of (handed s table)
    unfolding handed read_pool
    not_walked nr place q = rw (← e, ← refused_of (walked_of table) (all_entries s h.major h.count no_limit) nr place q) refl

    -- what is judged is the pool that was read
    from_read : (r : Read) → accept r ≡ all_entries s h.major h.count no_limit → (x : Check) → x ≡ judged_as s h.major table (length r.cells) (agreeing r.cells table)
        → mapped head_of (handed s table) ≡ (x >>= λ _. accept (head_of (whole_of s h r)))
    unfolding handed read_pool
    from_read r a x j =
        let k = j ∙ its_judged s h.major r.cells table in
        rw (← e, ← a, ← k) (head_after x (whole_of s h r))

    module _ (w : Walked) (q : accept w ≡ mapped (walked_of table) (all_entries s h.major h.count no_limit)) where
      judges : (x : Check) → x ≡ judged_as s h.major table w.slots w.same → mapped head_of (handed s table) ≡ (x >>= λ _. accept (record { slots = w.slots; minor = h.minor; major = h.major; next = w.next }))
      judges x j =
          let r = whole_only (walked_of table) (all_entries s h.major h.count no_limit) w q in
          from_read r.0 r.1 x (j ∙ sym (ap (λ (v : Walked). judged_as s h.major table v.slots v.same) r.2))
          ∙ ap (λ (v : Walked). x >>= λ _. accept (record { slots = v.slots; minor = h.minor; major = h.major; next = v.next })) r.2

      pub good : fine ≡ judged_as s h.major table w.slots w.same → accept (record { slots = w.slots; minor = h.minor; major = h.major; next = w.next }) ≡ mapped head_of (handed s table)
      good j = sym (judges fine j)

      pub bad : (nr place : ℕ) → refuse nr place ≡ judged_as s h.major table w.slots w.same → refuse nr place ≡ mapped head_of (handed s table)
      bad nr place j = sym (judges (refuse nr place) j)
