-- The loop that compares a handed table while the entries are read: what holds so far, one turn, and its ends. Assumes nothing.
use mathlib.Core.Path.{◌≡◌, refl, ap, sym, ◌∙◌}
use mathlib.Core.Bool.{Bool, true, false, cond}
use mathlib.Core.List.{List, [], ◌∷◌, ◌++◌}
use Prim.Native.Nat.{ℕ, suc, ◌+◌, ◌-◌, ◌≤◌, ◌<◌, max}
use native.Mathlib.Omega.{arith}
use lib.ListN.{length, get_or, length-append}
use lib.Dec.{leb, ltb, eqb, leb-suc-suc}
use borrow.Author.Tests.{lt-ltb, lt-leb}
use Rattle.reads.specs.Answer.{Answer, accept, refuse, ◌>>=◌, mapped}
use Rattle.pool.specs.declared.Slot.{Slot}
use Rattle.pool.specs.Pool.{slot_at, entries, all_entries}
use Rattle.handed.specs.declared.Walked.{Walked}
use Rattle.handed.specs.Handed.{no_limit}
use Rattle.handed.specs.Walk.{agreeing, onward, walked_of}

-- ---- one cell more

pick_suc : (a b c : Bool) (m n : ℕ) → cond a (suc m) (cond b (suc m) (cond c (suc n + 1) (suc m))) ≡ suc (cond a m (cond b m (cond c (n + 1) m)))
pick_suc true b c m n = refl
pick_suc false true c m n = refl
pick_suc false false true m n = omega arith
pick_suc false false false m n = refl

onward_suc : (t : ℕ) (table : List ℕ) (same n x : ℕ) → onward (t ∷ table) (suc same) (suc n) x ≡ suc (onward table same n x)
unfolding onward
onward_suc t table same n x =
    rw (leb-suc-suc (suc same) n, leb-suc-suc (length table) n) (pick_suc (ltb same n) (leb (length table) n) (eqb (get_or table n 0) x) same n)

pub agreeing_more : (cells table : List ℕ) (x : ℕ) → agreeing (cells ++ x ∷ []) table ≡ onward table (agreeing cells table) (length cells) x
unfolding agreeing onward
agreeing_more [] [] x = refl
agreeing_more [] (t ∷ table) x = rw (lt-leb (suc (length table)) 0 (omega arith)) refl
agreeing_more (c ∷ cells) [] x = rw (lt-ltb 0 (suc (length cells)) (omega arith)) refl
agreeing_more (c ∷ cells) (t ∷ table) x = by_cell (agreeing_more cells table x) (eqb t c)
  where
    by_cell : agreeing (cells ++ x ∷ []) table ≡ onward table (agreeing cells table) (length cells) x → (b : Bool) → cond b (suc (agreeing (cells ++ x ∷ []) table)) 0 ≡ onward (t ∷ table) (cond b (suc (agreeing cells table)) 0) (suc (length cells)) x
    by_cell more true = ap suc more ∙ sym (onward_suc t table (agreeing cells table) (length cells) x)
    by_cell more false = rw (lt-ltb 0 (suc (length cells)) (omega arith)) refl

-- ---- the loop

module _ (s : List ℕ) (major count : ℕ) (table : List ℕ) where
  abbrev pub Answers : Answer Walked → Type 0
  Answers x = x ≡ mapped (walked_of table) (all_entries s major count no_limit)

  -- `cells` are those of the slots below n, and from there the rest goes on as from the start
  pub record Sofar (n at : ℕ) (owed : Bool) (same : ℕ) : Type 0 where
    pub cells : List ℕ
    pub made : length cells ≡ n
    pub few : n < no_limit
    pub within : n ≤ max count 1
    pub alike : same ≡ agreeing cells table
    pub rest : entries (count - n) owed s major no_limit cells at ≡ all_entries s major count no_limit

  pub begin : (same : ℕ) → same ≡ onward table 0 0 0 → Sofar 1 10 false same
  unfolding all_entries agreeing
  begin same e = record {
    cells = 0 ∷ [];
    made = refl;
    few = omega arith;
    within = omega arith;
    alike = e ∙ sym (agreeing_more [] table 0);
    rest = refl;
  }

  module _ (n at : ℕ) (owed : Bool) (same : ℕ) (v : Sofar n at owed same) where
    -- one turn of the definition
    step : n < count → all_entries s major count no_limit ≡ (slot_at s major no_limit n owed at >>= λ e. entries (count - (n + 1)) e.wide s major no_limit (v.cells ++ e.cell ∷ []) e.next)
    unfolding entries
    step h =
        let k : count - n ≡ suc (count - (n + 1)) = omega arith in
        sym v.rest ∙ rw (k, v.made)

    -- the cell of slot n was compared
    compared : (x same' : ℕ) → same' ≡ onward table same n x → same' ≡ agreeing (v.cells ++ x ∷ []) table
    compared x same' e = e ∙ rw (v.alike, ← v.made) (sym (agreeing_more v.cells table x))

    pub turn : (e : Slot) (same' : ℕ) → count < no_limit → n < count → accept e ≡ slot_at s major no_limit n owed at → same' ≡ onward table same n e.cell → Sofar (n + 1) e.next e.wide same'
    turn e same' l h a q =
        let m = v.made in
        record {
          cells = v.cells ++ e.cell ∷ [];
          made = simp (length-append, m);
          few = omega arith;
          within = omega arith;
          alike = compared e.cell same' q;
          rest = sym (simp (← a) at (step h));
        }

    pub stopped : (nr place : ℕ) → n < count → refuse nr place ≡ slot_at s major no_limit n owed at → Answers (refuse nr place)
    stopped nr place h a = rw (step h, ← a) refl

    abbrev walked : ℕ → ℕ → Answer Walked
    walked k x = accept (record { slots = k; next = at; same = x })

    -- an Unused past the count
    pub last : (same' : ℕ) → count ≤ n → owed ≡ true → same' ≡ onward table same n 0 → Answers (walked (n + 1) same')
    unfolding entries
    last same' h o q =
        let k : count - n ≡ 0 = omega arith in
        let m = v.made in
        let f : length v.cells < no_limit = omega (arith, v.few) in
        let l : n + 1 ≡ length (v.cells ++ 0 ∷ []) = sym (simp (length-append, m)) in
        rw (← v.rest, k, o, lt-ltb (length v.cells) no_limit f) (ap (λ (j : ℕ). walked j same') l ∙ ap (walked _) (compared 0 same' q))

    pub done : count ≤ n → owed ≡ false → Answers (walked n same)
    unfolding entries
    done h o =
        let k : count - n ≡ 0 = omega arith in
        rw (← v.rest, k, o) (ap (λ (j : ℕ). walked j same) (sym v.made) ∙ ap (walked _) v.alike)
