-- A loop that judges records in order and stores a number of each in a column: one turn, and its ends. Assumes nothing.
use mathlib.Core.Path.{◌≡◌, refl, ap, sym, ◌∙◌}
use mathlib.Core.List.{List, [], ◌∷◌, ◌++◌, append_assoc}
use Prim.Native.Nat.{ℕ, zero, suc, ◌+◌, ◌-◌, ◌≤◌, ◌<◌}
use native.Mathlib.Omega.{arith}
use native.Mathlib.Numerals.{add-one}
use lib.ListN.{length, set, replicate, take, drop, length-set}
use lib.Seq.{sets, sets-eq, length-sets, drop_at, length-take-le, take-append_seam, take-set-le}
use Rattle.reads.specs.Answer.{Answer, accept, refuse, ◌>>=◌, mapped}
use Rattle.reads.specs.Records.{Many, records, placed, column, stored}
use Rattle.reads.proofs.Answers.{same, first}

-- one record more, in front of the rest
abbrev pub ahead : {R S : Type 0} → R → Answer (Many R S) → Answer (Many R S)
ahead r x = x >>= λ rest. accept (record { list = r ∷ rest.list; end = rest.end })

ahead_end : {R S : Type 0} (r : R) (x : Answer (Many R S)) → mapped (λ m. m.end) (ahead r x) ≡ mapped (λ m. m.end) x
ahead_end r (accept m) = refl
ahead_end r (refuse nr place) = refl

ahead_column : {R S : Type 0} (f : R → ℕ) (t : List ℕ) (n : ℕ) (r : R) (x : Answer (Many R S)) → stored (column f) t n (ahead r x) ≡ stored (column f) (set t n (f r)) (n + 1) x
unfolding placed
ahead_column f t n r (accept m) = refl
ahead_column f t n r (refuse nr place) = simp length-set

module _ {R S : Type 0} (judge : ℕ → S → Answer R) (reach : R → S → S) (left n : ℕ) (s : S) where
  go : (k : ℕ) (r : R) → accept r ≡ judge n s → records judge reach (suc k) n s ≡ ahead r (records judge reach k (n + 1) (reach r s))
  unfolding records
  go k r e = rw (← e)

  pub step : (r : R) → 0 < left → accept r ≡ judge n s → records judge reach left n s ≡ ahead r (records judge reach (left - 1) (n + 1) (reach r s))
  step r h e =
      let k : left ≡ suc (left - 1) = omega arith in
      ap (λ (j : ℕ). records judge reach j n s) k ∙ go (left - 1) r e

  -- a record that was judged good: the answer, and a column in which its number is stored
  pub turn_end : (r : R) → 0 < left → accept r ≡ judge n s → mapped (λ m. m.end) (records judge reach (left - 1) (n + 1) (reach r s)) ≡ mapped (λ m. m.end) (records judge reach left n s)
  turn_end r h e = sym (ap (mapped (λ m. m.end)) (step r h e) ∙ ahead_end r (records judge reach (left - 1) (n + 1) (reach r s)))

  pub turn_column : (f : R → ℕ) (t : List ℕ) (r : R) → 0 < left → accept r ≡ judge n s → stored (column f) (set t n (f r)) (n + 1) (records judge reach (left - 1) (n + 1) (reach r s)) ≡ stored (column f) t n (records judge reach left n s)
  turn_column f t r h e = sym (ap (stored (column f) t n) (step r h e) ∙ ahead_column f t n r (records judge reach (left - 1) (n + 1) (reach r s)))

  -- one that was refused
  pub stop : (nr place : ℕ) → 0 < left → refuse nr place ≡ judge n s → refuse nr place ≡ records judge reach left n s
  unfolding records
  stop nr place h e =
      let k : left ≡ suc (left - 1) = omega arith in
      rw (k, ← e)

  -- no record is left
  pub done : left ≡ 0 → accept (record { list = []; end = s }) ≡ records judge reach left n s
  unfolding records
  done e = rw e

-- the columns where the loop ends: as they are, or zeros
pub column_stop : {X : Type 0} (holds : X → List ℕ) (t : List ℕ) (n : ℕ) (x : Answer X) (nr place : ℕ) → refuse nr place ≡ x → replicate (length t) 0 ≡ stored holds t n x
column_stop holds t n x nr place e = rw (← e)

pub column_done : {R S : Type 0} (f : R → ℕ) (t : List ℕ) (n : ℕ) (s : S) (x : Answer (Many R S)) → accept (record { list = []; end = s }) ≡ x → t ≡ stored (column f) t n x
unfolding placed
column_done f t n s x e = rw (← e)

-- ---- all

-- as many records as were asked for
pub made : {R S : Type 0} (judge : ℕ → S → Answer R) (reach : R → S → S) (k n : ℕ) (s : S) (m : Many R S) → accept m ≡ records judge reach k n s → length m.list ≡ k
unfolding records
made judge reach zero n s m e = ap (λ (x : Many _ _). length x.list) (same e)
made judge reach (suc k) n s m e =
    let t = first (judge n s) _ m e in
    let u = first (records judge reach k (n + 1) (reach t.0 s)) _ m t.2 in
    ap (λ (x : Many _ _). length x.list) (same u.2) ∙ ap suc (made judge reach k (n + 1) (reach t.0 s) u.0 u.1)

-- each has its room, where each that is judged good has
pub roomy : {R S : Type 0} (judge : ℕ → S → Answer R) (reach : R → S → S) (room : ℕ) → ((n : ℕ) (s : S) (r : R) → accept r ≡ judge n s → n < room)
    → (k n : ℕ) (s : S) (m : Many R S) → accept m ≡ records judge reach k n s → n ≤ room → n + k ≤ room
unfolding records
roomy judge reach room fits zero n s m e h = omega arith
roomy judge reach room fits (suc k) n s m e h =
    let t = first (judge n s) _ m e in
    let u = first (records judge reach k (n + 1) (reach t.0 s)) _ m t.2 in
    let f = fits n s t.0 t.1 in
    let r = roomy judge reach room fits k (n + 1) (reach t.0 s) u.0 u.1 (omega arith) in
    omega arith

-- ---- what is placed can be read again, and nothing grows

placed_sets : (t : List ℕ) (n : ℕ) (xs : List ℕ) → placed t n xs ≡ sets t n xs
unfolding placed
placed_sets t n [] = refl
placed_sets t n (x ∷ xs) = placed_sets (set t n x) (n + 1) xs ∙ ap (λ (k : ℕ). sets (set t n x) k xs) (add-one n)

pub placed_length : (t : List ℕ) (n : ℕ) (xs : List ℕ) → length (placed t n xs) ≡ length t
placed_length t n xs = ap length (placed_sets t n xs) ∙ length-sets t n xs

pub placed_part : (t : List ℕ) (n : ℕ) (xs : List ℕ) → n + length xs ≤ length t → take (length xs) (drop n (placed t n xs)) ≡ xs
placed_part t n xs h =
    ap (λ (l : List ℕ). take (length xs) (drop n l)) (placed_sets t n xs ∙ sets-eq xs t n h ∙ append_assoc (take n t) xs (drop (n + length xs) t))
    ∙ ap (λ (l : List ℕ). take (length xs) l) (drop_at (take n t) (xs ++ drop (n + length xs) t) n (length-take-le n t (omega arith)))
    ∙ take-append_seam xs (drop (n + length xs) t)

-- the cells before those that are placed stay
pub placed_before : (t : List ℕ) (n : ℕ) (xs : List ℕ) → take n (placed t n xs) ≡ take n t
unfolding placed
placed_before t n [] = refl
placed_before t n (x ∷ xs) = shorter n (n + 1) (omega arith) _ _ (placed_before (set t n x) (n + 1) xs) ∙ take-set-le n t n x (omega arith)
  where
    shorter : (a b : ℕ) → a ≤ b → (l m : List ℕ) → take b l ≡ take b m → take a l ≡ take a m
    shorter zero b h l m e = refl
    shorter (suc a) zero h l m e = absurd (omega arith)
    shorter (suc a) (suc b) h [] [] e = refl
    shorter (suc a) (suc b) h [] (y ∷ m) e = absurd (let z : ◌≡◌ {A = ℕ} 0 1 = cc in omega arith)
    shorter (suc a) (suc b) h (x ∷ l) [] e = absurd (let z : ◌≡◌ {A = ℕ} 0 1 = cc in omega arith)
    shorter (suc a) (suc b) h (x ∷ l) (y ∷ m) e =
        let r : take a l ≡ take a m = shorter a b (omega arith) l m (cc) in
        cc
