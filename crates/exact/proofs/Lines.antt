-- What is said of the refusals of a `do`, line by line, and where a list of checks or of records stops. Assumes nothing.
use mathlib.Core.Path.{◌≡◌, refl, sym, ap, subst}
use mathlib.Core.Bool.{Bool, true, false, cond}
use mathlib.Core.List.{List, [], ◌∷◌}
use Prim.Native.Nat.{ℕ, zero, suc, ◌+◌, ◌≤◌, ◌<◌}
use native.Mathlib.Omega.{arith}
use lib.ListN.{length}
use lib.Dec.{leb, eqb}
use borrow.Author.Tests.{leb-true, eqb-true, eqb-false}
use Rattle.reads.specs.Answer.{Answer, Check, fine, accept, refuse, ◌>>=◌, require, each}
use Rattle.reads.specs.Bytes.{num2, within, u2}
use Rattle.reads.proofs.Answers.{never}
use Rattle.reads.specs.Records.{Many, records}
use Rattle.bootstrap.specs.Bootstrap.{steps}
use Rattle.exact.specs.Stops.{FirstAt, Stop}

-- ---- P holds of a refusal's number and place

pub record Refuses {A : Type 0} (P : ℕ → ℕ → Type 0) (x : Answer A) : Type 0 where
  pub with : (nr place : ℕ) → refuse nr place ≡ x → P nr place

module _ {P : ℕ → ℕ → Type 0} where
  pub done : {A : Type 0} (a : A) → Refuses P (accept a)
  done a = record { with = λ nr place e. absurd (never (sym e)) }

  pub refusal : {A : Type 0} (nr place : ℕ) → P nr place → Refuses {A = A} P (refuse nr place)
  refusal nr place h = record {
    with = λ n q e.
        let y : n ≡ nr = cc in
        let z : q ≡ place = cc in
        rw (y, z) h;
  }

  pub then : {A B : Type 0} (x : Answer A) (f : A → Answer B) → Refuses P x → ((a : A) → accept a ≡ x → Refuses P (f a)) → Refuses P (x >>= f)
  then (accept a) f p q = q a refl
  then (refuse nr place) f p q = refusal nr place (p.with nr place refl)

  -- a required test: P holds where it fails, and the rest goes on from that it holds
  pub need : (t : Bool) (nr place : ℕ) → (t ≡ false → P nr place) → Refuses P (require t nr place)
  need true nr place h = done tt
  need false nr place h = refusal nr place (h refl)

  pub pick : {A : Type 0} (t : Bool) (x y : Answer A) → (t ≡ true → Refuses P x) → (t ≡ false → Refuses P y) → Refuses P (cond t x y)
  pick true x y p q = p refl
  pick false x y p q = q refl

  -- the same, and what follows
  pub need_then : {B : Type 0} (t : Bool) (nr place : ℕ) (f : Unit {0} → Answer B) → (t ≡ false → P nr place) → (t ≡ true → Refuses P (f tt)) → Refuses P (require t nr place >>= f)
  need_then true nr place f h g = g refl
  need_then false nr place f h g = refusal nr place (h refl)

  -- a u2 that is read, and what follows
  pub read_then : {B : Type 0} (s : List ℕ) (at : ℕ) (f : ℕ → Answer B) → P 2 at → (at + 2 ≤ length s → Refuses P (f (num2 s at))) → Refuses P (u2 s at >>= f)
  unfolding u2 within
  read_then s at f h g = go (leb (at + 2) (length s)) refl
    where
      go : (t : Bool) → leb (at + 2) (length s) ≡ t → Refuses P ((require t 2 at >>= λ _. accept (num2 s at)) >>= f)
      go true q = g (leb-true _ _ q)
      go false q = refusal 2 at h

  pub all : (k i : ℕ) (f : ℕ → Check) → ((n : ℕ) → Refuses P (f n)) → Refuses P (each k i f)
  unfolding each
  all zero i f h = done tt
  all (suc k) i f h = then (f i) _ (h i) (λ _ _. all k (i + 1) f h)

  pub stepped : (step : ℕ → Answer ℕ) (k i : ℕ) → ((n : ℕ) → Refuses P (step n)) → Refuses P (steps step k i)
  unfolding steps
  stepped step zero i h = done i
  stepped step (suc k) i h = then (step i) _ (h i) (λ next _. stepped step k next h)

pub weaken : {A : Type 0} {P Q : ℕ → ℕ → Type 0} {x : Answer A} → ((nr place : ℕ) → P nr place → Q nr place) → Refuses P x → Refuses Q x
weaken f p = record { with = λ nr place e. f nr place (p.with nr place e) }

-- the same refusal, of another answer
pub moved : {A B : Type 0} {nr place n p : ℕ} (x : Answer A) → ◌≡◌ {A = Answer B} (refuse nr place) (refuse n p) → x ≡ refuse n p → refuse nr place ≡ x
moved {nr = nr} {place = place} {n = n} {p = p} x e q =
    let y : nr ≡ n = cc in
    let z : place ≡ p = cc in
    rw (y, z) (sym q)

-- a required test that failed
pub failed : (t : Bool) (n p nr place : ℕ) → refuse nr place ≡ require t n p → (t ≡ false) × (nr ≡ n) × (place ≡ p)
failed true n p nr place e = absurd (never (sym e))
failed false n p nr place e = (refl, cc, cc)

-- ---- where a loop of checks stops, each of which refuses at its own number

abbrev AtOwn : (ℕ → Check) → Type 0
AtOwn f = (n : ℕ) → Refuses (λ nr place. place ≡ n) (f n)

record From (f : ℕ → Check) (i k nr place : ℕ) : Type 0 where
  low : i ≤ place
  high : place < i + k
  before : (n : ℕ) → i ≤ n → n < place → fine ≡ f n
  there : refuse nr place ≡ f place

from_to : (f : ℕ → Check) → AtOwn f → (k i nr place : ℕ) → refuse nr place ≡ each k i f → From f i k nr place
unfolding each
from_to f own zero i nr place e = absurd (never (sym e))
from_to f own (suc k) i nr place e = go (f i) refl e (from_to f own k (i + 1) nr place)
  where
    first_fine : (u : Unit {0}) → f i ≡ accept u → (s : From f (i + 1) k nr place) (n : ℕ) → i ≤ n → n < place → (t : Bool) → eqb n i ≡ t → fine ≡ f n
    first_fine u q s n h l true t = let z = eqb-true n i t in rw z (sym q)
    first_fine u q s n h l false t = let d = eqb-false n i t in s.before n (omega arith) l

    go : (x : Check) → f i ≡ x → refuse nr place ≡ (x >>= λ _. each k (i + 1) f) → (refuse nr place ≡ each k (i + 1) f → From f (i + 1) k nr place) → From f i (suc k) nr place
    go (accept u) q e later =
        let s = later e in
        let a = s.low in
        let b = s.high in
        record { low = omega arith; high = omega arith; before = λ n h l. first_fine u q s n h l (eqb n i) refl; there = s.there }
    go (refuse a b) q e later =
        let r = moved (f i) e q in
        let z = (own i).with nr place r in
        record { low = omega arith; high = omega arith; before = λ n h l. absurd (omega arith); there = subst (λ (m : ℕ). refuse nr place ≡ f m) (sym z) r }

from_back : (f : ℕ → Check) (k i nr place : ℕ) → From f i k nr place → refuse nr place ≡ each k i f
unfolding each
from_back f zero i nr place s = let a = s.low in let b = s.high in absurd (omega arith)
from_back f (suc k) i nr place s = go (eqb i place) refl (from_back f k (i + 1) nr place)
  where
    go : (t : Bool) → eqb i place ≡ t → (From f (i + 1) k nr place → refuse nr place ≡ each k (i + 1) f) → refuse nr place ≡ (f i >>= λ _. each k (i + 1) f)
    go true q later = let z = eqb-true i place q in rw (z, ← s.there) refl
    go false q later =
        let d = eqb-false i place q in
        let a = s.low in
        let b = s.high in
        rw (← s.before i (omega arith) (omega arith)) (later (record { low = omega arith; high = omega arith; before = λ n h l. s.before n (omega arith) l; there = s.there }))

module _ (f : ℕ → Check) (k nr place : ℕ) where
  pub first_to : AtOwn f → refuse nr place ≡ each k 0 f → FirstAt f k nr place
  first_to own e =
      let s = from_to f own k 0 nr place e in
      let h = s.high in
      record { slot = omega arith; before = λ n l. s.before n (omega arith) l; there = s.there }

  pub first_back : FirstAt f k nr place → refuse nr place ≡ each k 0 f
  first_back s =
      let h = s.slot in
      from_back f k 0 nr place (record { low = omega arith; high = omega arith; before = λ n _ l. s.before n l; there = s.there })

-- ---- where records stop

module _ {R S : Type 0} (judge : ℕ → S → Answer R) (reach : R → S → S) where
  abbrev cons : R → Many R S → Many R S
  cons r m = record { list = r ∷ m.list; end = m.end }

  pub stop_map : {F G : ℕ → S → Type 0} (k n : ℕ) (s : S) → ((m : ℕ) (t : S) → F m t → G m t) → Stop judge reach k n s F → Stop judge reach k n s G
  stop_map k n s f h = record { good = h.good; fewer = h.fewer; before = h.before; judged = h.judged; fault = f (n + h.good) h.before.end h.fault }

  -- another fault of the same record
  pub stop_put : {F G : ℕ → S → Type 0} (k n : ℕ) (s : S) (h : Stop judge reach k n s F) → G (n + h.good) h.before.end → Stop judge reach k n s G
  stop_put k n s h g = record { good = h.good; fewer = h.fewer; before = h.before; judged = h.judged; fault = g }

  -- one more good record before
  one_more : {F : ℕ → S → Type 0} (k n : ℕ) (s : S) (r : R) → judge n s ≡ accept r → Stop judge reach k (n + 1) (reach r s) F → Stop judge reach (suc k) n s F
  unfolding records
  one_more {F} k n s r q h =
      let l = h.fewer in
      record {
        good = suc h.good;
        fewer = omega arith;
        before = record { list = r ∷ h.before.list; end = h.before.end };
        judged = rw (q, ← h.judged) refl;
        fault = subst (λ (m : ℕ). F m h.before.end) (omega arith) h.fault;
      }

  pub stop_to : (k n : ℕ) (s : S) (nr place : ℕ) → refuse nr place ≡ records judge reach k n s → Stop judge reach k n s (λ m t. refuse nr place ≡ judge m t)
  unfolding records
  stop_to zero n s nr place e = absurd (never (sym e))
  stop_to (suc k) n s nr place e = go (judge n s) refl e (λ r. stop_to k (n + 1) (reach r s) nr place)
    where
      rest : R → Answer (Many R S)
      rest r = records judge reach k (n + 1) (reach r s)

      later : (r : R) (y : Answer (Many R S)) → rest r ≡ y → refuse nr place ≡ (y >>= λ m. accept (cons r m)) → refuse nr place ≡ rest r
      later r (accept m) q e = absurd (never (sym e))
      later r (refuse a b) q e = moved (rest r) e q

      here : refuse nr place ≡ judge n s → Stop judge reach (suc k) n s (λ m t. refuse nr place ≡ judge m t)
      here e = record { good = 0; fewer = omega arith; before = record { list = []; end = s }; judged = refl; fault = subst (λ (m : ℕ). refuse nr place ≡ judge m s) (omega arith) e }

      go : (x : Answer R) → judge n s ≡ x → refuse nr place ≡ (x >>= λ r. rest r >>= λ m. accept (cons r m)) → ((r : R) → refuse nr place ≡ rest r → Stop judge reach k (n + 1) (reach r s) (λ m t. refuse nr place ≡ judge m t)) → Stop judge reach (suc k) n s (λ m t. refuse nr place ≡ judge m t)
      go (accept r) q e more = one_more k n s r q (more r (later r (rest r) refl e))
      go (refuse a b) q e more = here (moved (judge n s) e q)

  -- i good records, and then one that is refused
  stop_at : (i k n : ℕ) (s : S) (m : Many R S) (nr place : ℕ) → i < k → accept m ≡ records judge reach i n s → refuse nr place ≡ judge (n + i) m.end → refuse nr place ≡ records judge reach k n s
  unfolding records
  stop_at zero zero n s m nr place l e f = absurd (omega arith)
  stop_at zero (suc k) n s m nr place l e f =
      let z : m.end ≡ s = ap (λ (x : Answer (Many R S)). end_or s x) e in
      let y : n + 0 ≡ n = omega arith in
      rw (← rw (z, y) at f) refl
    where
      end_or : S → Answer (Many R S) → S
      end_or d (accept x) = x.end
      end_or d (refuse a b) = d
  stop_at (suc i) zero n s m nr place l e f = absurd (omega arith)
  stop_at (suc i) (suc k) n s m nr place l e f = go (judge n s) refl e (λ r. stop_at i k (n + 1) (reach r s))
    where
      end_or : S → Answer (Many R S) → S
      end_or d (accept x) = x.end
      end_or d (refuse a b) = d

      after : (r : R) (y : Answer (Many R S)) → records judge reach i (n + 1) (reach r s) ≡ y → accept m ≡ (y >>= λ t. accept (cons r t)) → (t : Many R S) × (accept t ≡ records judge reach i (n + 1) (reach r s)) × (m.end ≡ t.end)
      after r (accept t) q e = (t, sym q, ap (λ (x : Answer (Many R S)). end_or s x) e)
      after r (refuse a b) q e = absurd (never e)

      go : (x : Answer R) → judge n s ≡ x → accept m ≡ (x >>= λ r. records judge reach i (n + 1) (reach r s) >>= λ t. accept (cons r t))
          → ((r : R) (t : Many R S) (nr place : ℕ) → i < k → accept t ≡ records judge reach i (n + 1) (reach r s) → refuse nr place ≡ judge (n + 1 + i) t.end → refuse nr place ≡ records judge reach k (n + 1) (reach r s))
          → refuse nr place ≡ (judge n s >>= λ r. records judge reach k (n + 1) (reach r s) >>= λ t. accept (cons r t))
      go (accept r) q e more =
          let a = after r (records judge reach i (n + 1) (reach r s)) refl e in
          let z : n + suc i ≡ n + 1 + i = omega arith in
          rw (q, ← more r a.0 nr place (omega arith) a.1 (rw (z, a.2) at f)) refl
      go (refuse c d) q e more = absurd (never e)

  pub stop_back : (k n : ℕ) (s : S) (nr place : ℕ) → Stop judge reach k n s (λ m t. refuse nr place ≡ judge m t) → refuse nr place ≡ records judge reach k n s
  stop_back k n s nr place h = stop_at h.good k n s h.before nr place h.fewer h.judged h.fault
