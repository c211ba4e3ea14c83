-- The numbers that a `do` can refuse with, line by line. Assumes nothing.
use mathlib.Core.Path.{◌≡◌, refl, sym, ap, ◌∙◌}
use mathlib.Core.Bool.{Bool, true, false, ◌&&◌, ◌||◌, cond, true≢false}
use mathlib.Core.List.Memᴰ
use mathlib.Core.List.{List, [], ◌∷◌, Memᴰ}
use mathlib.Core.Logic.{⊎_elim}
use Prim.Native.Nat.{ℕ, zero, suc, ◌+◌, ◌≤◌, ◌<◌}
use native.Mathlib.Omega.{arith}
use lib.Dec.{leb, eqb}
use borrow.Author.Tests.{eqb-true, leb-true}
use Rattle.reads.specs.Answer.{Answer, Check, accept, refuse, ◌>>=◌, require, each, mapped}
use Rattle.reads.proofs.Answers.{never, first}
use Rattle.pool.proofs.Entries.{same}
use Rattle.text.specs.Text.{all_of}
use Rattle.text.proofs.Laws.{and_both}
use Rattle.reach.specs.Reach.{◌∈◌}
use Rattle.reads.specs.Records.{Many, records}
use Rattle.bootstrap.specs.Bootstrap.{steps}
use Rattle.demands.specs.Calls.{Refuses, Only, OnlyAt}

-- ---- sets of numbers, as tests

abbrev pub among : ℕ → List ℕ → Bool
among n [] = false
among n (m ∷ ms) = eqb n m || among n ms

abbrev pub covers : List ℕ → List ℕ → Bool
covers ns [] = true
covers ns (m ∷ ms) = among m ns && covers ns ms

pub stands : (n : ℕ) (ms : List ℕ) → among n ms ≡ true → n ∈ ms
stands n [] h = absurd (true≢false (sym h))
stands n (m ∷ ms) h = go (eqb n m) refl h (λ k. stands n ms k)
  where
    go : (b : Bool) → eqb n m ≡ b → (b || among n ms) ≡ true → (among n ms ≡ true → n ∈ ms) → n ∈ m ∷ ms
    go true q h later = Memᴰ.head (eqb-true n m q)
    go false q h later = Memᴰ.tail (later h)

pub covered : (ns ms : List ℕ) → covers ns ms ≡ true → (n : ℕ) → n ∈ ms → n ∈ ns
covered ns [] h n k = absurd (Memᴰ.not-nil k)
covered ns (m ∷ ms) h n k =
    let b = and_both (among m ns) (covers ns ms) h in
    ⊎_elim (λ e. Memᴰ.cast e (stands m ns b.0)) (λ l. covered ns ms b.1 n l) (Memᴰ.cases_cons k)

pub either : (ns : List ℕ) (t : Bool) (a b : ℕ) → among a ns ≡ true → among b ns ≡ true → among (cond t a b) ns ≡ true
either ns true a b p q = p
either ns false a b p q = q

-- ---- lines of a `do`

module _ {P : ℕ → ℕ → Type 0} where
  pub done : {A : Type 0} (a : A) → Refuses P (accept a)
  done a = record { with = λ nr place e. absurd (never (sym e)) }

  pub refusal : {A : Type 0} (nr place : ℕ) → P nr place → Refuses {A = A} P (refuse nr place)
  refusal nr place h = record {
    with = λ n q e.
        let y : n ≡ nr = cc in
        let z : q ≡ place = cc in
        rw (y, z) h;
  }

  pub then : {A B : Type 0} (x : Answer A) (f : A → Answer B) → Refuses P x → ((a : A) → accept a ≡ x → Refuses P (f a)) → Refuses P (x >>= f)
  then (accept a) f p q = q a refl
  then (refuse nr place) f p q = refusal nr place (p.with nr place refl)

  pub need_at : (t : Bool) (nr place : ℕ) → P nr place → Refuses P (require t nr place)
  need_at true nr place h = done tt
  need_at false nr place h = refusal nr place h

  pub pick : {A : Type 0} (t : Bool) (x y : Answer A) → Refuses P x → Refuses P y → Refuses P (cond t x y)
  pick true x y p q = p
  pick false x y p q = q

  pub all_in : (k i : ℕ) (f : ℕ → Check) → ((n : ℕ) → n < i + k → Refuses P (f n)) → Refuses P (each k i f)
  unfolding each
  all_in zero i f h = done tt
  all_in (suc k) i f h = then (f i) _ (h i (omega arith)) (λ _ _. all_in k (i + 1) f (λ n l. h n (omega arith)))

  pub all : (k i : ℕ) (f : ℕ → Check) → ((n : ℕ) → Refuses P (f n)) → Refuses P (each k i f)
  all k i f h = all_in k i f (λ n _. h n)

  pub stepped : (step : ℕ → Answer ℕ) (k i : ℕ) → ((n : ℕ) → Refuses P (step n)) → Refuses P (steps step k i)
  unfolding steps
  stepped step zero i h = done i
  stepped step (suc k) i h = then (step i) _ (h i) (λ next _. stepped step k next h)

  -- records: what holds of what is reached goes on to hold
  module _ {R S : Type 0} (I : S → Type 0) (judge : ℕ → S → Answer R) (reach : R → S → S) (on : (n : ℕ) (s : S) (r : R) → I s → accept r ≡ judge n s → I (reach r s)) where
    pub many_with : (k n : ℕ) (s : S) → I s → ((n : ℕ) (s : S) → I s → Refuses P (judge n s)) → Refuses P (records judge reach k n s)
    unfolding records
    many_with zero n s i h = done _
    many_with (suc k) n s i h = then (judge n s) _ (h n s i) (λ r e. then (records judge reach k (n + 1) (reach r s)) _ (many_with k (n + 1) (reach r s) (on n s r i e) h) (λ _ _. done _))

  pub many : {R S : Type 0} (judge : ℕ → S → Answer R) (reach : R → S → S) (k n : ℕ) (s : S) → ((n : ℕ) (s : S) → Refuses P (judge n s)) → Refuses P (records judge reach k n s)
  many judge reach k n s h = many_with (λ _. Unit {0}) judge reach (λ _ _ _ _ _. tt) k n s tt (λ n s _. h n s)

  pub part : {A B : Type 0} (f : A → B) (x : Answer A) → Refuses P x → Refuses P (mapped f x)
  part f (accept a) h = done (f a)
  part f (refuse nr place) h = refusal nr place (h.with nr place refl)

-- ---- a required test, more numbers, and one less

pub need : {ns : List ℕ} (t : Bool) (nr place : ℕ) → among nr ns ≡ true → Only ns (require t nr place)
need {ns} t nr place h = need_at t nr place (stands nr ns h)

pub weaken : {A : Type 0} {P Q : ℕ → ℕ → Type 0} {x : Answer A} → ((nr place : ℕ) → P nr place → Q nr place) → Refuses P x → Refuses Q x
weaken f p = record { with = λ nr place e. f nr place (p.with nr place e) }

pub both : {A : Type 0} {P Q : ℕ → ℕ → Type 0} {x : Answer A} → Refuses P x → Refuses Q x → Refuses (λ nr place. P nr place × Q nr place) x
both p q = record { with = λ nr place e. (p.with nr place e, q.with nr place e) }

pub wide : {A : Type 0} {ms ns : List ℕ} {x : Answer A} → Only ms x → covers ns ms ≡ true → Only ns x
wide {ms} {ns} p h = weaken (λ nr place m. covered ns ms h nr m) p

pub less : {A : Type 0} (n : ℕ) {ms ns : List ℕ} {x : Answer A} → Only ms x → ((place : ℕ) → refuse n place ≡ x → ⊥) → covers (n ∷ ns) ms ≡ true → Only ns x
less n {ms} {ns} {x} p never-n h = record { with = λ nr place e. ⊎_elim (λ z. absurd (never-n place (rw z at e))) (λ k. k) (Memᴰ.cases_cons (covered (n ∷ ns) ms h nr (p.with nr place e))) }

-- ---- at one place

pub need_here : {ns : List ℕ} (t : Bool) (nr place : ℕ) → among nr ns ≡ true → OnlyAt ns place (require t nr place)
need_here {ns} t nr place h = need_at t nr place (stands nr ns h, refl)

pub wide_here : {A : Type 0} {ms ns : List ℕ} {there : ℕ} {x : Answer A} → OnlyAt ms there x → covers ns ms ≡ true → OnlyAt ns there x
wide_here {ms} {ns} p h = weaken (λ nr place m. (covered ns ms h nr m.0, m.1)) p

pub only : {A : Type 0} {ns : List ℕ} {there : ℕ} {x : Answer A} → OnlyAt ns there x → Only ns x
only p = weaken (λ nr place m. m.0) p

-- ---- numbers between two

abbrev pub between : ℕ → ℕ → List ℕ → Bool
between low high [] = true
between low high (m ∷ ms) = (leb low m && leb m high) && between low high ms

pub lies : (low high : ℕ) (ms : List ℕ) → between low high ms ≡ true → (n : ℕ) → n ∈ ms → (low ≤ n) × (n ≤ high)
lies low high [] h n k = absurd (Memᴰ.not-nil k)
lies low high (m ∷ ms) h n k =
    let b = and_both (leb low m && leb m high) (between low high ms) h in
    let c = and_both (leb low m) (leb m high) b.0 in
    ⊎_elim (λ e. rw e (leb-true low m c.0, leb-true m high c.1)) (λ l. lies low high ms b.1 n l) (Memᴰ.cases_cons k)

pub bounds : {A : Type 0} (low high : ℕ) {ns : List ℕ} {x : Answer A} → Only ns x → between low high ns ≡ true → (nr place : ℕ) → refuse nr place ≡ x → (low ≤ nr) × (nr ≤ high)
bounds low high {ns} p h nr place e = lies low high ns h nr (p.with nr place e)

all_lie : (low high : ℕ) (ls : List (List ℕ)) → all_of (between low high) ls ≡ true → (ns : List ℕ) → Memᴰ ns ls → between low high ns ≡ true
unfolding all_of
all_lie low high [] h ns k = absurd (Memᴰ.not-nil k)
all_lie low high (l ∷ ls) h ns k =
    let b = and_both (between low high l) (all_of (between low high) ls) h in
    ⊎_elim (λ e. ap (between low high) e ∙ b.0) (λ m. all_lie low high ls b.1 ns m) (Memᴰ.cases_cons k)

pub within_all : (low high : ℕ) (ls : List (List ℕ)) → all_of (between low high) ls ≡ true → (ns : List ℕ) → Memᴰ ns ls → (n : ℕ) → n ∈ ns → (low ≤ n) × (n ≤ high)
within_all low high ls h ns k n m = lies low high ns (all_lie low high ls h ns k) n m

-- ---- what is reached after the last of records

pub many_end : {R S : Type 0} (I : S → Type 0) (judge : ℕ → S → Answer R) (reach : R → S → S) → ((n : ℕ) (s : S) (r : R) → I s → accept r ≡ judge n s → I (reach r s)) → (k n : ℕ) (s : S) (m : Many R S) → I s → accept m ≡ records judge reach k n s → I m.end
unfolding records
many_end I judge reach on zero n s m i e = let q : m.end ≡ s = ap (λ (x : Many _ _). x.end) (same e) in rw q i
many_end I judge reach on (suc k) n s m i e =
    let a = first (judge n s) _ m e in
    let b = first (records judge reach k (n + 1) (reach a.0 s)) _ m a.2 in
    let q : m.end ≡ b.0.end = ap (λ (x : Many _ _). x.end) (same b.2) in
    rw q (many_end I judge reach on k (n + 1) (reach a.0 s) b.0 (on n s a.0 i a.1) b.1)
