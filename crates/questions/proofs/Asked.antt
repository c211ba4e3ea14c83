-- From what a lookup answers in a table of cells to the reply. Assumes nothing.
use mathlib.Core.Path.{◌≡◌, refl, ap, sym, ◌∙◌}
use mathlib.Core.Bool.{Bool}
use mathlib.Core.List.{List}
use Prim.Native.Nat.{ℕ}
use Rattle.reads.specs.Answer.{Answer, Check, accept, refuse, ◌>>=◌}
use Rattle.std.specs.Prelude.{Result, Ok, Err}
use Rattle.reads.specs.Promise.{Reading, Is, answered, answered_by}
use Rattle.reads.specs.declared.Refusal.{Refusal}
use Rattle.reads.proofs.Answers.{never, carried}
use Rattle.pool.specs.Pool.{Pool, Whole}
use Rattle.handed.specs.Handed.{handed, lookup, asked}
use Rattle.values.specs.declared.Span.{Span}
use Rattle.values.specs.Lookups.{utf8, text_at, span_at, span_in}
use Rattle.questions.specs.declared.Reply.{Reply}
use Rattle.questions.specs.Replies.{none, numbers, on_pool}

by_pool : {A : Type 0} (values : A → Reply) (f : Pool → Answer A) (h : Answer Whole) → numbers values (h >>= λ w. f w.pool) ≡ on_pool (λ p. numbers values (f p)) h
by_pool values f (accept w) = refl
by_pool values f (refuse nr place) = refl

-- a lookup's answer, in a handed table
pub replied : {A : Type 0} (values : A → Reply) (f : Pool → Answer A) (s t : List ℕ) → numbers values (lookup s t f) ≡ on_pool (λ p. numbers values (f p)) (handed s t)
unfolding lookup
replied values f s t = by_pool values f (handed s t)

-- .. whose value is read in a way of its own
module _ {R A : Type 0} (values : A → Reply) (w : Reading R A) where
  read_so : (r : Result R Refusal) → numbers (λ x. values (w.read x)) (answered.read r) ≡ numbers values ((answered_by w).read r)
  read_so (Ok x) = refl
  read_so (Err e) = refl

  pub replied_by : (f : Pool → Answer A) (s t : List ℕ) (r : Result R Refusal) → Is (answered_by w) (lookup s t f) r → numbers (λ x. values (w.read x)) (answered.read r) ≡ on_pool (λ p. numbers values (f p)) (handed s t)
  replied_by f s t r e = read_so r ∙ ap (numbers values) e ∙ replied values f s t

-- ---- the table is judged

pub not_taken : (s t : List ℕ) (g : Pool → Reply) (nr place : ℕ) → refuse nr place ≡ handed s t → none nr place ≡ on_pool g (handed s t)
not_taken s t g nr place e = rw (← e) refl

-- .. and the cells of the file stand for it
pub taken : (g : Pool → Reply) (s cells made table : List ℕ) → cells ≡ made → handed s made ≡ handed s table → on_pool g (handed s cells) ≡ on_pool g (handed s table)
taken g s cells made table e h = ap (on_pool g) (ap (handed s) e ∙ h)

-- ---- a part of the file: it is refused as the text is

as_refused : {A B : Type 0} (x : Check) (a : A) (b : B) (nr place : ℕ) → refuse nr place ≡ (x >>= λ _. accept a) → refuse nr place ≡ (x >>= λ _. accept b)
as_refused x a b nr place = carried x _ _ nr place (λ _ e. absurd (never (sym e)))

module _ (s t : List ℕ) (n : ℕ) where
  text_to_span : (nr place : ℕ) (p : Pool) → refuse nr place ≡ text_at n p → refuse nr place ≡ span_at n p
  unfolding text_at span_at
  text_to_span nr place p e = as_refused (asked p utf8 n) _ _ nr place e

  span_to_text : (nr place : ℕ) (p : Pool) → refuse nr place ≡ span_at n p → refuse nr place ≡ text_at n p
  unfolding text_at span_at
  span_to_text nr place p e = as_refused (asked p utf8 n) _ _ nr place e

  pub no_part : (nr place : ℕ) → refuse nr place ≡ lookup s t (text_at n) → refuse nr place ≡ lookup s t (span_at n)
  unfolding lookup
  no_part nr place = carried (handed s t) _ _ nr place (λ w. text_to_span nr place w.pool)

  by_answer : (b : Bool) (y : Answer Span) → accept b ≡ lookup s t (text_at n) → y ≡ lookup s t (span_at n) → accept (span_in y) ≡ y
  unfolding lookup
  by_answer b (accept z) e q = refl
  by_answer b (refuse nr place) e q = absurd (never (e ∙ sym (carried (handed s t) _ _ nr place (λ w. span_to_text nr place w.pool) q)))

  pub a_part : (b : Bool) (x : Span) → accept b ≡ lookup s t (text_at n) → x ≡ span_in (lookup s t (span_at n)) → accept x ≡ lookup s t (span_at n)
  a_part b x e p = ap accept p ∙ by_answer b (lookup s t (span_at n)) e refl
