-- From a reply to the numbers of a lookup. Assumes nothing.
use mathlib.Core.Path.{◌≡◌, refl}
use mathlib.Core.Bool.{Bool, true, false}
use mathlib.Core.List.{List}
use Prim.Native.Nat.{ℕ}
use Rattle.reads.specs.Answer.{Answer, accept, refuse, ◌>>=◌}
use Rattle.pool.specs.Pool.{Pool, Whole}
use Rattle.handed.specs.Handed.{handed, lookup}
use Rattle.lookups.specs.declared.Named.{Named}
use Rattle.lookups.specs.declared.Member.{Member}
use Rattle.lookups.specs.declared.Held.{Held}
use Rattle.lookups.specs.declared.Indexed.{Indexed}
use Rattle.literal.specs.Values.{Literal}
use Rattle.values.specs.declared.Span.{Span}
use Rattle.questions.specs.declared.Reply.{Reply}
use Rattle.questions.specs.Replies.{none, numbers, on_pool, slot_values, named_values, member_values, held_values, indexed_values, literal_values, text_values, span_values}
use Rattle.numbers.specs.Numbers.{slot_of, slot_numbers, named_of, named_numbers, member_of, member_numbers, handle_of, handle_numbers, dynamic_of, dynamic_numbers, literal_of, literal_numbers, text_of, text_numbers, part_of, part_numbers}

-- `out` takes from a reply what `num` says of an answer
module _ {A X : Type 0} (out : Reply → X) (values : A → Reply) (num : Answer A → X) (some : (a : A) → out (values a) ≡ num (accept a)) (refused : (nr place : ℕ) → out (none nr place) ≡ num (refuse nr place)) (f : Pool → Answer A) where
  of_answer : (x : Answer A) → out (numbers values x) ≡ num x
  of_answer (accept a) = some a
  of_answer (refuse nr place) = refused nr place

  of_pool : (h : Answer Whole) → out (on_pool (λ p. numbers values (f p)) h) ≡ num (h >>= λ w. f w.pool)
  of_pool (accept w) = of_answer (f w.pool)
  of_pool (refuse nr place) = refused nr place

  told : (s t : List ℕ) → out (on_pool (λ p. numbers values (f p)) (handed s t)) ≡ num (lookup s t f)
  unfolding lookup
  told s t = of_pool (handed s t)

-- ---- each kind of answer

pub slot_told : (f : Pool → Answer ℕ) (s t : List ℕ) → slot_of (on_pool (λ p. numbers slot_values (f p)) (handed s t)) ≡ slot_numbers (lookup s t f)
slot_told = told slot_of slot_values slot_numbers (λ a. refl) (λ nr place. refl)

pub named_told : (f : Pool → Answer Named) (s t : List ℕ) → named_of (on_pool (λ p. numbers named_values (f p)) (handed s t)) ≡ named_numbers (lookup s t f)
named_told = told named_of named_values named_numbers (λ a. refl) (λ nr place. refl)

pub member_told : (f : Pool → Answer Member) (s t : List ℕ) → member_of (on_pool (λ p. numbers member_values (f p)) (handed s t)) ≡ member_numbers (lookup s t f)
member_told = told member_of member_values member_numbers (λ a. refl) (λ nr place. refl)

pub handle_told : (f : Pool → Answer Held) (s t : List ℕ) → handle_of (on_pool (λ p. numbers held_values (f p)) (handed s t)) ≡ handle_numbers (lookup s t f)
handle_told = told handle_of held_values handle_numbers (λ a. refl) (λ nr place. refl)

pub dynamic_told : (f : Pool → Answer Indexed) (s t : List ℕ) → dynamic_of (on_pool (λ p. numbers indexed_values (f p)) (handed s t)) ≡ dynamic_numbers (lookup s t f)
dynamic_told = told dynamic_of indexed_values dynamic_numbers (λ a. refl) (λ nr place. refl)

pub literal_told : (f : Pool → Answer Literal) (s t : List ℕ) → literal_of (on_pool (λ p. numbers literal_values (f p)) (handed s t)) ≡ literal_numbers (lookup s t f)
literal_told = told literal_of literal_values literal_numbers (λ a. refl) (λ nr place. refl)

pub text_told : (f : Pool → Answer Bool) (s t : List ℕ) → text_of (on_pool (λ p. numbers text_values (f p)) (handed s t)) ≡ text_numbers (lookup s t f)
text_told = told text_of text_values text_numbers by_text (λ nr place. refl)
  where
    by_text : (b : Bool) → text_of (text_values b) ≡ text_numbers (accept b)
    by_text true = refl
    by_text false = refl

pub part_told : (f : Pool → Answer Span) (s t : List ℕ) → part_of (on_pool (λ p. numbers span_values (f p)) (handed s t)) ≡ part_numbers (lookup s t f)
part_told = told part_of span_values part_numbers (λ a. refl) (λ nr place. refl)
