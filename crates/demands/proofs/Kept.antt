-- How a contract keeps demand 1: one law for each form of call, from what its claims say and the refusals of its answer. Assumes nothing.
use mathlib.Core.Path.{◌≡◌, refl, sym, ap, ◌∙◌}
use mathlib.Core.List.{List}
use mathlib.Core.Logic.{◌↔◌}
use Prim.Native.Nat.{ℕ, ◌≤◌}
use native.Mathlib.Omega.{arith}
use Rattle.reads.specs.Answer.{Answer, accept, refuse, mapped}
use Rattle.reads.specs.Promise.{Reading, Is, one_answer}
use Rattle.reads.specs.Tables.{after}
use Rattle.reads.proofs.Answers.{never}
use Rattle.cells.proofs.Cells.{all_zero}
use Rattle.demands.specs.Calls.{Refuses, Gives, Answers, Writes, Telling, Tells, TellsOnly, Fills, FillsBytes, TellsCells, TellsBytes, bytes_after}
use Rattle.demands.proofs.Only.{part}

module _ {Z E : Type 0} {allowed : Z → E → Type 0} where
  pub gives : {B : Type 0} {see : Z → E → B} {v : B} → ((z : Z) (e : E) → allowed z e → see z e ≡ v) → Gives allowed see v
  gives f = record { says = f; once = λ y z d e h k. f y d h ∙ sym (f z e k) }

  pub answers : {A : Type 0} {w : Reading Z (Answer A)} {x : Answer A} {P : ℕ → ℕ → Type 0} → ((z : Z) (e : E) → allowed z e → Is w x z) → Refuses P x → Answers allowed w x P
  answers {w = w} {x = x} f r = record { says = f; once = λ y z d e h k. one_answer w x y z (f y d h) (f z e k); refused = λ z e h nr place q. r.with nr place (sym q ∙ f z e h) }

-- what is left where the answer, of which f is told, is a refusal
clears : {A B T : Type 0} (f : A → B) (into : Answer A → T) (zeros : T) → ((nr place : ℕ) → into (refuse nr place) ≡ zeros) → (x : Answer A) (nr place : ℕ) → refuse nr place ≡ mapped f x → into x ≡ zeros
clears f into zeros zero (accept a) nr place e = absurd (never (sym e))
clears f into zeros zero (refuse n p) nr place e = zero n p

-- ---- lent tables

module _ {Z E A T : Type 0} {allowed : Z → E → Type 0} {left : E → T} {P : ℕ → ℕ → Type 0} where
  pub writes : {w : Reading Z (Answer A)} {x : Answer A} {t zeros : T} → ((z : Z) (e : E) → allowed z e → Is w x z × (left e ≡ t)) → Refuses P x → ((nr place : ℕ) → refuse nr place ≡ x → t ≡ zeros) → Writes allowed w x left t zeros P
  writes {w = w} {x = x} f r zero = record {
    says = f;
    once = λ y z d e h k. (one_answer w x y z (f y d h).0 (f z e k).0, (f y d h).1 ∙ sym (f z e k).1);
    refused = λ z e h nr place q. (r.with nr place (sym q ∙ (f z e h).0), (f z e h).1 ∙ zero nr place (sym q ∙ (f z e h).0));
  }

  pub writes_part : {X : Type 0} {w : Reading Z (Answer A)} (f : X → A) (into : Answer X → T) (x : Answer X) {zeros : T} → ((nr place : ℕ) → into (refuse nr place) ≡ zeros) →
      ((z : Z) (e : E) → allowed z e → Is w (mapped f x) z × (left e ≡ into x)) → Refuses P x → Writes allowed w (mapped f x) left (into x) zeros P
  writes_part f into x {zeros} zero h r = writes h (part f x r) (clears f into zeros zero x)

-- one table of cells, or of bytes
module _ {Z E A X : Type 0} {allowed : Z → E → Type 0} {w : Reading Z (Answer A)} {left : E → List ℕ} {P : ℕ → ℕ → Type 0} (f : X → A) (holds : X → List ℕ) (len : ℕ) (x : Answer X) where
  pub fills : ((z : Z) (e : E) → allowed z e → Is w (mapped f x) z × (left e ≡ after 0 holds len x)) → Refuses P x → Fills allowed w f x left holds len P
  fills = writes_part f (after 0 holds len) x (λ _ _. refl)

  pub fills_bytes : ((z : Z) (e : E) → allowed z e → Is w (mapped f x) z × (left e ≡ bytes_after holds len x)) → Refuses P x → FillsBytes allowed w f x left holds len P
  fills_bytes = writes_part f (bytes_after holds len) x (λ _ _. sym (all_zero len))

-- ---- for C

module _ {Z A : Type 0} (v : Telling Z A) {P : ℕ → ℕ → Type 0} (from_1 : (nr byte : ℕ) → P nr byte → 1 ≤ nr) where
  told : (x : Answer A) → Refuses P x → (z : Z) → z ≡ v.tell x → (v.refusal z ≡ 0) ↔ ((a : A) × (accept a ≡ x))
  told (accept a) r z q = (λ _. (a, refl), λ _. ap v.refusal q ∙ v.some a)
  told (refuse n p) r z q = (λ k. absurd (let b = from_1 n p (r.with n p refl) in let c = ap v.refusal q ∙ (v.none n p).0 in omega arith), λ k. absurd (never k.1))

  named : (x : Answer A) (z : Z) → z ≡ v.tell x → (v.refusal z ≡ 0 → ⊥) → refuse (v.refusal z) (v.place z) ≡ x
  named (accept a) z q k = absurd (k (ap v.refusal q ∙ v.some a))
  named (refuse n p) z q k = λ i. refuse ((ap v.refusal q ∙ (v.none n p).0) i) ((ap v.place q ∙ (v.none n p).1) i)

  module _ {E : Type 0} {allowed : Z → E → Type 0} where
    pub tells : {T : Type 0} {left : E → T} {x : Answer A} {t zeros : T} → ((z : Z) (e : E) → allowed z e → (z ≡ v.tell x) × (left e ≡ t)) → Refuses P x → ((nr byte : ℕ) → refuse nr byte ≡ x → t ≡ zeros) → Tells allowed v x left t zeros P
    tells {x = x} f r zero = record {
      says = f;
      once = λ y z d e h k. ((f y d h).0 ∙ sym (f z e k).0, (f y d h).1 ∙ sym (f z e k).1);
      accepted = λ z e h. told x r z (f z e h).0;
      refused = λ z e h k. let q = named x z (f z e h).0 k in (q, (r.with (v.refusal z) (v.place z) q, (f z e h).1 ∙ zero (v.refusal z) (v.place z) q));
    }

    pub tells_only : {x : Answer A} → ((z : Z) (e : E) → allowed z e → z ≡ v.tell x) → Refuses P x → TellsOnly allowed v x P
    tells_only f r = tells (λ z e h. (f z e h, refl)) r (λ _ _ _. refl)

    pub tells_part : {T X : Type 0} {left : E → T} (f : X → A) (into : Answer X → T) (x : Answer X) {zeros : T} → ((nr place : ℕ) → into (refuse nr place) ≡ zeros) →
        ((z : Z) (e : E) → allowed z e → (z ≡ v.tell (mapped f x)) × (left e ≡ into x)) → Refuses P x → Tells allowed v (mapped f x) left (into x) zeros P
    tells_part f into x {zeros} zero h r = tells h (part f x r) (clears f into zeros zero x)

    module _ {X : Type 0} {left : E → List ℕ} (f : X → A) (holds : X → List ℕ) (len : ℕ) (x : Answer X) where
      pub tells_cells : ((z : Z) (e : E) → allowed z e → (z ≡ v.tell (mapped f x)) × (left e ≡ after 0 holds len x)) → Refuses P x → TellsCells allowed v f x left holds len P
      tells_cells = tells_part f (after 0 holds len) x (λ _ _. refl)

      pub tells_bytes : ((z : Z) (e : E) → allowed z e → (z ≡ v.tell (mapped f x)) × (left e ≡ bytes_after holds len x)) → Refuses P x → TellsBytes allowed v f x left holds len P
      tells_bytes = tells_part f (bytes_after holds len) x (λ _ _. sym (all_zero len))
