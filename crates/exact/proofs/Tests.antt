-- An entry is refused with the number of the first of its tests that fails. Assumes nothing.
use mathlib.Core.Path.{◌≡◌, refl, ap, sym, ◌∙◌}
use mathlib.Core.Bool.{Bool, true, false, cond}
use mathlib.Core.List.{List, [], ◌∷◌, ◌++◌}
use mathlib.Core.Logic.{◌↔◌, inl, inr, ⊎_elim}
use Prim.Native.Nat.{ℕ, ◌+◌}
use lib.Dec.{eqb}
use Rattle.reads.specs.Answer.{Check, fine, refuse, ◌>>=◌, require}
use Rattle.reads.proofs.Answers.{never}
use Rattle.reads.specs.Bytes.{num1}
use Rattle.text.specs.Text.{unqualified}
use Rattle.pool.specs.Pool.{Pool}
use Rattle.slot.specs.Slots.{cell, tag_of, field, of_kind, text_at, text_of, class_name, class_text, typed}
use Rattle.checks.specs.Checks.{handled, handle, member, name_and_type, Rule, rules, follow, obey}
use Rattle.exact.specs.Tests.{Test, kinds, utf8, text, of, named_class, described, reference_to, Row, rows, find, tests_of, FirstFails}

-- ---- one test after the other

unfoldable through : List Test → ℕ → Check
through [] n = fine
through (t ∷ ts) n = require t.holds t.number n >>= λ _. through ts n

-- what follows a test, and what follows that
on : (b : Bool) (nr n : ℕ) (f g : Unit {0} → Check) → ((require b nr n >>= f) >>= g) ≡ (require b nr n >>= λ u. f u >>= g)
on true nr n f g = refl
on false nr n f g = refl

-- nothing follows
over : (b : Bool) (nr n : ℕ) → require b nr n ≡ (require b nr n >>= λ _. fine)
over true nr n = refl
over false nr n = refl

-- a step that is a list of tests, and one more after it
snoc : (x : Check) (ts : List Test) (n : ℕ) → x ≡ through ts n → (y : Check) (us : List Test) → y ≡ through us n → (x >>= λ _. y) ≡ through (ts ++ us) n
unfolding through
snoc x [] n e y us f = ap (λ (z : Check). z >>= λ _. y) e ∙ f
snoc x (t ∷ ts) n e y us f =
    ap (λ (z : Check). z >>= λ _. y) e
    ∙ on t.holds t.number n (λ _. through ts n) (λ _. y)
    ∙ ap (λ (z : Check). require t.holds t.number n >>= λ _. z) (snoc (through ts n) ts n refl y us f)

module _ (p : Pool) (n : ℕ) where
  one_test : (t : Test) → require t.holds t.number n ≡ through (t ∷ []) n
  unfolding through
  one_test t = over t.holds t.number n

  kind_is : (set m : ℕ) → of_kind p n set m ≡ through (kinds set p m ∷ []) n
  unfolding of_kind
  kind_is set m = one_test (kinds set p m)

  text_is : (m : ℕ) → text_at p n m ≡ through (utf8 p m ∷ text p m ∷ []) n
  unfolding text_at
  text_is m = snoc (of_kind p n _ m) (utf8 p m ∷ []) n (kind_is _ m) _ (text p m ∷ []) (one_test (text p m))

  of_is : (good : List ℕ → Bool) (nr m : ℕ) → text_of good nr p n m ≡ through (utf8 p m ∷ text p m ∷ of good nr p m ∷ []) n
  unfolding text_of
  of_is good nr m = snoc (text_at p n m) (utf8 p m ∷ text p m ∷ []) n (text_is m) _ (of good nr p m ∷ []) (one_test (of good nr p m))

  class_is : (m : ℕ) → class_text p n m ≡ through (utf8 p m ∷ text p m ∷ named_class p m ∷ []) n
  unfolding class_text class_name
  class_is m = snoc (text_at p n m) (utf8 p m ∷ text p m ∷ []) n (text_is m) _ (named_class p m ∷ []) (one_test (named_class p m))

  typed_is : (good : List ℕ → Bool) (m : ℕ) → typed good p n m ≡ through (described good p m) n
  unfolding typed
  typed_is good m = snoc (of_kind p n _ m) (kinds _ p m ∷ []) n (kind_is _ m) _ _ (of_is good 11 (field p m 3))

  member_is : (good : List ℕ → Bool) → member good p n ≡ through (reference_to good p n) n
  unfolding member
  member_is good = snoc (of_kind p n _ (field p n 1)) (kinds _ p (field p n 1) ∷ []) n (kind_is _ (field p n 1)) _ _ (typed_is good (field p n 3))

  pair_is : name_and_type p n ≡ through (utf8 p (field p n 1) ∷ text p (field p n 1) ∷ of unqualified 10 p (field p n 1) ∷ utf8 p (field p n 3) ∷ []) n
  unfolding name_and_type
  pair_is = snoc (text_of unqualified 10 p n (field p n 1)) _ n (of_is unqualified 10 (field p n 1)) _ (utf8 p (field p n 3) ∷ []) (kind_is _ (field p n 3))

  handle_is : handle p n ≡ through (kinds (handled p.major (num1 p.file (cell p n + 1))) p (field p n 2) ∷ []) n
  unfolding handle
  handle_is = kind_is _ (field p n 2)

  -- ---- row by row

  abbrev Match : List Rule → List Row → Type 0
  Match [] [] = Unit {0}
  Match [] (q ∷ qs) = ⊥
  Match (r ∷ rs) [] = ⊥
  Match (r ∷ rs) (q ∷ qs) = (r.0 ≡ q.0) × (r.1 p n ≡ through (q.1 p n) n) × Match rs qs

  infixr 5 ◌&◌
  ◌&◌ : {A B C : Type 0} → A × B → C → A × B × C
  ◌&◌ x c = (x.0, x.1, c)

  all_match : Match rules rows
  all_match =
      (refl, class_is (field p n 1))
      & (refl, kind_is _ (field p n 1))
      & (refl, member_is _)
      & (refl, member_is _)
      & (refl, member_is _)
      & (refl, pair_is)
      & (refl, handle_is)
      & (refl, of_is _ 11 (field p n 1))
      & (refl, typed_is _ (field p n 3))
      & (refl, typed_is _ (field p n 3))
      & (refl, of_is _ 10 (field p n 1))
      & (refl, of_is _ 10 (field p n 1))
      & tt

  follow_is : (rs : List Rule) (qs : List Row) → Match rs qs → (t : ℕ) → follow rs t p n ≡ through (find qs t p n) n
  unfolding through
  follow_is [] [] m t = refl
  follow_is [] (q ∷ qs) m t = absurd m
  follow_is (r ∷ rs) [] m t = absurd m
  follow_is (r ∷ rs) (q ∷ qs) m t = ap (λ (k : ℕ). cond (eqb t k) (r.1 p n) (follow rs t p n)) m.0 ∙ go (eqb t q.0) (follow_is rs qs m.2 t)
    where
      go : (b : Bool) → follow rs t p n ≡ through (find qs t p n) n → cond b (r.1 p n) (follow rs t p n) ≡ through (cond b (q.1 p n) (find qs t p n)) n
      go true h = m.1
      go false h = h

  obey_is : obey p n ≡ through (tests_of p n) n
  unfolding obey tests_of
  obey_is = follow_is rules rows all_match (tag_of p n)

-- ---- the first that fails

fails_to : (ts : List Test) (n nr : ℕ) → refuse nr n ≡ through ts n → FirstFails ts nr
unfolding through
fails_to [] n nr e = absurd (never (sym e))
fails_to (t ∷ ts) n nr e = go t.holds refl e (fails_to ts n nr)
  where
    go : (b : Bool) → t.holds ≡ b → refuse nr n ≡ (require b t.number n >>= λ _. through ts n) → (refuse nr n ≡ through ts n → FirstFails ts nr) → FirstFails (t ∷ ts) nr
    go true q e more = inr (q, more e)
    go false q e more = let z : t.number ≡ nr = cc in inl (q, z)

fails_back : (ts : List Test) (n nr : ℕ) → FirstFails ts nr → refuse nr n ≡ through ts n
unfolding through
fails_back [] n nr h = absurd h
fails_back (t ∷ ts) n nr h = ⊎_elim (λ f. rw (f.0, f.1) refl) (λ f. rw f.0 (fails_back ts n nr f.1)) h

pub rules_exactly : (p : Pool) (n nr : ℕ) → (refuse nr n ≡ obey p n) ↔ FirstFails (tests_of p n) nr
rules_exactly p n nr = (λ e. fails_to (tests_of p n) n nr (e ∙ obey_is p n), λ h. fails_back (tests_of p n) n nr h ∙ sym (obey_is p n))
