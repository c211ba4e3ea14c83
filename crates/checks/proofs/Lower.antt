-- What an entry that keeps its rule refers to: an entry of lower rank. So its references are slots, and none is its own. Assumes nothing.
use Prim.Native.Nat.{ℕ, zero, suc, ◌+◌, ◌<◌}
use native.Mathlib.Omega.{arith}
use mathlib.Core.Path.{◌≡◌, refl}
use mathlib.Core.List.{List, [], ◌∷◌}
use mathlib.Core.Bool.{Bool, true, false, cond}
use lib.ListN.{get_or-eq_default}
use lib.Dec.{ltb, eqb}
use borrow.Author.Tests.{eqb-true, eqb-false, ltb-true, ltb-false, lt-ltb, ne_eqb}
use Rattle.reads.specs.Answer.{Check, fine, each}
use Rattle.reads.specs.Bytes.{num1}
use Rattle.reads.proofs.Answers.{first, required}
use Rattle.pool.specs.declared.Row.{Row}
use Rattle.pool.specs.Kinds as kind
use Rattle.pool.specs.Rows.{one, other, none, rows, find, row_of}
use Rattle.pool.specs.Pool.{Pool, slots}
use Rattle.slot.specs.Slots.{cell, tag_of, field, of_kind, text_at, text_of, class_text, typed}
use Rattle.checks.specs.Checks.{reference, references, handled, handle, member, name_and_type, rules, follow, obey, checked}
use Rattle.checks.proofs.Ranks.{rank, low, lows, low_in, lower, not_none, utf8_low, class_low, name_and_type_low, handled_low}

-- ---- what the rule of an entry says of the kinds of its references

module _ (p : Pool) (n : ℕ) where
  is_kind : (r allowed m : ℕ) → lows r allowed ≡ true → fine ≡ of_kind p n allowed m → low r (tag_of p m) ≡ true
  unfolding of_kind
  is_kind r allowed m a e = low_in r allowed a (tag_of p m) (required (kind.has allowed (tag_of p m)) 8 n e)

  is_text : (m : ℕ) → fine ≡ text_at p n m → low 1 (tag_of p m) ≡ true
  unfolding text_at
  is_text m e = is_kind 1 _ m utf8_low (first (of_kind p n _ m) _ tt e).1

  is_text_of : (good : List ℕ → Bool) (nr m : ℕ) → fine ≡ text_of good nr p n m → low 1 (tag_of p m) ≡ true
  unfolding text_of
  is_text_of good nr m e = is_text m (first (text_at p n m) _ tt e).1

  is_class : (m : ℕ) → fine ≡ class_text p n m → low 1 (tag_of p m) ≡ true
  unfolding class_text
  is_class m e = is_text m (first (text_at p n m) _ tt e).1

  is_typed : (good : List ℕ → Bool) (m : ℕ) → fine ≡ typed good p n m → low 2 (tag_of p m) ≡ true
  unfolding typed
  is_typed good m e = is_kind 2 _ m name_and_type_low (first (of_kind p n _ m) _ tt e).1

  -- the reference k bytes after the tag, if there is one, leads to a tag below rank r
  abbrev pub Leads : ℕ → ℕ → Type 0
  Leads r k = (k ≡ 0 → ⊥) → low r (tag_of p (field p n k)) ≡ true

  abbrev pub Both : ℕ → ℕ → ℕ → Type 0
  Both r j k = Leads r j × Leads r k

  neither : (r : ℕ) → Both r 0 0
  neither r = (λ z. absurd (z refl), λ z. absurd (z refl))

  only : (r k : ℕ) → low r (tag_of p (field p n k)) ≡ true → Both r k 0
  only r k h = (λ _. h, λ z. absurd (z refl))

  is_member : (good : List ℕ → Bool) → fine ≡ member good p n → Both 2 1 3
  unfolding member
  is_member good e =
      let a = first (of_kind p n _ (field p n 1)) _ tt e in
      (λ _. is_kind 2 _ (field p n 1) class_low a.1, λ _. is_typed good (field p n 3) a.2)

  is_name_and_type : fine ≡ name_and_type p n → Both 1 1 3
  unfolding name_and_type
  is_name_and_type e =
      let a = first (text_of _ 10 p n (field p n 1)) _ tt e in
      (λ _. is_text_of _ 10 (field p n 1) a.1, λ _. is_kind 1 _ (field p n 3) utf8_low a.2)

  is_handle : fine ≡ handle p n → Both 3 2 0
  unfolding handle
  is_handle e = only 3 2 (is_kind 3 (handled p.major (num1 p.file (cell p n + 1))) (field p n 2) (handled_low p.major (num1 p.file (cell p n + 1))) e)

  -- an entry of tag t that keeps its rule refers to lower ranks
  abbrev pub Lower : ℕ → Type 0
  Lower t = fine ≡ follow rules t p n → Both (rank t) (one (row_of t)) (other (row_of t))

-- ---- a property of every tag, row by row of the table of entries

abbrev EachRow : (ℕ → Type 0) → List (ℕ × Row) → Type 0
EachRow P [] = Unit {0}
EachRow P (k ∷ ks) = P k.0 × EachRow P ks

by_row : (P : ℕ → Type 0) (ks : List (ℕ × Row)) → EachRow P ks → (t : ℕ) → (find t ks ≡ none → P t) → P t
by_row P [] all t rest = rest refl
by_row P (k ∷ ks) all t rest = go (eqb t k.0) refl (by_row P ks all.1 t) rest
  where
    go : (b : Bool) → eqb t k.0 ≡ b → ((find t ks ≡ none → P t) → P t) → (cond b k.1 (find t ks) ≡ none → P t) → P t
    go true e more rest = let z = eqb-true t k.0 e in rw z all.0
    go false e more rest = more rest

infixr 5 ◌&◌
◌&◌ : {A B : Type 0} → A → B → A × B
◌&◌ a b = (a, b)

rows_lower : (p : Pool) (n : ℕ) → EachRow (Lower p n) rows
unfolding row_of kind.has
rows_lower p n =
    (λ e. neither p n _)  -- Utf8
    & (λ e. neither p n _)  -- Integer
    & (λ e. neither p n _)  -- Float
    & (λ e. neither p n _)  -- Long
    & (λ e. neither p n _)  -- Double
    & (λ e. only p n 1 1 (is_class p n _ e))  -- Class
    & (λ e. only p n 1 1 (is_kind p n 1 _ _ utf8_low e))  -- String
    & (λ e. is_member p n _ e)  -- FieldRef
    & (λ e. is_member p n _ e)  -- MethodRef
    & (λ e. is_member p n _ e)  -- InterfaceMethodRef
    & (λ e. is_name_and_type p n e)  -- NameAndType
    & (λ e. is_handle p n e)  -- MethodHandle
    & (λ e. only p n 1 1 (is_text_of p n _ 11 _ e))  -- MethodType
    & (λ e. only p n 2 3 (is_typed p n _ _ e))  -- Dynamic
    & (λ e. only p n 2 3 (is_typed p n _ _ e))  -- InvokeDynamic
    & (λ e. only p n 1 1 (is_text_of p n _ 10 _ e))  -- Module
    & (λ e. only p n 1 1 (is_text_of p n _ 10 _ e))  -- Package
    & tt

pub every_lower : (p : Pool) (n t : ℕ) → Lower p n t
unfolding row_of
every_lower p n t = by_row (Lower p n) rows (rows_lower p n) t (λ q e. rw q (neither p n _))

-- ---- an entry that keeps its rule has good references

-- what has a tag is a slot
pub tagged : (p : Pool) (m : ℕ) → (tag_of p m ≡ 0 → ⊥) → m < slots p
unfolding tag_of
tagged p m h = go (ltb m (slots p)) refl
  where
    go : (t : Bool) → ltb m (slots p) ≡ t → m < slots p
    go true q = ltb-true m (slots p) q
    go false q = absurd (h (rw (get_or-eq_default p.cells 0 (ltb-false m (slots p) q)) refl))

module _ (p : Pool) (n : ℕ) where
  reference_kept : (k : ℕ) → Leads p n (rank (tag_of p n)) k → fine ≡ reference p n k
  unfolding reference
  reference_kept k h = go (eqb k 0) refl
    where
      go : (b : Bool) → eqb k 0 ≡ b → fine ≡ reference p n k
      go true q = rw q
      go false q =
          let l = h (eqb-false k 0 q) in
          let u = tagged p (field p n k) (not_none _ _ l) in
          let d : (field p n k ≡ n → ⊥) = λ e. omega (arith, lower (rank (tag_of p n)) (tag_of p n) (rw e at l)) in
          simp (q, ne_eqb _ _ d, lt-ltb _ _ u)

  pub references_kept : fine ≡ obey p n → fine ≡ references p n
  unfolding obey references
  references_kept e =
      let h = every_lower p n (tag_of p n) e in
      simp (← reference_kept _ h.0, ← reference_kept _ h.1)

-- what follows from a check that is fine at every turn
each_kept : (k i : ℕ) (f g : ℕ → Check) → ((n : ℕ) → fine ≡ f n → fine ≡ g n) → fine ≡ each k i f → fine ≡ each k i g
unfolding each
each_kept zero i f g h e = refl
each_kept (suc k) i f g h e =
    let r = first (f i) _ tt e in
    rw (← h i r.1) (each_kept k (i + 1) f g h r.2)

-- so a pool whose entries all keep their rules is checked: no pass over the references is needed
pub rules_do : (p : Pool) → fine ≡ each (slots p) 0 (λ n. obey p n) → fine ≡ checked p
unfolding checked
rules_do p e = simp (← each_kept (slots p) 0 (λ n. obey p n) (λ n. references p n) (λ n. references_kept p n) e, ← e)
