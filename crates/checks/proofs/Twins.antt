-- Two pools of files that begin alike: what is checked of one is checked of the other, with the same answer. Assumes nothing.
use mathlib.Core.Path.{◌≡◌, refl, ap, sym, ◌∙◌}
use mathlib.Core.Bool.{Bool, true, false, not, ◌&&◌, cond}
use mathlib.Core.List.{List, [], ◌∷◌, ◌++◌}
use Prim.Native.Nat.{ℕ, zero, suc, ◌+◌, ◌≤◌, ◌<◌}
use native.Mathlib.Omega.{arith}
use lib.ListN.{length, get_or, take, drop}
use lib.Dec.{leb, ltb, eqb}
use borrow.Author.Tests.{eqb-true, eqb-false}
use Rattle.reads.specs.Answer.{Check, accept, fine, require, each, ◌>>=◌}
use Rattle.reads.specs.Bytes.{num1, num2, u1}
use Rattle.reads.proofs.Answers.{same, first, held, required, alike}
use Rattle.text.specs.Text.{is_text, unqualified}
use Rattle.pool.specs.declared.Row.{Row}
use Rattle.pool.specs.Kinds as kind
use Rattle.pool.specs.Rows.{first as width, second, one, other, none, rows, find, row_of}
use Rattle.pool.specs.Pool.{Pool, slots, second_width}
use Rattle.pool.proofs.Sets.{all_at}
use Rattle.pool.proofs.Entered.{Entered, utf8_read}
use Rattle.pool.proofs.Prefix.{byte_in, num2_in, part_in}
use Rattle.slot.specs.Slots.{cell, tag_of, field, bytes_of, of_kind, text_at, text_of, class_name, class_text, typed}
use Rattle.checks.specs.Checks.{Rule, reference, references, handled, handle, member, name_and_type, rules, follow, obey, checked}

infixr 5 ◌&◌
◌&◌ : {A B : Type 0} → A → B → A × B
◌&◌ a b = (a, b)

-- ---- pools of one major version whose slots hold the same

pub record Twins (p q : Pool) : Type 0 where
  pub same_major : q.major ≡ p.major
  pub same_slots : slots q ≡ slots p
  pub same_tag : (n : ℕ) → tag_of q n ≡ tag_of p n
  pub same_bytes : (n : ℕ) → tag_of p n ≡ kind.utf8 → bytes_of q n ≡ bytes_of p n
  pub same_kind : (n : ℕ) → tag_of p n ≡ kind.method_handle → num1 q.file (cell q n + 1) ≡ num1 p.file (cell p n + 1)
  pub same_one : (n : ℕ) → (one (row_of (tag_of p n)) ≡ 0 → ⊥) → field q n (one (row_of (tag_of p n))) ≡ field p n (one (row_of (tag_of p n)))
  pub same_other : (n : ℕ) → (other (row_of (tag_of p n)) ≡ 0 → ⊥) → field q n (other (row_of (tag_of p n))) ≡ field p n (other (row_of (tag_of p n)))

utf8_only : (t : ℕ) → kind.has (kind.set_of (kind.utf8 ∷ [])) t ≡ true → t ≡ kind.utf8
unfolding kind.has
utf8_only t e = eqb-true t kind.utf8 (all_at (kind.set_of (kind.utf8 ∷ [])) (λ u. eqb u kind.utf8) refl t e)

pair_only : (t : ℕ) → kind.has (kind.set_of (kind.name_and_type ∷ [])) t ≡ true → t ≡ kind.name_and_type
unfolding kind.has
pair_only t e = eqb-true t kind.name_and_type (all_at (kind.set_of (kind.name_and_type ∷ [])) (λ u. eqb u kind.name_and_type) refl t e)

tag_in : (p : Pool) (place allowed m : ℕ) → fine ≡ of_kind p place allowed m → kind.has allowed (tag_of p m) ≡ true
unfolding of_kind
tag_in p place allowed m e = required (kind.has allowed (tag_of p m)) 8 place e

nz : (j : ℕ) → 0 < j → j ≡ 0 → ⊥
nz j h z = omega arith

module _ (p q : Pool) (v : Twins p q) where
  kind_same : (place allowed m : ℕ) → of_kind q place allowed m ≡ of_kind p place allowed m
  unfolding of_kind
  kind_same place allowed m = ap (λ (t : ℕ). require (kind.has allowed t) 8 place) (v.same_tag m)

  text_bytes : (place m : ℕ) → fine ≡ text_at p place m → bytes_of q m ≡ bytes_of p m
  unfolding text_at
  text_bytes place m e = v.same_bytes m (utf8_only (tag_of p m) (tag_in p place _ m (first (of_kind p place (kind.set_of (kind.utf8 ∷ [])) m) _ tt e).1))

  text_same : (place m : ℕ) → text_at q place m ≡ text_at p place m
  unfolding text_at
  text_same place m =
      ap (λ (x : Check). x >>= λ _. require (is_text (bytes_of q m)) 9 place) (kind_same place (kind.set_of (kind.utf8 ∷ [])) m)
      ∙ alike (of_kind p place (kind.set_of (kind.utf8 ∷ [])) m) _ _ (λ _ e. ap (λ (t : List ℕ). require (is_text t) 9 place) (v.same_bytes m (utf8_only (tag_of p m) (tag_in p place _ m e))))

  -- what is asked of a text
  on_text : (f : List ℕ → Check) (place m : ℕ) → (text_at q place m >>= λ _. f (bytes_of q m)) ≡ (text_at p place m >>= λ _. f (bytes_of p m))
  on_text f place m = ap (λ (x : Check). x >>= λ _. f (bytes_of q m)) (text_same place m) ∙ alike (text_at p place m) _ _ (λ _ e. ap f (text_bytes place m e))

  of_same : (good : List ℕ → Bool) (nr place m : ℕ) → text_of good nr q place m ≡ text_of good nr p place m
  unfolding text_of
  of_same good nr place m = on_text (λ t. require (good t) nr place) place m

  class_same : (place m : ℕ) → class_text q place m ≡ class_text p place m
  unfolding class_text
  class_same place m = on_text (λ t. class_name t place) place m

  typed_same : (good : List ℕ → Bool) (place m : ℕ) → typed good q place m ≡ typed good p place m
  unfolding typed row_of
  typed_same good place m =
      ap (λ (x : Check). x >>= λ _. text_of good 11 q place (field q m 3)) (kind_same place (kind.set_of (kind.name_and_type ∷ [])) m)
      ∙ alike (of_kind p place (kind.set_of (kind.name_and_type ∷ [])) m) _ _ (λ _ e.
      let t = pair_only (tag_of p m) (tag_in p place _ m e) in
      let f = rw t at (v.same_other m) in
      ap (text_of good 11 q place) (f (nz 3 (omega arith))) ∙ of_same good 11 place (field p m 3))

  module _ (n : ℕ) where
    ref_one : (t j : ℕ) → tag_of p n ≡ t → one (row_of t) ≡ j → (j ≡ 0 → ⊥) → field q n j ≡ field p n j
    ref_one t j e f z = (rw (e, f) at (v.same_one n)) z

    ref_other : (t j : ℕ) → tag_of p n ≡ t → other (row_of t) ≡ j → (j ≡ 0 → ⊥) → field q n j ≡ field p n j
    ref_other t j e f z = (rw (e, f) at (v.same_other n)) z

    -- ---- references

    reference_same : (k : ℕ) → ((k ≡ 0 → ⊥) → field q n k ≡ field p n k) → reference q n k ≡ reference p n k
    unfolding reference
    reference_same k f = go (eqb k 0) refl
      where
        judge : ℕ → ℕ → Check
        judge m l = require (not (eqb m n)) 6 n >>= λ _. require (ltb m l) 7 n

        go : (b : Bool) → eqb k 0 ≡ b → cond b fine (judge (field q n k) (slots q)) ≡ cond b fine (judge (field p n k) (slots p))
        go true z = refl
        go false z = (λ i. judge (f (eqb-false k 0 z) i) (v.same_slots i))

    pub references_same : references q n ≡ references p n
    unfolding references
    references_same =
        ap (λ (t : ℕ). reference q n (one (row_of t)) >>= λ _. reference q n (other (row_of t))) (v.same_tag n)
        ∙ (λ i. reference_same (one (row_of (tag_of p n))) (v.same_one n) i >>= λ _. reference_same (other (row_of (tag_of p n))) (v.same_other n) i)

    -- ---- the rule of each entry

    member_same : (good : List ℕ → Bool) → field q n 1 ≡ field p n 1 → field q n 3 ≡ field p n 3 → member good q n ≡ member good p n
    unfolding member
    member_same good a b =
        (λ i. of_kind q n (kind.set_of (kind.class ∷ [])) (a i) >>= λ _. typed good q n (b i))
        ∙ (λ i. kind_same n (kind.set_of (kind.class ∷ [])) (field p n 1) i >>= λ _. typed_same good n (field p n 3) i)

    pair_same : field q n 1 ≡ field p n 1 → field q n 3 ≡ field p n 3 → name_and_type q n ≡ name_and_type p n
    unfolding name_and_type
    pair_same a b =
        (λ i. text_of unqualified 10 q n (a i) >>= λ _. of_kind q n (kind.set_of (kind.utf8 ∷ [])) (b i))
        ∙ (λ i. of_same unqualified 10 n (field p n 1) i >>= λ _. kind_same n (kind.set_of (kind.utf8 ∷ [])) (field p n 3) i)

    handle_same : tag_of p n ≡ kind.method_handle → field q n 2 ≡ field p n 2 → handle q n ≡ handle p n
    unfolding handle
    handle_same t a = (λ i. of_kind q n (handled (v.same_major i) (v.same_kind n t i)) (a i)) ∙ kind_same n (handled p.major (num1 p.file (cell p n + 1))) (field p n 2)

    -- of one rule: where slot n has its tag, both answer alike
    abbrev Again : Rule → Type 0
    Again r = tag_of p n ≡ r.0 → r.1 q n ≡ r.1 p n

    abbrev EachRule : List Rule → Type 0
    EachRule [] = Unit {0}
    EachRule (r ∷ rs) = Again r × EachRule rs

    follow_same : (rs : List Rule) → EachRule rs → (t : ℕ) → tag_of p n ≡ t → follow rs t q n ≡ follow rs t p n
    follow_same [] all t e = refl
    follow_same (r ∷ rs) all t e = go (eqb t r.0) refl (follow_same rs all.1 t e)
      where
        go : (b : Bool) → eqb t r.0 ≡ b → follow rs t q n ≡ follow rs t p n → cond b (r.1 q n) (follow rs t q n) ≡ cond b (r.1 p n) (follow rs t p n)
        go true z more = all.0 (e ∙ eqb-true t r.0 z)
        go false z more = more

    one_1 : (t : ℕ) → tag_of p n ≡ t → one (row_of t) ≡ 1 → field q n 1 ≡ field p n 1
    one_1 t e f = ref_one t 1 e f (nz 1 (omega arith))

    one_3 : (t : ℕ) → tag_of p n ≡ t → one (row_of t) ≡ 3 → field q n 3 ≡ field p n 3
    one_3 t e f = ref_one t 3 e f (nz 3 (omega arith))

    other_3 : (t : ℕ) → tag_of p n ≡ t → other (row_of t) ≡ 3 → field q n 3 ≡ field p n 3
    other_3 t e f = ref_other t 3 e f (nz 3 (omega arith))

    text_row : (t nr : ℕ) (good : List ℕ → Bool) → tag_of p n ≡ t → one (row_of t) ≡ 1 → text_of good nr q n (field q n 1) ≡ text_of good nr p n (field p n 1)
    text_row t nr good e f = ap (text_of good nr q n) (one_1 t e f) ∙ of_same good nr n (field p n 1)

    typed_row : (t : ℕ) (good : List ℕ → Bool) → tag_of p n ≡ t → one (row_of t) ≡ 3 → typed good q n (field q n 3) ≡ typed good p n (field p n 3)
    typed_row t good e f = ap (typed good q n) (one_3 t e f) ∙ typed_same good n (field p n 3)

    rules_same : EachRule rules
    unfolding row_of
    rules_same =
        (λ t. ap (class_text q n) (one_1 _ t refl) ∙ class_same n (field p n 1))
        & (λ t. ap (of_kind q n (kind.set_of (kind.utf8 ∷ []))) (one_1 _ t refl) ∙ kind_same n (kind.set_of (kind.utf8 ∷ [])) (field p n 1))
        & (λ t. member_same _ (one_1 _ t refl) (other_3 _ t refl))
        & (λ t. member_same _ (one_1 _ t refl) (other_3 _ t refl))
        & (λ t. member_same _ (one_1 _ t refl) (other_3 _ t refl))
        & (λ t. pair_same (one_1 _ t refl) (other_3 _ t refl))
        & (λ t. handle_same t (ref_one _ 2 t refl (nz 2 (omega arith))))
        & (λ t. text_row _ 11 _ t refl)
        & (λ t. typed_row _ _ t refl)
        & (λ t. typed_row _ _ t refl)
        & (λ t. text_row _ 10 _ t refl)
        & (λ t. text_row _ 10 _ t refl)
        & tt

    pub obey_same : obey q n ≡ obey p n
    unfolding obey
    obey_same = ap (λ (t : ℕ). follow rules t q n) (v.same_tag n) ∙ follow_same rules rules_same (tag_of p n) refl

  each_same : (k i : ℕ) (f g : ℕ → Check) → ((n : ℕ) → f n ≡ g n) → each k i f ≡ each k i g
  unfolding each
  each_same zero i f g h = refl
  each_same (suc k) i f g h = λ j. h i j >>= λ _. each_same k (i + 1) f g h j

  pub checked_same : checked q ≡ checked p
  unfolding checked
  checked_same =
      ap (λ (k : ℕ). each k 0 (λ n. references q n) >>= λ _. each k 0 (λ n. obey q n)) v.same_slots
      ∙ (λ i. each_same (slots p) 0 (λ n. references q n) (λ n. references p n) references_same i >>= λ _. each_same (slots p) 0 (λ n. obey q n) (λ n. obey p n) obey_same i)

-- ---- rows: references lie inside their entry

abbrev EachRow : (ℕ → Type 0) → List (ℕ × Row) → Type 0
EachRow P [] = Unit {0}
EachRow P (k ∷ ks) = P k.0 × EachRow P ks

by_row : (P : ℕ → Type 0) (ks : List (ℕ × Row)) → EachRow P ks → (t : ℕ) → (find t ks ≡ none → P t) → P t
by_row P [] all t rest = rest refl
by_row P (k ∷ ks) all t rest = go (eqb t k.0) refl (by_row P ks all.1 t) rest
  where
    go : (b : Bool) → eqb t k.0 ≡ b → ((find t ks ≡ none → P t) → P t) → (cond b k.1 (find t ks) ≡ none → P t) → P t
    go true e more rest = let z = eqb-true t k.0 e in rw z all.0
    go false e more rest = more rest

module _ (s : List ℕ) (b wb : ℕ) where
  abbrev Ends : ℕ → ℕ → Type 0
  Ends t k = (k ≡ 0 → ⊥) → k + 2 ≤ 1 + width (row_of t) + wb

  abbrev InRow : ℕ → Type 0
  InRow t = accept wb ≡ second_width s b t (second (row_of t)) → Ends t (one (row_of t)) × Ends t (other (row_of t))

  none_there : (t : ℕ) → Ends t 0 × Ends t 0
  none_there t = (λ z. absurd (z refl), λ z. absurd (z refl))

  handle_two : accept wb ≡ second_width s b kind.method_handle 2 → wb ≡ 2
  unfolding second_width
  handle_two e =
      let k = first (u1 s b) _ wb e in
      same (held (leb 1 k.0 && leb k.0 9) 4 b (λ _. accept 2) wb k.2).1

  rows_in : EachRow InRow rows
  unfolding row_of second_width
  rows_in =
      (λ e. none_there kind.utf8)
      & (λ e. none_there kind.integer)
      & (λ e. none_there kind.float)
      & (λ e. none_there kind.long)
      & (λ e. none_there kind.double)
      & (λ e. (λ z. omega arith, λ z. absurd (z refl)))  -- Class
      & (λ e. (λ z. omega arith, λ z. absurd (z refl)))  -- String
      & (λ e. let g = same e in (λ z. omega arith, λ z. omega arith))  -- FieldRef
      & (λ e. let g = same e in (λ z. omega arith, λ z. omega arith))  -- MethodRef
      & (λ e. let g = same e in (λ z. omega arith, λ z. omega arith))  -- InterfaceMethodRef
      & (λ e. let g = same e in (λ z. omega arith, λ z. omega arith))  -- NameAndType
      & (λ e. let g = handle_two e in (λ z. omega arith, λ z. absurd (z refl)))  -- MethodHandle
      & (λ e. (λ z. omega arith, λ z. absurd (z refl)))  -- MethodType
      & (λ e. let g = same e in (λ z. omega arith, λ z. absurd (z refl)))  -- Dynamic
      & (λ e. let g = same e in (λ z. omega arith, λ z. absurd (z refl)))  -- InvokeDynamic
      & (λ e. (λ z. omega arith, λ z. absurd (z refl)))  -- Module
      & (λ e. (λ z. omega arith, λ z. absurd (z refl)))  -- Package
      & tt

  in_row : (t : ℕ) → InRow t
  unfolding row_of
  in_row t = by_row InRow rows rows_in t (λ q e. rw q (λ z. absurd (z refl), λ z. absurd (z refl)))

zero_one : one (row_of 0) ≡ 0
unfolding row_of
zero_one = refl

zero_other : other (row_of 0) ≡ 0
unfolding row_of
zero_other = refl

-- ---- what has a tag has a cell, and the tag stands there

tag_at : (p : Pool) (m t : ℕ) → 0 < t → tag_of p m ≡ t → (0 < cell p m) × (num1 p.file (cell p m) ≡ t)
unfolding tag_of
tag_at p m t h e = go (eqb (cell p m) 0) refl e
  where
    go : (b : Bool) → eqb (cell p m) 0 ≡ b → cond b 0 (num1 p.file (cell p m)) ≡ t → (0 < cell p m) × (num1 p.file (cell p m) ≡ t)
    go true q e = absurd (omega (arith, e))
    go false q e = (let d = eqb-false (cell p m) 0 q in omega arith, e)

-- ---- cells of entries that were read before `end`, up to which the files agree

module _ (h x y cells : List ℕ) (major end : ℕ) (long : end ≤ length h) (ent : (n : ℕ) → 0 < get_or cells n 0 → Entered (h ++ x) major end (get_or cells n 0)) where
  abbrev P : Pool
  P = record { file = h ++ x; major = major; cells = cells }

  abbrev Q : Pool
  Q = record { file = h ++ y; major = major; cells = cells }

  sized : (n : ℕ) (c : 0 < get_or cells n 0) → get_or cells n 0 + 1 + width (row_of (num1 (h ++ x) (get_or cells n 0))) + (ent n c).wide_by ≤ length h
  sized n c = omega (arith, (ent n c).first_read, (ent n c).second_read, (ent n c).before)

  tags : (n : ℕ) → tag_of Q n ≡ tag_of P n
  unfolding tag_of
  tags n = go (eqb (get_or cells n 0) 0) refl
    where
      go : (b : Bool) → eqb (get_or cells n 0) 0 ≡ b → cond b 0 (num1 (h ++ y) (get_or cells n 0)) ≡ cond b 0 (num1 (h ++ x) (get_or cells n 0))
      go true z = refl
      go false z =
          let d = eqb-false (get_or cells n 0) 0 z in
          let c : 0 < get_or cells n 0 = omega arith in
          byte_in h y (get_or cells n 0) (omega (arith, sized n c)) ∙ sym (byte_in h x (get_or cells n 0) (omega (arith, sized n c)))

  fields : (n k : ℕ) → get_or cells n 0 + k + 2 ≤ length h → field Q n k ≡ field P n k
  unfolding field
  fields n k l = num2_in h y (get_or cells n 0 + k) l ∙ sym (num2_in h x (get_or cells n 0 + k) l)

  texts : (n : ℕ) → tag_of P n ≡ kind.utf8 → bytes_of Q n ≡ bytes_of P n
  unfolding bytes_of field
  texts n t =
      let a = tag_at P n 1 (omega arith) t in
      let u = utf8_read (h ++ x) major end (get_or cells n 0) (ent n a.0) a.1 in
      let z = u.0 in
      ap (λ (k : ℕ). take k (drop (get_or cells n 0 + 3) (h ++ y))) (fields n 1 (omega arith))
      ∙ part_in h y (get_or cells n 0 + 3) (num2 (h ++ x) (get_or cells n 0 + 1)) (omega arith) ∙ sym (part_in h x (get_or cells n 0 + 3) (num2 (h ++ x) (get_or cells n 0 + 1)) (omega arith))

  kinds : (n : ℕ) → tag_of P n ≡ kind.method_handle → num1 (h ++ y) (get_or cells n 0 + 1) ≡ num1 (h ++ x) (get_or cells n 0 + 1)
  unfolding row_of
  kinds n t =
      let a = tag_at P n kind.method_handle (omega arith) t in
      let z = rw a.1 at (sized n a.0) in
      byte_in h y (get_or cells n 0 + 1) (omega arith) ∙ sym (byte_in h x (get_or cells n 0 + 1) (omega arith))

  -- a slot with a reference has a cell, and the reference lies in its entry
  referring : (n : ℕ) (k : ℕ → ℕ) → k 0 ≡ 0 → ((b wb t : ℕ) → accept wb ≡ second_width (h ++ x) b t (second (row_of t)) → (k t ≡ 0 → ⊥) → k t + 2 ≤ 1 + width (row_of t) + wb) → (k (tag_of P n) ≡ 0 → ⊥) → field Q n (k (tag_of P n)) ≡ field P n (k (tag_of P n))
  referring n k z in_entry d = go (tag_of P n) refl d
    where
      go : (t : ℕ) → tag_of P n ≡ t → (k t ≡ 0 → ⊥) → field Q n (k t) ≡ field P n (k t)
      go zero e d = absurd (d z)
      go (suc t) e d =
          let a = tag_at P n (suc t) (omega arith) e in
          let w = ent n a.0 in
          let g : accept w.wide_by ≡ second_width (h ++ x) (get_or cells n 0 + 1) (suc t) (second (row_of (suc t))) = rw a.1 at w.width_read in
          let i = in_entry (get_or cells n 0 + 1) w.wide_by (suc t) g d in
          let s = rw a.1 at (sized n a.0) in
          fields n (k (suc t)) (omega arith)

  pub twins : Twins P Q
  twins = record {
    same_major = refl;
    same_slots = refl;
    same_tag = tags;
    same_bytes = texts;
    same_kind = kinds;
    same_one = λ n d. referring n (λ t. one (row_of t)) zero_one (λ b wb t e. (in_row (h ++ x) b wb t e).0) d;
    same_other = λ n d. referring n (λ t. other (row_of t)) zero_other (λ b wb t e. (in_row (h ++ x) b wb t e).1) d;
  }
