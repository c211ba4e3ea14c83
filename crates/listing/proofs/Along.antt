-- What is listed, followed along the slots that an entry names, is what each of the other lookups answers. Assumes nothing.
use mathlib.Core.Path.{◌≡◌, refl, ap, sym, ◌∙◌}
use mathlib.Core.Bool.{Bool, false≢true, true, false, ◌&&◌, ◌||◌, cond}
use mathlib.Core.List.{List, [], ◌∷◌}
use Prim.Native.Nat.{ℕ, ◌+◌, ◌<◌}
use native.Mathlib.Omega.{arith}
use lib.ListN.{length, take, drop}
use lib.Dec.{leb, eqb}
use borrow.Author.Tests.{le-leb, eqb-true}
use Rattle.reads.specs.Answer.{fine, accept, ◌>>=◌, require}
use Rattle.reads.specs.Bytes.{num1}
use Rattle.reads.proofs.Answers.{first, held, required}
use Rattle.text.specs.Text.{is_text}
use Rattle.descriptors.specs.Descriptors.{field_descriptor, method_descriptor}
use Rattle.pool.specs.Kinds as kind
use Rattle.pool.specs.Pool.{Pool, Whole, read_pool, slots}
use Rattle.pool.proofs.Sets.{all, all_at}
use Rattle.slot.specs.Slots.{cell, tag_of, field, bytes_of, of_kind, typed}
use Rattle.checks.specs.Checks.{handled, handle, member, obey, pool}
use Rattle.checks.proofs.Lower.{tagged}
use Rattle.checks.proofs.Parts.{utf8_before_end}
use Rattle.handed.specs.Handed.{agree, judged, no_limit, handed, lookup}
use Rattle.handed.proofs.Handed.{its_cells}
use Rattle.handed.proofs.Own.{obeyed}
use Rattle.lookups.specs.declared.Named.{Named}
use Rattle.lookups.specs.declared.Member.{Member}
use Rattle.lookups.specs.Lookups.{class_at, module_at, package_at, method_type_at, named, named_at, member_of, member_at, handle_at, dynamic_at, invoke_dynamic_at}
use Rattle.lookups.proofs.Answered as answered
use Rattle.values.specs.Lookups.{cut, span_of, text_at}
use Rattle.values.proofs.Answered.{text_answered}
use Rattle.listing.specs.Forms.{form, form_of, num_of}
use Rattle.listing.specs.Listing.{first_of, second_of}

-- ---- along the listed slots

abbrev pub listed_name : Pool → ℕ → Named
listed_name p m = record { name = first_of p m; descriptor = second_of p m }

abbrev pub listed_member : Pool → ℕ → Member
listed_member p m = record {
  tag = tag_of p m;
  class = first_of p (first_of p m);
  name = first_of p (second_of p m);
  descriptor = second_of p (second_of p m);
}

-- ---- one entry: a slot, or two

module _ (p : Pool) (m : ℕ) where
  -- the first of a Class, a Module, a Package, a MethodType
  slot_first : (t : ℕ) → form_of t ≡ form 1 2 0 0 → eqb t kind.utf8 ≡ false → tag_of p m ≡ t → field p m 1 ≡ first_of p m
  unfolding first_of num_of field
  slot_first t f u k = rw (k, u, f) refl

  -- of a member reference, a NameAndType, a Dynamic, an InvokeDynamic
  slots_both : (t : ℕ) → form_of t ≡ form 1 2 3 2 → eqb t kind.utf8 ≡ false → tag_of p m ≡ t → (field p m 1 ≡ first_of p m) × (field p m 3 ≡ second_of p m)
  unfolding first_of second_of num_of field
  slots_both t f u k = rw (k, u, f) (refl, refl)

  handle_both : tag_of p m ≡ kind.method_handle → (num1 p.file (cell p m + 1) ≡ first_of p m) × (field p m 2 ≡ second_of p m)
  unfolding first_of second_of form_of num_of field
  handle_both k = rw k (refl, refl)

  utf8_both : tag_of p m ≡ kind.utf8 → (cut p.file (cell p m + 3) ≡ first_of p m) × (field p m 1 ≡ second_of p m)
  unfolding first_of second_of form_of num_of field
  utf8_both k = rw k (refl, refl)

  name_is : tag_of p m ≡ kind.name_and_type → named p m ≡ listed_name p m
  unfolding named form_of
  name_is k =
      let a = slots_both kind.name_and_type refl refl k in
      rw (a.0, a.1) refl

-- ---- what an entry that keeps its rule names

one_kind : (k : ℕ) → all (kind.set_of (k ∷ [])) (λ u. eqb u k) ≡ true → (t : ℕ) → kind.has (kind.set_of (k ∷ [])) t ≡ true → t ≡ k
one_kind k a t e = eqb-true t k (all_at (kind.set_of (k ∷ [])) (λ u. eqb u k) a t e)

a_class : (t : ℕ) → kind.has (kind.set_of (kind.class ∷ [])) t ≡ true → t ≡ kind.class
unfolding kind.has
a_class = one_kind kind.class refl

a_name_and_type : (t : ℕ) → kind.has (kind.set_of (kind.name_and_type ∷ [])) t ≡ true → t ≡ kind.name_and_type
unfolding kind.has
a_name_and_type = one_kind kind.name_and_type refl

module _ (p : Pool) (n : ℕ) where
  names_a_pair : (good : List ℕ → Bool) (m : ℕ) → fine ≡ typed good p n m → tag_of p m ≡ kind.name_and_type
  unfolding typed of_kind
  names_a_pair good m e = a_name_and_type (tag_of p m) (held (kind.has (kind.set_of (kind.name_and_type ∷ [])) (tag_of p m)) 8 n _ tt e).0

  names_both : (good : List ℕ → Bool) → fine ≡ member good p n → (tag_of p (field p n 1) ≡ kind.class) × (tag_of p (field p n 3) ≡ kind.name_and_type)
  unfolding member of_kind
  names_both good e =
      let a = held (kind.has (kind.set_of (kind.class ∷ [])) (tag_of p (field p n 1))) 8 n _ tt e in
      (a_class (tag_of p (field p n 1)) a.0, names_a_pair good (field p n 3) a.1)

  -- a member reference of tag t that keeps the rule
  member_is : (t : ℕ) (good : List ℕ → Bool) → form_of t ≡ form 1 2 3 2 → eqb t kind.utf8 ≡ false → tag_of p n ≡ t → fine ≡ member good p n → member_of p n ≡ listed_member p n
  unfolding member_of form_of
  member_is t good f u k e =
      let b = names_both good e in
      let a = slots_both p n t f u k in
      let c = slot_first p (field p n 1) kind.class refl refl b.0 in
      let d = slots_both p (field p n 3) kind.name_and_type refl refl b.1 in
      rw (c, d.0, d.1, a.0, a.1) refl

  -- a Dynamic or an InvokeDynamic
  pair_is : (t : ℕ) (good : List ℕ → Bool) → form_of t ≡ form 1 2 3 2 → eqb t kind.utf8 ≡ false → tag_of p n ≡ t → fine ≡ typed good p n (field p n 3)
      → (field p n 1 ≡ first_of p n) × (named p (field p n 3) ≡ listed_name p (second_of p n))
  pair_is t good f u k e =
      let a = slots_both p n t f u k in
      (a.0, name_is p (field p n 3) (names_a_pair good (field p n 3) e) ∙ ap (listed_name p) a.1)

  abbrev Followed : ℕ → Type 0
  Followed t = tag_of p n ≡ t → fine ≡ obey p n → member_of p n ≡ listed_member p n

  field_is : Followed kind.field_ref
  unfolding obey form_of
  field_is k e = member_is kind.field_ref field_descriptor refl refl k (e ∙ rw k refl)

  method_is : Followed kind.method_ref
  unfolding obey form_of
  method_is k e = member_is kind.method_ref method_descriptor refl refl k (e ∙ rw k refl)

  interface_method_is : Followed kind.interface_method_ref
  unfolding obey form_of
  interface_method_is k e = member_is kind.interface_method_ref method_descriptor refl refl k (e ∙ rw k refl)

-- ---- a handle's member

abbrev is_member : ℕ → Bool
is_member t = eqb t kind.field_ref || eqb t kind.method_ref || eqb t kind.interface_method_ref

by_member : (P : ℕ → Type 0) → P kind.field_ref → P kind.method_ref → P kind.interface_method_ref → (t : ℕ) → is_member t ≡ true → P t
by_member P a b c t = go (eqb t kind.field_ref) (eqb t kind.method_ref) (eqb t kind.interface_method_ref) refl refl refl
  where
    go : (i j k : Bool) → eqb t kind.field_ref ≡ i → eqb t kind.method_ref ≡ j → eqb t kind.interface_method_ref ≡ k → i || j || k ≡ true → P t
    go true j k x y z w = let e = eqb-true t kind.field_ref x in rw e a
    go false true k x y z w = let e = eqb-true t kind.method_ref y in rw e b
    go false false true x y z w = let e = eqb-true t kind.interface_method_ref z in rw e c
    go false false false x y z w = absurd (false≢true w)

handled_members : (major k : ℕ) → all (handled major k) is_member ≡ true
unfolding handled kind.has
handled_members major k = go (leb k 4) (eqb k 9) (leb 52 major && (eqb k 6 || eqb k 7))
  where
    go : (a b c : Bool) → all (cond a (kind.set_of (kind.field_ref ∷ [])) (cond b (kind.set_of (kind.interface_method_ref ∷ [])) (cond c (kind.set_of (kind.method_ref ∷ kind.interface_method_ref ∷ [])) (kind.set_of (kind.method_ref ∷ []))))) is_member ≡ true
    go true b c = refl
    go false true c = refl
    go false false true = refl
    go false false false = refl

holds_a_member : (p : Pool) (n : ℕ) → fine ≡ handle p n → is_member (tag_of p (field p n 2)) ≡ true
unfolding handle of_kind
holds_a_member p n e =
    let set = handled p.major (num1 p.file (cell p n + 1)) in
    all_at set is_member (handled_members p.major (num1 p.file (cell p n + 1))) (tag_of p (field p n 2)) (required (kind.has set (tag_of p (field p n 2))) 8 n e)

-- ---- the lookups, on a table that is accepted

module _ (s table : List ℕ) (w : Whole) (o : accept w ≡ handed s table) where
  abbrev p : Pool
  p = w.pool

  any_member : (t m : ℕ) → is_member t ≡ true → tag_of w.pool m ≡ t → member_of w.pool m ≡ listed_member w.pool m
  any_member t m i k =
      by_member (λ t. tag_of w.pool m ≡ t → fine ≡ obey w.pool m → member_of w.pool m ≡ listed_member w.pool m) (field_is w.pool m) (method_is w.pool m) (interface_method_is w.pool m) t i k
      (obeyed s table w o m (tagged w.pool m (λ z. false≢true (rw (sym k ∙ z) at i))))

  module _ (n : ℕ) (h : n < slots w.pool) where
    pub class_listed : tag_of w.pool n ≡ kind.class → lookup s table (class_at n) ≡ accept (first_of w.pool n)
    unfolding form_of
    class_listed k = answered.class_answered s table w o n h k ∙ ap accept (slot_first w.pool n kind.class refl refl k)

    pub module_listed : tag_of w.pool n ≡ kind.module → lookup s table (module_at n) ≡ accept (first_of w.pool n)
    unfolding form_of
    module_listed k = answered.module_answered s table w o n h k ∙ ap accept (slot_first w.pool n kind.module refl refl k)

    pub package_listed : tag_of w.pool n ≡ kind.package → lookup s table (package_at n) ≡ accept (first_of w.pool n)
    unfolding form_of
    package_listed k = answered.package_answered s table w o n h k ∙ ap accept (slot_first w.pool n kind.package refl refl k)

    pub method_type_listed : tag_of w.pool n ≡ kind.method_type → lookup s table (method_type_at n) ≡ accept (first_of w.pool n)
    unfolding form_of
    method_type_listed k = answered.method_type_answered s table w o n h k ∙ ap accept (slot_first w.pool n kind.method_type refl refl k)

    -- 9 where its descriptor is raw, as the lookup says
    pub name_and_type_listed : tag_of w.pool n ≡ kind.name_and_type
        → lookup s table (named_at n) ≡ (require (is_text (bytes_of w.pool (second_of w.pool n))) 9 n >>= λ _. accept (listed_name w.pool n))
    unfolding form_of
    name_and_type_listed k =
        let a = slots_both w.pool n kind.name_and_type refl refl k in
        answered.name_and_type_answered s table w o n h k ∙ rw (a.1, name_is w.pool n k) refl

    pub field_listed : tag_of w.pool n ≡ kind.field_ref → lookup s table (member_at n) ≡ accept (listed_member w.pool n)
    field_listed k = answered.field_answered s table w o n h k ∙ ap accept (any_member kind.field_ref n refl k)

    pub method_listed : tag_of w.pool n ≡ kind.method_ref → lookup s table (member_at n) ≡ accept (listed_member w.pool n)
    method_listed k = answered.method_answered s table w o n h k ∙ ap accept (any_member kind.method_ref n refl k)

    pub interface_method_listed : tag_of w.pool n ≡ kind.interface_method_ref → lookup s table (member_at n) ≡ accept (listed_member w.pool n)
    interface_method_listed k = answered.interface_method_answered s table w o n h k ∙ ap accept (any_member kind.interface_method_ref n refl k)

    pub handle_listed : tag_of w.pool n ≡ kind.method_handle → lookup s table (handle_at n) ≡ accept (record { kind = first_of w.pool n; member = listed_member w.pool (second_of w.pool n) })
    unfolding obey
    handle_listed k =
        let a = handle_both w.pool n k in
        let e : fine ≡ handle w.pool n = obeyed s table w o n h ∙ rw k refl in
        let m = any_member (tag_of w.pool (field w.pool n 2)) (field w.pool n 2) (holds_a_member w.pool n e) refl in
        answered.handle_answered s table w o n h k ∙ rw (m, a.0, a.1) refl

    pub dynamic_listed : tag_of w.pool n ≡ kind.dynamic → lookup s table (dynamic_at n) ≡ accept (record { index = first_of w.pool n; named = listed_name w.pool (second_of w.pool n) })
    unfolding obey form_of
    dynamic_listed k =
        let a = pair_is w.pool n kind.dynamic field_descriptor refl refl k (obeyed s table w o n h ∙ rw k refl) in
        answered.dynamic_answered s table w o n h k ∙ rw (a.0, a.1) refl

    pub invoke_dynamic_listed : tag_of w.pool n ≡ kind.invoke_dynamic → lookup s table (invoke_dynamic_at n) ≡ accept (record { index = first_of w.pool n; named = listed_name w.pool (second_of w.pool n) })
    unfolding obey form_of
    invoke_dynamic_listed k =
        let a = pair_is w.pool n kind.invoke_dynamic method_descriptor refl refl k (obeyed s table w o n h ∙ rw k refl) in
        answered.invoke_dynamic_answered s table w o n h k ∙ rw (a.0, a.1) refl

    -- ---- Utf8 slots: their bytes, all in the file

    pooled : accept w ≡ pool s no_limit
    unfolding handed judged pool
    pooled =
        let r = first (read_pool s no_limit) _ w o in
        let j = first (judged r.0.pool table) _ w r.2 in
        let a = first (agree r.0.pool.cells table) _ tt j.1 in
        rw (← r.1, ← a.2) j.2

    module _ (k : tag_of w.pool n ≡ kind.utf8) where
      start : first_of w.pool n ≡ cell w.pool n + 3
      unfolding cut
      start =
          let e = (utf8_before_end s no_limit w pooled n k).1 in
          let f = (its_cells s table w o).0 in
          sym (utf8_both w.pool n k).0 ∙ rw (f, le-leb (cell w.pool n + 3) (length s) (omega (arith, e))) refl

      to_end : (span_of w.pool n).to ≡ cell w.pool n + 3 + field w.pool n 1
      unfolding span_of cut
      to_end =
          let e = (utf8_before_end s no_limit w pooled n k).1 in
          let g = ap length (its_cells s table w o).0 in
          rw (le-leb (cell w.pool n + 3 + field w.pool n 1) (length w.pool.file) (omega (arith, e, g))) refl

      pub part_listed : (span_of w.pool n).to ≡ first_of w.pool n + second_of w.pool n
      part_listed = to_end ∙ ap (λ (x : ℕ). cell w.pool n + 3 + x) (utf8_both w.pool n k).1 ∙ ap (λ (x : ℕ). x + second_of w.pool n) (sym start)

      pub text_listed : lookup s table (text_at n) ≡ accept (is_text (take (second_of w.pool n) (drop (first_of w.pool n) w.pool.file)))
      unfolding bytes_of
      text_listed = text_answered s table w o n h k ∙ rw (start, ← (utf8_both w.pool n k).1) refl
