-- What a table of records holds, record by record; and where every number is zero, as after a refusal, every record is of zeros. Assumes nothing.
use mathlib.Core.Path.{◌≡◌, refl, sym, ap, ◌∙◌}
use Prim.Native.Nat.{ℕ, zero, suc, ◌+◌, ◌<◌}
use native.Mathlib.Nat.{le_of_suc-le-suc, not-suc-le-zero, add-zero, add-suc, suc-add}
use mathlib.Core.List.{◌∷◌}
use lib.ListN.{get_or, replicate}
use Rattle.reads.proofs.Tables.{zero_at}
use Rattle.records.specs.Records.{Numbers, member_of, members_from, none, Parts, attribute_of, attributes_from, no_attribute, records_from}

module _ {A : Type 0} (f : ℕ → A) (z : A) where
  pub record_is : (i n k : ℕ) → k < n → get_or (records_from f i n) k z ≡ f (i + k)
  unfolding records_from
  record_is i zero k h = absurd (not-suc-le-zero h)
  record_is i (suc n) zero h = sym (ap f (add-zero i))
  record_is i (suc n) (suc k) h = record_is (suc i) n k (le_of_suc-le-suc h) ∙ ap f (suc-add i k ∙ sym (add-suc i k))

  -- the same record everywhere
  pub all_alike : ((i : ℕ) → f i ≡ z) → (i n : ℕ) → records_from f i n ≡ replicate n z
  unfolding records_from
  all_alike h i zero = refl
  all_alike h i (suc n) = λ j. h i j ∷ all_alike h (suc i) n j

pub alike_at : {A : Type 0} (z : A) (n i : ℕ) → get_or (replicate n z) i z ≡ z
alike_at z zero i = refl
alike_at z (suc n) zero = refl
alike_at z (suc n) (suc i) = alike_at z n i

module _ (a b c d e : ℕ) where
  abbrev pub nothing : Numbers
  nothing = record { flags = replicate a 0; names = replicate b 0; types = replicate c 0; firsts = replicate d 0; counts = replicate e 0 }

  none_at : (i : ℕ) → member_of nothing i ≡ none
  unfolding member_of
  none_at i = λ j. record { flags = zero_at a i j; name = zero_at b i j; descriptor = zero_at c i j; first_attribute = zero_at d i j; attributes = zero_at e i j }

  pub refused : (i n : ℕ) → members_from nothing i n ≡ replicate n none
  refused = all_alike (member_of nothing) none none_at

module _ (a b c : ℕ) where
  abbrev pub no_parts : Parts
  no_parts = record { titles = replicate a 0; bodies = replicate b 0; lengths = replicate c 0 }

  no_attribute_at : (i : ℕ) → attribute_of no_parts i ≡ no_attribute
  unfolding attribute_of
  no_attribute_at i = λ j. record { name = zero_at a i j; body = zero_at b i j; length = zero_at c i j }

  pub attributes_refused : (i n : ℕ) → attributes_from no_parts i n ≡ replicate n no_attribute
  attributes_refused = all_alike (attribute_of no_parts) no_attribute no_attribute_at
