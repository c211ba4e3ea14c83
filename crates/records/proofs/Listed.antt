-- What the records are where the numbers are those of listed members or attributes: each slice holds one number of each, in order, and zeros up to its end, as after a class that was accepted. The table then holds a record for each, in order, and records of zeros. Assumes nothing.
use mathlib.Core.Path.{◌≡◌, refl, ap, ◌∙◌}
use Prim.Native.Nat.{ℕ, zero, suc, ◌+◌}
use native.Mathlib.Nat.{zero-add, suc-add}
use mathlib.Core.List.{List, [], ◌∷◌, ◌++◌, map}
use lib.ListN.{length, replicate}
use Rattle.reads.specs.Tables.{padded}
use Rattle.reads.proofs.Tables.{padded_at}
use Rattle.records.specs.declared.Member.{Member}
use Rattle.records.specs.declared.Attribute.{Attribute}
use Rattle.records.specs.Records.{Numbers, member_of, members_from, none, Parts, attribute_of, attributes_from, no_attribute, records_from}
use Rattle.records.proofs.Zeros.{all_alike}

-- records of what is listed, where `at` says record k of a list, of its first or of the rest, and z past its end
module _ {W A : Type 0} (at : List W → ℕ → A) (g : W → A) (z : A) (none_at : (k : ℕ) → at [] k ≡ z) (first-at : (w : W) (ws : List W) → at (w ∷ ws) 0 ≡ g w) (later-at : (w : W) (ws : List W) (k : ℕ) → at (w ∷ ws) (suc k) ≡ at ws k) where
  later : (w : W) (ws : List W) (i n : ℕ) → records_from (at (w ∷ ws)) (suc i) n ≡ records_from (at ws) i n
  unfolding records_from
  later w ws i zero = refl
  later w ws i (suc n) = λ j. later-at w ws i j ∷ later w ws (suc i) n j

  each : (ws : List W) (m : ℕ) → records_from (at ws) 0 (length ws + m) ≡ map g ws ++ replicate m z
  unfolding records_from
  each [] m = ap (records_from (at []) 0) (zero-add m) ∙ all_alike (at []) z none_at 0 m
  each (w ∷ ws) m = ap (records_from (at (w ∷ ws)) 0) (suc-add (length ws) m) ∙ (λ j. first-at w ws j ∷ (later w ws 0 (length ws + m) ∙ each ws m) j)

  -- ... and f says the same records
  each_as : (f : ℕ → A) (ws : List W) → ((k : ℕ) → f k ≡ at ws k) → (m : ℕ) → records_from f 0 (length ws + m) ≡ map g ws ++ replicate m z
  each_as f ws e m = (λ j. records_from (λ k. e k j) 0 (length ws + m)) ∙ each ws m

module _ {W : Type 0} (flags names types firsts counts : W → ℕ) where
  abbrev pub record_of : W → Member
  record_of w = record { flags = flags w; name = names w; descriptor = types w; first_attribute = firsts w; attributes = counts w }

  abbrev numbers_of : List W → Numbers
  numbers_of ws = record { flags = map flags ws; names = map names ws; types = map types ws; firsts = map firsts ws; counts = map counts ws }

  -- the slices, with zeros up to these lengths
  abbrev pub slices_of : List W → (a b c d e : ℕ) → Numbers
  slices_of ws a b c d e = record { flags = padded 0 a (map flags ws); names = padded 0 b (map names ws); types = padded 0 c (map types ws); firsts = padded 0 d (map firsts ws); counts = padded 0 e (map counts ws) }

  same_at : (ws : List W) (a b c d e k : ℕ) → member_of (slices_of ws a b c d e) k ≡ member_of (numbers_of ws) k
  unfolding member_of
  same_at ws a b c d e k = λ j. record { flags = padded_at a (map flags ws) k j; name = padded_at b (map names ws) k j; descriptor = padded_at c (map types ws) k j; first_attribute = padded_at d (map firsts ws) k j; attributes = padded_at e (map counts ws) k j }

  pub listed : (ws : List W) (a b c d e m : ℕ) → members_from (slices_of ws a b c d e) 0 (length ws + m) ≡ map record_of ws ++ replicate m none
  unfolding member_of
  listed ws a b c d e m = each_as (λ vs. member_of (numbers_of vs)) record_of none (λ k. refl) (λ v vs. refl) (λ v vs k. refl) (member_of (slices_of ws a b c d e)) ws (same_at ws a b c d e) m

module _ {W : Type 0} (titles bodies lengths : W → ℕ) where
  abbrev pub attribute_record : W → Attribute
  attribute_record w = record { name = titles w; body = bodies w; length = lengths w }

  abbrev parts_of : List W → Parts
  parts_of ws = record { titles = map titles ws; bodies = map bodies ws; lengths = map lengths ws }

  abbrev pub attribute_slices : List W → (a b c : ℕ) → Parts
  attribute_slices ws a b c = record { titles = padded 0 a (map titles ws); bodies = padded 0 b (map bodies ws); lengths = padded 0 c (map lengths ws) }

  same_attribute_at : (ws : List W) (a b c k : ℕ) → attribute_of (attribute_slices ws a b c) k ≡ attribute_of (parts_of ws) k
  unfolding attribute_of
  same_attribute_at ws a b c k = λ j. record { name = padded_at a (map titles ws) k j; body = padded_at b (map bodies ws) k j; length = padded_at c (map lengths ws) k j }

  pub attributes_listed : (ws : List W) (a b c m : ℕ) → attributes_from (attribute_slices ws a b c) 0 (length ws + m) ≡ map attribute_record ws ++ replicate m no_attribute
  unfolding attribute_of
  attributes_listed ws a b c m = each_as (λ vs. attribute_of (parts_of vs)) attribute_record no_attribute (λ k. refl) (λ v vs. refl) (λ v vs k. refl) (attribute_of (attribute_slices ws a b c)) ws (same_attribute_at ws a b c) m
