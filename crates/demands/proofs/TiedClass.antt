-- Demand 1 for the calls on a class and its records, from their contracts: a line for each. Assumes nothing.
use Prim.Native.Nat.{ℕ}
use mathlib.Core.Path.{◌≡◌, refl, ap, ◌∙◌}
use mathlib.Core.Bool.{Bool}
use mathlib.Core.List.{List, [], ◌∷◌}
use lib.ListN.{length, get_or, take, drop, replicate}
use denote.Ref.{Bor, MutBor}
use borrow.Fn.Claims.{AllOf}
use Rattle.std.specs.Prelude.{Result}
use Rattle.reads.specs.declared.Refusal.{Refusal}
use Rattle.reads.specs.Answer.{Answer, refuse, mapped}
use Rattle.reads.specs.Promise.{Is, answered}
use Rattle.pool.specs.Pool.{Pool}
use Rattle.slot.specs.declared.Pool.{Pool as LentPool}
use Rattle.slot.specs.Shown.{shown}
use Rattle.bootstrap.specs.Bootstrap.{own_body}
use Rattle.bootstrap.specs.Indices.{bootstrap_indices}
use Rattle.bootstrap.proofs.check_own.Reads as check_own_reads
use Rattle.bootstrap.proofs.check_indices.Reads as check_indices_reads
use Rattle.attributes.specs.Attributes.{record_at}
use Rattle.attributes.proofs.record_at.Reads as record_at_reads
use Rattle.member.specs.declared.Sort.{Sort}
use Rattle.member.specs.Member.{member_at}
use Rattle.member.proofs.member_at.Reads as member_at_reads
use Rattle.class_head.specs.Header.{head_at, interfaces_at}
use Rattle.class_head.specs.Readings.{listed_of}
use Rattle.class_head.proofs.read_head.Reads as read_head_reads
use Rattle.class_head.proofs.read_interfaces.Reads as read_interfaces_reads
use Rattle.class.specs.Columns.{Columns, Flags, Names, Types, Firsts, Counts, lent, rooms_of, zeros}
use Rattle.class.specs.Class.{Class, class_file}
use Rattle.class.specs.Readings.{class_of}
use Rattle.class.specs.declared.Class.{Class as Accepted}
use Rattle.class.proofs.read_class.Reads as read_class_reads
use Rattle.records.specs.declared.Member.{Member}
use Rattle.records.specs.declared.Attribute.{Attribute}
use Rattle.records.specs.Records.{Numbers, member_of, members_from, none, Parts, attribute_of, attributes_from, no_attribute}
use Rattle.records.proofs.Zeros.{refused as none_recorded}
use Rattle.records.proofs.member_of.Reads as member_of_reads
use Rattle.records.proofs.attribute_of.Reads as attribute_of_reads
use Rattle.records.specs.contracts.member_records as member_records_contract
use Rattle.records.specs.contracts.record_at as member_record_at_contract
use Rattle.records.specs.contracts.attribute_records as attribute_records_contract
use Rattle.records.specs.contracts.attribute_at as attribute_at_contract
use Rattle.class_records.specs.ClassRecords.{rooms_with, class_with}
use Rattle.class_records.specs.contracts.read_class_records as read_class_records_contract
use Rattle.demands.specs.Calls.{Among, Equals, Answers, Writes, Fills}
use Rattle.demands.specs.Clauses.{Claims}
use Rattle.demands.specs.Lent.{Lent, LentRecords, file_into, no_file, records_into, no_records}
use Rattle.demands.specs.Records.{numbers_of}
use Rattle.demands.specs.Numbers.{of_head, of_interfaces, of_body, of_indices, of_own, of_member}
use Rattle.demands.specs.Places.{OfFile}
use Rattle.demands.proofs.Only.{both}
use Rattle.demands.proofs.Kept.{gives, answers, writes_part, fills}
use Rattle.demands.proofs.NumberedClass.{own_body_only, indices_only, own_record_only, member_only, head_only, interfaces_only, file_only}
use Rattle.demands.proofs.PlacesClass.{class_placed}

-- ---- the class's parts

module _ (pool : Bor LentPool) where
  -- the pool that they are seen as
  abbrev p : Pool
  p = shown pool.now

  pub bootstrap-check_own : (κs : _) (at name start end : ℕ) → Answers (check_own_reads.Learnt κs (pool, (at, (name, (start, (end, tt)))))) answered (own_body p at name start end) (Among of_body)
  bootstrap-check_own κs at name start end = answers (λ z e h. h) (own_body_only p at name start end)

  pub bootstrap-check_indices : (κs : _) (names bodies : Bor (List ℕ)) (first count : ℕ) → Answers (check_indices_reads.Learnt κs (pool, (names, (bodies, (first, (count, tt)))))) answered
      (bootstrap_indices p (take count (drop first names.now)) (take count (drop first bodies.now))) (Among of_indices)
  bootstrap-check_indices κs names bodies first count = answers (λ z e h. h) (indices_only p _ _)

  pub attributes-record_at : (κs : _) (own : Bool) (room n at : ℕ) → Answers (record_at_reads.Learnt κs (own, (pool, (room, (n, (at, tt)))))) answered (record_at own p room n at) (Among of_own)
  attributes-record_at κs own room n at = answers (λ z e h. h) (own_record_only own p room n at)

  pub member-member_at : (κs : _) (k : Sort) (room n at : ℕ) (names types : Bor (List ℕ)) → Answers (member_at_reads.Learnt κs (k, (pool, (room, (n, (at, (names, (types, tt)))))))) answered
      (member_at k p room n at names.now types.now) (Among of_member)
  member-member_at κs k room n at names types = answers (λ z e h. h) (member_only k p room n at names.now types.now)

  pub class_head-read_head : (κs : _) (at : ℕ) → Answers (read_head_reads.Learnt κs (pool, (at, tt))) answered (head_at p at) (Among of_head)
  class_head-read_head κs at = answers (λ z e h. h) (head_only p at)

  pub class_head-read_interfaces : (κs : _) (at : ℕ) (list : MutBor (List ℕ)) → let room = length list.now in
      Fills (read_interfaces_reads.Learnt κs (pool, (at, (list, tt)))) answered listed_of (interfaces_at p room at) (λ e. e.1.1.0.now) (λ m. m.list) room (Among of_interfaces)
  class_head-read_interfaces κs at list = fills listed_of (λ m. m.list) _ _ (λ z e h. h) (interfaces_only p _ at)

-- ---- a whole file, into the pool's table, the interfaces and eight columns

abbrev Slice : Type 0
Slice = Bor (List ℕ)

abbrev LentSlice : Type 0
LentSlice = MutBor (List ℕ)

-- the file, the pool's table, the interfaces, the columns; and further ones
abbrev pub Slices : Type 0 → Type 0
Slices More = Slice × (LentSlice × (LentSlice × (LentSlice × (LentSlice × (LentSlice × (LentSlice × (LentSlice × (LentSlice × (LentSlice × (LentSlice × More))))))))))

-- what they hold
abbrev pub lent_in : {More : Type 0} → Slices More → Lent
lent_in a =
    let t = a.1.1.1 in
    let u = t.1.1.1.1.1 in
    record { cells = a.1.0.now; interfaces = a.1.1.0.now; columns = lent t.0.now t.1.0.now t.1.1.0.now t.1.1.1.0.now t.1.1.1.1.0.now u.0.now u.1.0.now u.1.1.0.now }

abbrev more : {More : Type 0} → Slices More → More
more a = a.1.1.1.1.1.1.1.1.1.1.1

module _ {More : Type 0} (a : Slices More) where
  abbrev pub s : List ℕ
  s = a.0.now

  abbrev pub room : ℕ
  room = length (lent_in a).cells

  abbrev pub len : ℕ
  len = length (lent_in a).interfaces

  abbrev pub c : Columns
  c = (lent_in a).columns

module _ (a : Slices (Unit {0})) where
  abbrev pub x : Answer Class
  x = class_file (s a) (rooms_of (room a) (len a) (c a))

  pub class-read_class : (κs : _) → Writes (read_class_reads.Learnt κs a) answered (mapped class_of x) lent_in (file_into (room a) (len a) (c a) x) (no_file (room a) (len a) (c a)) (OfFile (s a) (room a))
  class-read_class κs =
      writes_part class_of (file_into (room a) (len a) (c a)) x (λ _ _. refl)
      (λ z e h. (h.0, λ i. record { cells = h.1.0 i; interfaces = h.1.1.0 i; columns = h.1.1.1 i })) (both (file_only (s a) _) (class_placed (s a) _))

  -- records made of the columns that a refusal leaves are of zeros
  pub records-cleared : (κs : _) (z : Result Accepted Refusal) (e : Slices (Unit {0})) → read_class_reads.Learnt κs a z e → (nr place n : ℕ) → Is answered (refuse nr place) z → members_from (numbers_of (lent_in e).columns) 0 n ≡ replicate n none
  records-cleared κs z e h nr place n q =
      let k : (lent_in e).columns ≡ zeros (c a) = ap (λ (l : Lent). l.columns) ((class-read_class κs).refused z e h nr place q).1 in
      ap (λ (d : Columns). members_from (numbers_of d) 0 n) k ∙ (none_recorded (length ((c a).member Flags)) (length ((c a).member Names)) (length ((c a).member Types)) (length ((c a).member Firsts)) (length ((c a).member Counts)) 0 n)

-- ---- records

module _ (flags names types firsts counts : Slice) where
  abbrev numbers : Numbers
  numbers = record { flags = flags.now; names = names.now; types = types.now; firsts = firsts.now; counts = counts.now }

  pub records-member_of : (κs : _) (i : ℕ) → Equals (member_of_reads.Learnt κs (flags, (names, (types, (firsts, (counts, (i, tt))))))) (member_of numbers i)
  records-member_of κs i = gives (λ z e h. h)

  pub records-member_records : (κs : _) (records : MutBor (List Member)) → Claims member_records_contract.ended (λ M 𝓤 𝓛. member_records_contract.clauses 𝓛) κs (flags, (names, (types, (firsts, (counts, (records, tt))))))
      (λ z e. (e.1.1.1.1.1.0.now ≡ members_from numbers 0 (length records.now)) ∷ [])
  records-member_records κs records = record { text = λ w g z e. refl }

module _ (titles bodies lengths : Slice) where
  abbrev parts : Parts
  parts = record { titles = titles.now; bodies = bodies.now; lengths = lengths.now }

  pub records-attribute_of : (κs : _) (i : ℕ) → Equals (attribute_of_reads.Learnt κs (titles, (bodies, (lengths, (i, tt))))) (attribute_of parts i)
  records-attribute_of κs i = gives (λ z e h. h)

  pub records-attribute_records : (κs : _) (records : MutBor (List Attribute)) → Claims attribute_records_contract.ended (λ M 𝓤 𝓛. attribute_records_contract.clauses 𝓛) κs (titles, (bodies, (lengths, (records, tt))))
      (λ z e. (e.1.1.1.0.now ≡ attributes_from parts 0 (length records.now)) ∷ [])
  records-attribute_records κs records = record { text = λ w g z e. refl }

pub records-record_at : (κs : _) (records : Bor (List Member)) (i : ℕ) → Claims member_record_at_contract.ended (λ M 𝓤 𝓛. member_record_at_contract.clauses 𝓛) κs (records, (i, tt)) (λ z e. (z ≡ get_or records.now i none) ∷ [])
records-record_at κs records i = record { text = λ w g z e. refl }

pub records-attribute_at : (κs : _) (records : Bor (List Attribute)) (i : ℕ) → Claims attribute_at_contract.ended (λ M 𝓤 𝓛. attribute_at_contract.clauses 𝓛) κs (records, (i, tt)) (λ z e. (z ≡ get_or records.now i no_attribute) ∷ [])
records-attribute_at κs records i = record { text = λ w g z e. refl }

-- ---- a whole file with its records, in the least of the rooms: every table zero after a refusal, those of records too

abbrev WithRecords : Type 0
WithRecords = Slices (MutBor (List Member) × (MutBor (List Attribute) × Unit {0}))

abbrev all_in : WithRecords → LentRecords
all_in a = record { lent = lent_in a; records = (more a).0.now; attributes = (more a).1.0.now }

module _ (a : WithRecords) where
  abbrev n : ℕ
  n = length (all_in a).records

  abbrev k : ℕ
  k = length (all_in a).attributes

  abbrev y : Answer Class
  y = class_with (s a) (room a) (len a) (c a) n k

  -- its three clauses
  abbrev claimed : (Result Accepted Refusal) → WithRecords → List (Type 0)
  claimed z e =
      let t = records_into (room a) (len a) (c a) n k y in
      Is answered (mapped class_of y) z
      ∷ (((lent_in e).cells ≡ t.lent.cells) × (((lent_in e).interfaces ≡ t.lent.interfaces) × ((lent_in e).columns ≡ t.lent.columns)))
      ∷ (((all_in e).records ≡ t.records) × ((all_in e).attributes ≡ t.attributes)) ∷ []

  pub class_records-read_class_records : (κs : _) → Claims read_class_records_contract.ended (λ M 𝓤 𝓛. read_class_records_contract.clauses 𝓛) κs a claimed
  class_records-read_class_records κs = record { text = λ w g z e. refl }

  pub class_records-kept : Writes (λ z e. AllOf (claimed z e)) answered (mapped class_of y) all_in (records_into (room a) (len a) (c a) n k y) (no_records (room a) (len a) (c a) n k) (OfFile (s a) (room a))
  class_records-kept =
      writes_part class_of (records_into (room a) (len a) (c a) n k) y (λ _ _. refl)
      (λ z e h. (h.0, λ i. record { lent = record { cells = h.1.0.0 i; interfaces = h.1.0.1.0 i; columns = h.1.0.1.1 i }; records = h.1.1.0 i; attributes = h.1.1.1 i }))
      (both (file_only (s a) (rooms_with (room a) (len a) (c a) n k)) (class_placed (s a) (rooms_with (room a) (len a) (c a) n k)))
