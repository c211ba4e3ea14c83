-- Which numbers a handed table, a lookup and the dependants can be refused with: never 5, in a file of bytes; and where a lookup's own refusals stand. Assumes nothing.
use mathlib.Core.Path.{◌≡◌, refl, ◌∙◌}
use mathlib.Core.Bool.{Bool, true, false}
use mathlib.Core.List.Memᴰ
use mathlib.Core.List.{List, ◌∷◌, ◌++◌}
use Prim.Native.Nat.{ℕ}
use lib.ListN.{length, get_or}
use lib.Dec.{leb, eqb}
use Rattle.reads.specs.Answer.{Answer, accept, refuse, ◌>>=◌, require, each, mapped}
use Rattle.pool.specs.Pool.{Pool, Whole, read_pool}
use Rattle.pool.specs.Readings.{head_of}
use Rattle.pool.proofs.Room.{Bytes}
use Rattle.slot.specs.Slots.{field, in_range, text_at}
use Rattle.handed.specs.Handed.{agree, judged, no_limit, handed, lookup, asked}
use Rattle.handed.proofs.Handed.{same_at}
use Rattle.handed.proofs.Own.{on_own}
use Rattle.values.specs.Lookups as value
use Rattle.lookups.specs.Lookups.{name_slot, named_at, member_at, handle_at, indexed_at}
use Rattle.reach.specs.Reach.{◌∈◌, dependants_in}
use Rattle.dependants.specs.Dependants.{dependants_at, dependants}
use Rattle.byte_tables.specs.Afresh.{afresh}
use Rattle.questions.specs.declared.Question.{Question}
use Rattle.questions.specs.declared.Question.TheVariants.{ClassName, ModuleName, PackageName, MethodType, NameAndType, MemberReference, MethodHandle, Dynamic, InvokeDynamic, Literal, Text, Part}
use Rattle.questions.specs.declared.Reply.{Reply}
use Rattle.questions.specs.Replies.{numbers, slot_values, named_values, member_values, held_values, indexed_values, literal_values, text_values, span_values, reply_at, on_pool}
use Rattle.demands.specs.Calls.{Refuses, Only, OnlyAt}
use Rattle.demands.specs.Numbers.{of_twelve, of_afresh, of_range, of_asked, of_handed, of_index, of_room, of_dependants}
use Rattle.demands.specs.Places.{OfLookup}
use Rattle.demands.proofs.Only.{covers, covered, done, then, need, all, both, wide, wide_here, only, part}
use Rattle.demands.proofs.Numbered.{read_only, unbounded_only, range_at, kind_only_at, text_only_at, checked_only}

-- ---- a handed table

agree_only : (cells table : List ℕ) → Only of_twelve (agree cells table)
unfolding agree
agree_only cells table =
    then (each (length table) 0 (same_at cells table)) _ (all (length table) 0 (same_at cells table) (λ i. need (eqb (get_or table i 0) (get_or cells i 0)) 12 i refl))
    (λ _ _. need (leb (length cells) (length table)) 12 (length table) refl)

pub afresh_only : (s table : List ℕ) (room : ℕ) → Only of_afresh (afresh s table room)
unfolding afresh
afresh_only s table room = then (read_pool s room) _ (wide (read_only s room) refl) (λ w _. wide (agree_only w.pool.cells table) refl)

module _ (s : List ℕ) (b : Bytes s) (table : List ℕ) where
  pub handed_only : Only of_handed (handed s table)
  unfolding handed judged
  handed_only =
      then (read_pool s no_limit) _ (wide (unbounded_only s b) refl) (λ w _.
      then (judged w.pool table) _ (then (agree w.pool.cells table) _ (wide (agree_only w.pool.cells table) refl) (λ _ _. wide (checked_only w.pool) refl)) (λ _ _. done _))

  pub part_handed_only : {A : Type 0} (f : Whole → A) → Only of_handed (mapped f (handed s table))
  part_handed_only f = part f (handed s table) handed_only

  pub head_handed_only : Only of_handed (mapped head_of (handed s table))
  head_handed_only = part_handed_only head_of

  pub lookup_only : {A : Type 0} {ns : List ℕ} (f : Pool → Answer A) → covers ns of_handed ≡ true → ((p : Pool) → Only ns (f p)) → Only ns (lookup s table f)
  unfolding lookup
  lookup_only f h g = then (handed s table) _ (wide handed_only h) (λ w _. g w.pool)

-- ---- what is asked of a pool

pub asked_at : (p : Pool) (allowed n : ℕ) → OnlyAt of_asked n (asked p allowed n)
unfolding asked
asked_at p allowed n = then (in_range p n n) _ (wide_here (range_at p n n) refl) (λ _ _. wide_here (kind_only_at p n allowed n) refl)

asking : {A : Type 0} {ns : List ℕ} (p : Pool) (allowed n : ℕ) (f : Unit {0} → Answer A) → covers ns of_asked ≡ true → OnlyAt ns n (f tt) → OnlyAt ns n (asked p allowed n >>= f)
asking p allowed n f h g = then (asked p allowed n) f (wide_here (asked_at p allowed n) h) (λ _ _. g)

module _ (n : ℕ) (p : Pool) where
  pub literal_asked : OnlyAt of_asked n (value.literal_at n p)
  unfolding value.literal_at
  literal_asked = asking p _ n _ refl (done _)

  pub text_asked : OnlyAt of_asked n (value.text_at n p)
  unfolding value.text_at
  text_asked = asking p _ n _ refl (done _)

  pub span_asked : OnlyAt of_asked n (value.span_at n p)
  unfolding value.span_at
  span_asked = asking p _ n _ refl (done _)

  pub name_asked : (allowed : ℕ) → OnlyAt of_asked n (name_slot allowed n p)
  unfolding name_slot
  name_asked allowed = asking p allowed n _ refl (done _)

  pub named_asked : OnlyAt of_index n (named_at n p)
  unfolding named_at
  named_asked = asking p _ n _ refl (then (text_at p n (field p n 3)) _ (wide_here (text_only_at p n (field p n 3)) refl) (λ _ _. done _))

  pub member_asked : OnlyAt of_asked n (member_at n p)
  unfolding member_at
  member_asked = asking p _ n _ refl (done _)

  pub handle_asked : OnlyAt of_asked n (handle_at n p)
  unfolding handle_at
  handle_asked = asking p _ n _ refl (done _)

  pub indexed_asked : (allowed : ℕ) → OnlyAt of_asked n (indexed_at allowed n p)
  unfolding indexed_at
  indexed_asked allowed = asking p allowed n _ refl (done _)

  listed_asked : (room : ℕ) → Only (of_range ++ of_room) (dependants_at n room p)
  unfolding dependants_at
  listed_asked room =
      then (in_range p n n) _ (wide (only (range_at p n n)) refl) (λ _ _.
      then (require (leb (length (dependants_in p n)) room) 13 (length (dependants_in p n))) _ (need (leb (length (dependants_in p n)) room) 13 (length (dependants_in p n)) refl) (λ _ _. done _))

-- ---- the lookups

module _ (s : List ℕ) (b : Bytes s) (table : List ℕ) (n : ℕ) where
  abbrev Looked : {A : Type 0} → (Pool → Answer A) → Type 0
  Looked f = Refuses (OfLookup s table n) (lookup s table f)

  -- on an accepted table the lookup's own refusal stands at the slot asked for
  looked : {A : Type 0} {ns : List ℕ} (f : ℕ → Pool → Answer A) → ((n : ℕ) (p : Pool) → OnlyAt ns n (f n p)) → covers of_handed ns ≡ true → Looked (f n)
  looked f g h = both (lookup_only s b table (f n) refl (λ p. wide (only (g n p)) h)) (record { with = λ nr place e w o. ((g n w.pool).with nr place (e ∙ on_own s table w o (f n))).1 })

  pub literal_looked : Looked (value.literal_at n)
  literal_looked = looked value.literal_at literal_asked refl

  pub text_looked : Looked (value.text_at n)
  text_looked = looked value.text_at text_asked refl

  pub span_looked : Looked (value.span_at n)
  span_looked = looked value.span_at span_asked refl

  pub name_looked : (allowed : ℕ) → Looked (name_slot allowed n)
  name_looked allowed = looked (name_slot allowed) (λ m p. name_asked m p allowed) refl

  pub named_looked : Looked (named_at n)
  named_looked = looked named_at named_asked refl

  pub member_looked : Looked (member_at n)
  member_looked = looked member_at member_asked refl

  pub handle_looked : Looked (handle_at n)
  handle_looked = looked handle_at handle_asked refl

  pub indexed_looked : (allowed : ℕ) → Looked (indexed_at allowed n)
  indexed_looked allowed = looked (indexed_at allowed) (λ m p. indexed_asked m p allowed) refl

  pub dependants_only : (room : ℕ) → Only of_dependants (dependants s table n room)
  dependants_only room = lookup_only s b table (dependants_at n room) refl (λ p. wide (listed_asked n p room) refl)

-- ---- a reply in numbers

module _ {A : Type 0} {ns : List ℕ} (values : A → Reply) (some : (a : A) → (values a).refusal ≡ 0) where
  reply_in : (x : Answer A) → Only ns x → (numbers values x).refusal ∈ 0 ∷ ns
  reply_in (accept a) h = Memᴰ.head (some a)
  reply_in (refuse nr place) h = Memᴰ.tail (h.with nr place refl)

text_some : (b : Bool) → (text_values b).refusal ≡ 0
text_some true = refl
text_some false = refl

reply_only : (q : Question) (n : ℕ) (p : Pool) → (reply_at q n p).refusal ∈ 0 ∷ of_index
reply_only ClassName n p = reply_in slot_values (λ _. refl) _ (wide (only (name_asked n p _)) refl)
reply_only ModuleName n p = reply_in slot_values (λ _. refl) _ (wide (only (name_asked n p _)) refl)
reply_only PackageName n p = reply_in slot_values (λ _. refl) _ (wide (only (name_asked n p _)) refl)
reply_only MethodType n p = reply_in slot_values (λ _. refl) _ (wide (only (name_asked n p _)) refl)
reply_only NameAndType n p = reply_in named_values (λ _. refl) _ (only (named_asked n p))
reply_only MemberReference n p = reply_in member_values (λ _. refl) _ (wide (only (member_asked n p)) refl)
reply_only MethodHandle n p = reply_in held_values (λ _. refl) _ (wide (only (handle_asked n p)) refl)
reply_only Dynamic n p = reply_in indexed_values (λ _. refl) _ (wide (only (indexed_asked n p _)) refl)
reply_only InvokeDynamic n p = reply_in indexed_values (λ _. refl) _ (wide (only (indexed_asked n p _)) refl)
reply_only Literal n p = reply_in literal_values (λ _. refl) _ (wide (only (literal_asked n p)) refl)
reply_only Text n p = reply_in text_values text_some _ (wide (only (text_asked n p)) refl)
reply_only Part n p = reply_in span_values (λ _. refl) _ (wide (only (span_asked n p)) refl)

pool_replied : (q : Question) (n : ℕ) (x : Answer Whole) → Only of_handed x → (on_pool (reply_at q n) x).refusal ∈ 0 ∷ of_handed
pool_replied q n (accept w) h = covered (0 ∷ of_handed) (0 ∷ of_index) refl _ (reply_only q n w.pool)
pool_replied q n (refuse nr place) h = Memᴰ.tail (h.with nr place refl)

pub reply_numbered : (s : List ℕ) → Bytes s → (table : List ℕ) (q : Question) (n : ℕ) → (on_pool (reply_at q n) (handed s table)).refusal ∈ 0 ∷ of_handed
reply_numbered s b table q n = pool_replied q n (handed s table) (handed_only s b table)
