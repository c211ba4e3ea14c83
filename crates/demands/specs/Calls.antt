-- A statement: what demand 1 says of a call, of the outcomes that its contract allows. Assumes nothing.
-- `allowed z e` is the contract at given arguments: z is what is answered, e the arguments at exit. The kit makes it of the contract's own text, `Learnt` of `Rattle.CRATE.proofs.FUNCTION.Reads`.
use Rattle.std.specs.Prelude.{ℕ, ◌/◌, ◌≡◌, List, ◌↔◌, replicate}
use Rattle.std.specs.Borrow.{Bor}
use Rattle.reads.specs.Answer.{Answer, accept, refuse, mapped}
use Rattle.reads.specs.Promise.{Reading, Is}
use Rattle.reads.specs.Tables.{after}
use Rattle.cells.specs.Cells.{as_bytes}
use Rattle.reach.specs.Reach.{◌∈◌}

-- ---- refusals

-- P holds of a refusal's number and place
pub record Refuses {A : Type 0} (P : ℕ → ℕ → Type 0) (x : Answer A) : Type 0 where
  pub with : (nr place : ℕ) → refuse nr place ≡ x → P nr place

-- one of these numbers
abbrev pub Among : List ℕ → ℕ → ℕ → Type 0
Among numbers nr place = nr ∈ numbers

-- ... at that place
abbrev pub AmongAt : List ℕ → ℕ → ℕ → ℕ → Type 0
AmongAt numbers there nr place = (nr ∈ numbers) × (place ≡ there)

abbrev pub Only : {A : Type 0} → List ℕ → Answer A → Type 0
Only numbers x = Refuses (Among numbers) x

abbrev pub OnlyAt : {A : Type 0} → List ℕ → ℕ → Answer A → Type 0
OnlyAt numbers there x = Refuses (AmongAt numbers there) x

-- ---- a call that never refuses

-- what is seen of every outcome is v, so that no two outcomes differ in it
pub record Gives {Z E B : Type 0} (allowed : Z → E → Type 0) (see : Z → E → B) (v : B) : Type 0 where
  pub says : (z : Z) (e : E) → allowed z e → see z e ≡ v
  pub once : (y z : Z) (d e : E) → allowed y d → allowed z e → see y d ≡ see z e

-- the answer itself
abbrev pub Equals : {Z E : Type 0} → (Z → E → Type 0) → Z → Type 0
Equals allowed v = Gives allowed (λ z _. z) v

-- the bytes that it lends
abbrev pub Hands : {E : Type 0} → (Bor (List ℕ) → E → Type 0) → List ℕ → Type 0
Hands allowed v = Gives allowed (λ z _. z.now) v

-- what it leaves in a table
abbrev pub Leaves : {Z E T : Type 0} → (Z → E → Type 0) → (E → T) → T → Type 0
Leaves allowed left t = Gives allowed (λ _ e. left e) t

-- ---- a call whose answer w reads

-- every outcome answers x, no two differ, and P holds of a refusal
pub record Answers {Z E A : Type 0} (allowed : Z → E → Type 0) (w : Reading Z (Answer A)) (x : Answer A) (P : ℕ → ℕ → Type 0) : Type 0 where
  pub says : (z : Z) (e : E) → allowed z e → Is w x z
  pub once : (y z : Z) (d e : E) → allowed y d → allowed z e → y ≡ z
  pub refused : (z : Z) (e : E) → allowed z e → (nr place : ℕ) → Is w (refuse nr place) z → P nr place

-- ... and leaves t in the lent tables that it writes: zeros after a refusal
pub record Writes {Z E A T : Type 0} (allowed : Z → E → Type 0) (w : Reading Z (Answer A)) (x : Answer A) (left : E → T) (t zeros : T) (P : ℕ → ℕ → Type 0) : Type 0 where
  pub says : (z : Z) (e : E) → allowed z e → Is w x z × (left e ≡ t)
  pub once : (y z : Z) (d e : E) → allowed y d → allowed z e → (y ≡ z) × (left d ≡ left e)
  pub refused : (z : Z) (e : E) → allowed z e → (nr place : ℕ) → Is w (refuse nr place) z → P nr place × (left e ≡ zeros)

-- ---- a call for C tells its answer in a struct of numbers

-- the number of the refusal, 0 for none, and its place are among them
pub record Telling (Z A : Type 0) : Type 0 where
  pub tell : Answer A → Z
  pub refusal : Z → ℕ
  pub place : Z → ℕ
  pub some : (a : A) → refusal (tell (accept a)) ≡ 0
  pub none : (nr byte : ℕ) → (refusal (tell (refuse nr byte)) ≡ nr) × (place (tell (refuse nr byte)) ≡ byte)

-- every outcome tells x and leaves t, no two differ; its refusal is 0 exactly where x is accepted, else it and its place are those of x, P holds of them, and the tables are zero
pub record Tells {Z E A T : Type 0} (allowed : Z → E → Type 0) (v : Telling Z A) (x : Answer A) (left : E → T) (t zeros : T) (P : ℕ → ℕ → Type 0) : Type 0 where
  pub says : (z : Z) (e : E) → allowed z e → (z ≡ v.tell x) × (left e ≡ t)
  pub once : (y z : Z) (d e : E) → allowed y d → allowed z e → (y ≡ z) × (left d ≡ left e)
  pub accepted : (z : Z) (e : E) → allowed z e → (v.refusal z ≡ 0) ↔ ((a : A) × (accept a ≡ x))
  pub refused : (z : Z) (e : E) → allowed z e → (v.refusal z ≡ 0 → ⊥) → (refuse (v.refusal z) (v.place z) ≡ x) × (P (v.refusal z) (v.place z) × (left e ≡ zeros))

-- ... with no table
abbrev pub TellsOnly : {Z E A : Type 0} → (Z → E → Type 0) → Telling Z A → Answer A → (ℕ → ℕ → Type 0) → Type 0
TellsOnly allowed v x P = Tells {T = Unit {0}} allowed v x (λ _. tt) tt tt P

-- ---- one lent table of `len` cells, or of `len` bytes: what it holds of the answer x, of which f is told

-- such bytes stand for what the cells are then
abbrev pub bytes_after : {X : Type 0} → (X → List ℕ) → ℕ → Answer X → List ℕ
bytes_after holds len x = as_bytes len (after 0 holds (len / 4) x)

abbrev pub Fills : {Z E A X : Type 0} → (Z → E → Type 0) → Reading Z (Answer A) → (X → A) → Answer X → (E → List ℕ) → (X → List ℕ) → ℕ → (ℕ → ℕ → Type 0) → Type 0
Fills allowed w f x left holds len P = Writes allowed w (mapped f x) left (after 0 holds len x) (replicate len 0) P

abbrev pub FillsBytes : {Z E A X : Type 0} → (Z → E → Type 0) → Reading Z (Answer A) → (X → A) → Answer X → (E → List ℕ) → (X → List ℕ) → ℕ → (ℕ → ℕ → Type 0) → Type 0
FillsBytes allowed w f x left holds len P = Writes allowed w (mapped f x) left (bytes_after holds len x) (replicate len 0) P

abbrev pub TellsCells : {Z E A X : Type 0} → (Z → E → Type 0) → Telling Z A → (X → A) → Answer X → (E → List ℕ) → (X → List ℕ) → ℕ → (ℕ → ℕ → Type 0) → Type 0
TellsCells allowed v f x left holds len P = Tells allowed v (mapped f x) left (after 0 holds len x) (replicate len 0) P

abbrev pub TellsBytes : {Z E A X : Type 0} → (Z → E → Type 0) → Telling Z A → (X → A) → Answer X → (E → List ℕ) → (X → List ℕ) → ℕ → (ℕ → ℕ → Type 0) → Type 0
TellsBytes allowed v f x left holds len P = Tells allowed v (mapped f x) left (bytes_after holds len x) (replicate len 0) P
