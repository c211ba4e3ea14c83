-- Which slots refer to which, what is reached, and the list of dependants. Document 01, "Pool slots" and demand 3. Assumes nothing.
use Rattle.std.specs.Prelude.{ℕ, zero, suc, Bool, false, ◌||◌, cond, eqb}
use mathlib.Core.List.{List, [], ◌∷◌, ◌++◌, Memᴰ}
use Rattle.pool.specs.Rows.{one, other, row_of}
use Rattle.pool.specs.Pool.{Pool, slots}
use Rattle.slot.specs.Slots.{tag_of, field}

-- a number stands in a list
infix 20 ◌∈◌
abbrev pub ◌∈◌ : ℕ → List ℕ → Type 0
x ∈ xs = Memᴰ x xs

-- ---- references

-- the slot that slot n names k bytes after its tag byte; none where k is 0
unfoldable pub named : Pool → ℕ → ℕ → List ℕ
named p n k = cond (eqb k 0) [] (field p n k ∷ [])

-- the slots that slot n refers to: the first u2 of a Dynamic and of an InvokeDynamic is none of them
unfoldable pub refers_to : Pool → ℕ → List ℕ
refers_to p n = named p n (one (row_of (tag_of p n))) ++ named p n (other (row_of (tag_of p n)))

abbrev pub Refers : Pool → ℕ → ℕ → Type 0
Refers p a b = b ∈ refers_to p a

-- slot b is reached from slot a along one or more references
pub data Reach (p : Pool) : ℕ → ℕ → Type 0 where
  direct : {a b : ℕ} → Refers p a b → Reach p a b
  along : {a b c : ℕ} → Refers p a b → Reach p b c → Reach p a c

-- k references, one after the other, from slot a on
pub data Chain (p : Pool) : ℕ → ℕ → Type 0 where
  stop : {a : ℕ} → Chain p 0 a
  step : {k a b : ℕ} → Refers p a b → Chain p k b → Chain p (suc k) a

-- ---- the list of dependants

-- one of a list passes a test
unfoldable pub any_of : (ℕ → Bool) → List ℕ → Bool
any_of test [] = false
any_of test (x ∷ xs) = test x || any_of test xs

-- slot b is reached from slot a along at most k references, as a test
unfoldable pub reaches : ℕ → Pool → ℕ → ℕ → Bool
reaches zero p a b = false
reaches (suc k) p a b = any_of (λ x. eqb x b || reaches k p x b) (refers_to p a)

-- the numbers below k that pass a test, rising
unfoldable pub sieve : (ℕ → Bool) → ℕ → List ℕ
sieve test zero = []
sieve test (suc k) = sieve test k ++ cond (test k) (k ∷ []) []

-- every slot that reaches slot b
unfoldable pub dependants_in : Pool → ℕ → List ℕ
dependants_in p b = sieve (λ a. reaches 3 p a b) (slots p)

-- every slot that slot a reaches
unfoldable pub needs_in : Pool → ℕ → List ℕ
needs_in p a = sieve (λ b. reaches 3 p a b) (slots p)
