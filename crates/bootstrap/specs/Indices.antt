-- Every Dynamic and InvokeDynamic entry names a method of the one BootstrapMethods. Document 01, "Members and lookups". Assumes nothing.
use Rattle.std.specs.Prelude.{ℕ, ◌+◌, min, List, [], ◌∷◌, Bool, true, not, ◌&&◌, ◌||◌, cond, ltb, eqb, Option, None, Some}
use Rattle.reads.specs.Answer.{Check, fine, ◌>>=◌, require, each}
use Rattle.reads.specs.Bytes.{num2}
use Rattle.pool.specs.Kinds as kind
use Rattle.pool.specs.Pool.{Pool, slots}
use Rattle.slot.specs.Slots.{tag_of, field}
use Rattle.bootstrap.specs.Bootstrap.{is_bootstrap}
use Rattle.bootstrap.specs.declared.Found.{Found}

-- The class's own attributes are given as two lists: the slots of their names, and where their bodies begin.

-- how many of them are BootstrapMethods
unfoldable pub bootstraps : Pool → List ℕ → List ℕ → ℕ
bootstraps p [] bodies = 0
bootstraps p (m ∷ titles) [] = 0
bootstraps p (m ∷ titles) (b ∷ bodies) = cond (is_bootstrap p m) 1 0 + bootstraps p titles bodies

-- the index i is below the number of methods of each that is
unfoldable pub below_each : Pool → ℕ → List ℕ → List ℕ → Bool
below_each p i [] bodies = true
below_each p i (m ∷ titles) [] = true
below_each p i (m ∷ titles) (b ∷ bodies) = (not (is_bootstrap p m) || ltb i (num2 p.file b)) && below_each p i titles bodies

-- the tag of an entry that names a method of it
unfoldable pub dynamic : ℕ → Bool
dynamic t = eqb t kind.dynamic || eqb t kind.invoke_dynamic

unfoldable pub bootstrap_index : Pool → List ℕ → List ℕ → ℕ → Check
bootstrap_index p titles bodies n =
    cond (dynamic (tag_of p n))
    (do
      _ ← require (below_each p (field p n 1) titles bodies) 17 n
      require (eqb (bootstraps p titles bodies) 1) 16 n)
    fine

unfoldable pub bootstrap_indices : Pool → List ℕ → List ℕ → Check
bootstrap_indices p titles bodies = each (slots p) 0 (bootstrap_index p titles bodies)

-- ---- the same in one pass over the attributes: how many there are, and the least number of methods of one

abbrev pub none : Found
none = record { count = 0; least = None }

-- the least so far, and one more
abbrev pub lesser : Option ℕ → ℕ → ℕ
lesser None n = n
lesser (Some m) n = min m n

unfoldable pub joined : Pool → Found → ℕ → ℕ → Found
joined p f m b = cond (is_bootstrap p m) (record { count = f.count + 1; least = Some (lesser f.least (num2 p.file b)) }) f

unfoldable pub gathered : Pool → List ℕ → List ℕ → Found → Found
gathered p [] bodies f = f
gathered p (m ∷ titles) [] f = f
gathered p (m ∷ titles) (b ∷ bodies) f = gathered p titles bodies (joined p f m b)

-- an index below the least, if there is one
abbrev pub below : ℕ → Option ℕ → Bool
below i None = true
below i (Some m) = ltb i m

unfoldable pub judged : Pool → Found → ℕ → Check
judged p f n =
    cond (dynamic (tag_of p n))
    (do
      _ ← require (below (field p n 1) f.least) 17 n
      require (eqb f.count 1) 16 n)
    fine
