-- Records judged in order, and the columns of lent tables that they go into. Document 01, "File and lent tables". Assumes nothing.
use Rattle.std.specs.Prelude.{ℕ, zero, suc, ◌+◌, List, [], ◌∷◌, map, length, set, replicate}
use Rattle.reads.specs.Answer.{Answer, accept, refuse, ◌>>=◌}

-- records in order, and what is reached after the last
pub record Many (R S : Type 0) : Type 0 where
  pub list : List R
  pub end : S

-- k records, the first of them number n: each is judged by its number and by what was reached before it
unfoldable pub records : {R S : Type 0} → (ℕ → S → Answer R) → (R → S → S) → ℕ → ℕ → S → Answer (Many R S)
records judge reach zero n s = accept (record { list = []; end = s })
records judge reach (suc k) n s = do
  r ← judge n s
  rest ← records judge reach k (n + 1) (reach r s)
  accept (record { list = r ∷ rest.list; end = rest.end })

-- ---- columns

-- these cells from cell n on, in place of what stood there
unfoldable pub placed : {A : Type 0} → List A → ℕ → List A → List A
placed t n [] = t
placed t n (x ∷ xs) = placed (set t n x) (n + 1) xs

-- one number of each record
abbrev pub column : {R S : Type 0} → (R → ℕ) → Many R S → List ℕ
column f m = map f m.list

-- a lent table that held t, after a call that answered so: what the answer puts there from cell n on, or zeros alone after a refusal
abbrev pub stored : {X : Type 0} → (X → List ℕ) → List ℕ → ℕ → Answer X → List ℕ
stored holds t n (accept x) = placed t n (holds x)
stored holds t n (refuse nr place) = replicate (length t) 0
