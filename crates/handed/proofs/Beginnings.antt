-- A call on a handed table looks at nothing after the pool: a file that begins alike is answered alike. Assumes nothing.
use mathlib.Core.Path.{◌≡◌, refl, ◌∙◌}
use mathlib.Core.List.{List}
use Prim.Native.Nat.{ℕ, ◌≤◌}
use lib.ListN.{length}
use Rattle.reads.specs.Answer.{Check, accept, refuse, ◌>>=◌, mapped}
use Rattle.pool.specs.Pool.{Whole, read_pool}
use Rattle.pool.specs.Beginnings.{Begins}
use Rattle.pool.proofs.Settling.{read_there}
use Rattle.checks.specs.Beginnings.{of_file}
use Rattle.checks.proofs.Beginnings.{same_checks}
use Rattle.handed.specs.Handed.{agree, judged, no_limit, handed}

read_first : (t table : List ℕ) (w : Whole) (x : Check) → accept w ≡ read_pool t no_limit → judged w.pool table ≡ x → handed t table ≡ (x >>= λ _. accept w)
unfolding handed
read_first t table w x e q = rw (← e, q) refl

module _ (s table : List ℕ) (w : Whole) (e : accept w ≡ read_pool s no_limit) (t : List ℕ) (b : Begins w.next s t) (l : length t ≤ 16777216) where
  same_judged : judged (of_file t w).pool table ≡ judged w.pool table
  unfolding judged
  same_judged = λ i. agree w.pool.cells table >>= λ _. same_checks s no_limit w e t b i

  -- accepted with the same cells, versions and end, or refused so
  pub same_handed : handed t table ≡ mapped (of_file t) (handed s table)
  same_handed = go (judged w.pool table) refl
    where
      go : (x : Check) → judged w.pool table ≡ x → handed t table ≡ mapped (of_file t) (handed s table)
      go (accept u) q =
          let y = read_first s table w (accept u) e q in
          rw y (read_first t table (of_file t w) (accept u) (read_there s no_limit w e t b l) (same_judged ∙ q))
      go (refuse nr place) q =
          let y = read_first s table w (refuse nr place) e q in
          rw y (read_first t table (of_file t w) (refuse nr place) (read_there s no_limit w e t b l) (same_judged ∙ q))
