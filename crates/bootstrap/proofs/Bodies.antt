-- What an accepted read of a body says, and a loop of steps through it. Assumes nothing.
use mathlib.Core.Path.{◌≡◌, ap, sym, ◌∙◌}
use Prim.Native.Nat.{ℕ, suc, ◌+◌, ◌-◌, ◌≤◌, ◌<◌}
use native.Mathlib.Omega.{arith}
use Rattle.reads.specs.Answer.{Answer, accept, refuse, ◌>>=◌}
use Rattle.reads.proofs.Leaves.{was_inside}
use Rattle.pool.specs.Pool.{Pool}
use Rattle.bootstrap.specs.Bootstrap.{body_u2, steps}

pub body_in : (p : Pool) (at end i v : ℕ) → accept v ≡ body_u2 p at end i → i + 2 ≤ end
unfolding body_u2
body_in p at end i v e = (was_inside _ end 18 at i 2 v e).0

-- a loop of k steps, the n-th of which stands at byte i
module _ (step : ℕ → Answer ℕ) (k n i : ℕ) where
  go : n < k → steps step (k - n) i ≡ (step i >>= λ next. steps step (k - (n + 1)) next)
  unfolding steps
  go h =
      let e : k - n ≡ suc (k - (n + 1)) = omega arith in
      ap (λ (j : ℕ). steps step j i) e

  pub steps_go : (next : ℕ) → n < k → accept next ≡ step i → steps step (k - (n + 1)) next ≡ steps step (k - n) i
  steps_go next h e = sym (go h ∙ rw (← e))

  pub steps_stop : (nr place : ℕ) → n < k → refuse nr place ≡ step i → refuse nr place ≡ steps step (k - n) i
  steps_stop nr place h e = sym (go h ∙ rw (← e))

  pub steps_done : k ≤ n → accept i ≡ steps step (k - n) i
  unfolding steps
  steps_done h =
      let e : k - n ≡ 0 = omega arith in
      rw e
