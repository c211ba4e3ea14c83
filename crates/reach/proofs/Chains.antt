-- No chain of references in a checked pool is longer than three. Assumes nothing.
use Prim.Native.Nat.{ℕ, ◌≤◌, ◌<◌}
use native.Mathlib.Omega.{arith}
use mathlib.Core.Path.{◌≡◌, refl}
use mathlib.Core.List.Memᴰ
use mathlib.Core.List.{[], ◌∷◌}
use mathlib.Core.Bool.{Bool, true, false, cond}
use mathlib.Core.Logic.{⊎_elim}
use lib.ListN.{get_or-eq_default}
use lib.Dec.{ltb, eqb}
use borrow.Author.Tests.{eqb-false, ltb-true, ltb-false}
use Rattle.reads.specs.Answer.{fine, each}
use Rattle.reads.proofs.Answers.{first, each_at}
use Rattle.pool.specs.Rows.{one, other, row_of}
use Rattle.pool.specs.Pool.{Pool, slots}
use Rattle.slot.specs.Slots.{tag_of, field}
use Rattle.checks.specs.Checks.{references, obey, checked}
use Rattle.reach.specs.Reach.{◌∈◌, named, refers_to, Refers, Chain, stop, step}
use Rattle.checks.proofs.Ranks.{rank, rank≤3, low, lower}
use Rattle.checks.proofs.Lower.{every_lower}

-- ---- references

pub in_named : (p : Pool) (n k b : ℕ) → b ∈ named p n k → (k ≡ 0 → ⊥) × (b ≡ field p n k)
unfolding named
in_named p n k b m = go (eqb k 0) refl m
  where
    go : (c : Bool) → eqb k 0 ≡ c → b ∈ cond c [] (field p n k ∷ []) → (k ≡ 0 → ⊥) × (b ≡ field p n k)
    go true q m = absurd (Memᴰ.not-nil m)
    go false q m = (eqb-false k 0 q, Memᴰ.eq_of_singleton m)

-- what holds of both references of a slot holds of each slot that it refers to
module _ (p : Pool) (a : ℕ) (P : ℕ → Type 0) where
  abbrev At : ℕ → Type 0
  At k = (k ≡ 0 → ⊥) → P (field p a k)

  at_named : (k b : ℕ) → At k → b ∈ named p a k → P b
  at_named k b h m = let r = in_named p a k b m in rw r.1 (h r.0)

  pub of_both : At (one (row_of (tag_of p a))) → At (other (row_of (tag_of p a))) → (b : ℕ) → Refers p a b → P b
  unfolding refers_to
  of_both f g b m = ⊎_elim (at_named _ b f) (at_named _ b g) (Memᴰ.append_cases (named p a (one (row_of (tag_of p a)))) m)

-- Zero, Unused and what is no slot refer to nothing
pub none_refers : (p : Pool) (a b : ℕ) → tag_of p a ≡ 0 → Refers p a b → ⊥
unfolding row_of
none_refers p a b z m = of_both p a (λ _. ⊥) (rw z (λ k. k refl)) (rw z (λ k. k refl)) b m

-- a slot that refers to another is one of the pool's
pub refers_in : (p : Pool) (a b : ℕ) → Refers p a b → a < slots p
unfolding tag_of
refers_in p a b m = go (ltb a (slots p)) refl
  where
    go : (t : Bool) → ltb a (slots p) ≡ t → a < slots p
    go true q = ltb-true a (slots p) q
    go false q = absurd (none_refers p a b (rw (get_or-eq_default p.cells 0 (ltb-false a (slots p) q)) refl) m)

-- ---- the theorem

module _ (p : Pool) (ok : fine ≡ checked p) where
  obeys : (n : ℕ) → n < slots p → fine ≡ obey p n
  unfolding checked
  obeys n h = each_at (slots p) 0 (λ n. obey p n) (first (each (slots p) 0 (λ n. references p n)) _ tt ok).2 n (omega arith) (omega arith)

  -- a reference leads to an entry, of lower rank
  pub leads_low : (a b : ℕ) → Refers p a b → low (rank (tag_of p a)) (tag_of p b) ≡ true
  unfolding obey
  leads_low a b m =
      let h = every_lower p a (tag_of p a) (obeys a (refers_in p a b m)) in
      of_both p a (λ x. low (rank (tag_of p a)) (tag_of p x) ≡ true) h.0 h.1 b m

  pub falls : (a b : ℕ) → Refers p a b → rank (tag_of p b) < rank (tag_of p a)
  falls a b m = lower _ _ (leads_low a b m)

  chain_rank : {k a : ℕ} → Chain p k a → k ≤ rank (tag_of p a)
  chain_rank stop = omega arith
  chain_rank (step {a = a} {b = b} m c) = omega (arith, chain_rank c, falls a b m)

  -- no chain of references is longer than three
  pub at_most_three : (k a : ℕ) → Chain p k a → k ≤ 3
  at_most_three k a c = omega (arith, chain_rank c, rank≤3 (tag_of p a))
