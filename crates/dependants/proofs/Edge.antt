-- From what the parts answer and leave to what `dependants` does. Assumes nothing.
use Prim.Native.Nat.{ℕ, ◌≤◌, ◌<◌}
use mathlib.Core.Path.{◌≡◌, refl, sym, ◌∙◌}
use mathlib.Core.List.{List}
use lib.ListN.{length, take}
use borrow.Author.Tests.{le-leb, lt-leb}
use Rattle.reads.specs.Answer.{Answer, fine, accept, refuse, ◌>>=◌, mapped}
use Rattle.std.specs.Borrow.{Bor}
use Rattle.reads.specs.Promise.{Accepted}
use Rattle.reads.specs.Tables.{padded}
use Rattle.reads.proofs.Answers.{same, first, never, whole_only}
use Rattle.reads.proofs.Leaves.{Bytes}
use Rattle.pool.specs.Pool.{Pool, Whole, read_pool}
use Rattle.pool.proofs.Room.{few_read}
use Rattle.slot.specs.Slots.{in_range}
use Rattle.checks.specs.Checks.{checked}
use Rattle.handed.specs.Handed.{agree, judged, no_limit, handed}
use Rattle.handed.specs.Walk.{lent}
use Rattle.handed.proofs.Handed.{on_lent, off_lent}
use Rattle.slot.specs.declared.Pool.{Pool as Lent}
use Rattle.slot.specs.Shown.{shown}
use Rattle.reach.specs.Reach.{dependants_in}
use Rattle.dependants.specs.Dependants.{dependants_at, dependants}

-- what a step answers, and what it leaves in a list of that many cells where it accepts
abbrev pub Leaves : ℕ → List ℕ → Answer ℕ → Answer (List ℕ) → Type 0
Leaves room t x y = (x ≡ mapped length y) × Accepted y (λ xs. padded 0 room xs) t

refused : (room : ℕ) (t : List ℕ) (nr place : ℕ) (y : Answer (List ℕ)) → refuse nr place ≡ y → Leaves room t (refuse nr place) y
refused room t nr place y e = rw (← e) (refl, λ xs h. absurd (never h))

accepted : (room : ℕ) (t xs : List ℕ) (y : Answer (List ℕ)) → accept xs ≡ y → t ≡ padded 0 room xs → Leaves room t (accept (length xs)) y
accepted room t xs y e h = rw (← e) (refl, λ ys k. rw (same k) h)

-- a list whose cells were made zero from where the dependants end
pub ended : (t l xs : List ℕ) (room count : ℕ) → t ≡ padded 0 (length l) (take count l) → length l ≡ room → take count l ≡ xs → t ≡ padded 0 room xs
ended t l xs room count e h k = e ∙ rw (h, k) refl

module _ (p : Pool) (n room : ℕ) (t : List ℕ) where
  pub no_slot : (nr place : ℕ) → refuse nr place ≡ in_range p n n → Leaves room t (refuse nr place) (dependants_at n room p)
  unfolding dependants_at
  no_slot nr place h = refused room t nr place (dependants_at n room p) (rw (← h) refl)

  module _ (h : fine ≡ in_range p n n) (count : ℕ) (e : count ≡ length (dependants_in p n)) where
    pub no_room : room < count → Leaves room t (refuse 13 count) (dependants_at n room p)
    unfolding dependants_at
    no_room l = refused room t 13 count (dependants_at n room p) (rw (← h, ← e, lt-leb count room l) refl)

    pub listed : count ≤ room → t ≡ padded 0 room (dependants_in p n) → Leaves room t (accept count) (dependants_at n room p)
    unfolding dependants_at
    listed l z = rw e (accepted room t (dependants_in p n) (dependants_at n room p) (rw (← h, ← e, le-leb count room l) refl) z)

-- ---- the handed table

module _ (file table : Bor (List ℕ)) (n room : ℕ) (t : List ℕ) where
  pub refuses : (nr place : ℕ) → refuse nr place ≡ mapped (lent file table) (handed file.now table.now) → Leaves room t (refuse nr place) (dependants file.now table.now n room)
  refuses nr place e = refused room t nr place (dependants file.now table.now n room) (off_lent file table (dependants_at n room) nr place e)

  pub answers : (p : Lent) (x : Answer ℕ) → accept p ≡ mapped (lent file table) (handed file.now table.now)
      → Leaves room t x (dependants_at n room (shown p)) → Leaves room t x (dependants file.now table.now n room)
  answers p x e h = rw (on_lent file table (dependants_at n room) p e) at h

module _ (s table : List ℕ) where
  -- an accepted table is one of the pool that the file gives, and that is checked
  pub handed_is : (w : Whole) → accept w ≡ handed s table → (accept w ≡ read_pool s no_limit) × (fine ≡ checked w.pool)
  unfolding handed judged
  handed_is w e =
      let r = first (read_pool s no_limit) _ w e in
      let j = first (agree r.0.pool.cells table >>= _) _ w r.2 in
      let a = first (agree r.0.pool.cells table) _ tt j.1 in
      let q : r.0 ≡ w = sym (same j.2) in
      rw (← q) (r.1, a.2)

-- no more slots than a cell of the list can name
pub few : (file table : Bor (List ℕ)) → Bytes file.now → (p : Lent) → accept p ≡ mapped (lent file table) (handed file.now table.now) → p.slots ≤ 65536
few file table b p e =
    let w = whole_only (lent file table) (handed file.now table.now) p e in
    rw (← w.2) (few_read file.now b no_limit w.0 (handed_is file.now table.now w.0 w.1).0)
