-- From what `read_entries` and `check_pool` answer and leave to what `pool` does. Assumes nothing.
use mathlib.Core.Path.{◌≡◌, refl, ap, sym, ◌∙◌}
use mathlib.Core.List.{List}
use Prim.Native.Nat.{ℕ}
use lib.ListN.{length, take, replicate}
use lib.Seq.{take_at}
use Rattle.reads.specs.Answer.{Answer, fine, accept, refuse, ◌>>=◌, mapped}
use Rattle.reads.specs.Tables.{padded, after}
use Rattle.reads.proofs.Answers.{never}
use Rattle.pool.specs.declared.Head.{Head}
use Rattle.pool.specs.Pool.{Whole, read_pool, seen}
use Rattle.pool.specs.Readings.{head_of}
use Rattle.pool.proofs.Slots.{its_file as file_read}
use Rattle.checks.specs.Checks.{checked, pool}

-- what a call answers, and what it leaves in the table
module _ (room : ℕ) (x : Answer Head) (t : List ℕ) where
  abbrev pub Leaves : Answer Whole → Type 0
  Leaves y = (x ≡ mapped head_of y) × (t ≡ after 0 (λ w. w.pool.cells) room y)

-- the accepted pool, and that the table holds it
pub record Held (room : ℕ) (h : Head) (t : List ℕ) (y : Answer Whole) : Type 0 where
  pub whole : Whole
  pub answered : accept whole ≡ y
  pub head : h ≡ head_of whole
  pub cells : t ≡ padded 0 room whole.pool.cells

pub held : (room : ℕ) (h : Head) (t : List ℕ) (y : Answer Whole) → Leaves room (accept h) t y → Held room h t y
held room h t (accept w) p = record { whole = w; answered = refl; head = cc; cells = p.1 }
held room h t (refuse nr place) p = absurd (never p.0)

pub stays : (room nr place : ℕ) (t : List ℕ) (y : Answer Whole) (f : Whole → Answer Whole) → Leaves room (refuse nr place) t y → Leaves room (refuse nr place) t (y >>= f)
stays room nr place t (accept w) f p = absurd (never (sym p.0))
stays room nr place t (refuse a b) f p = p

module _ (s : List ℕ) (room : ℕ) where
  -- the pool that is read is one of this file
  pub its_file : (w : Whole) → accept w ≡ read_pool s room → w.pool.file ≡ s
  its_file = file_read s room

  first_cells : (cells : List ℕ) → take (length cells) (padded 0 room cells) ≡ cells
  unfolding padded
  first_cells cells = take_at cells _ (length cells) refl

  module _ (h : Head) (t : List ℕ) where
    -- what the checks look at is the pool that was read
    pub same_pool : (v : Held room h t (read_pool s room)) → seen s h.major t h.slots ≡ v.whole.pool
    same_pool v = λ i. record {
      file = sym (its_file v.whole v.answered) i;
      major = ap (λ (x : Head). x.major) v.head i;
      cells = (ap (λ (x : Head). take x.slots t) v.head ∙ ap (take (length v.whole.pool.cells)) v.cells ∙ first_cells v.whole.pool.cells) i;
    }

    pub good : Leaves room (accept h) t (read_pool s room) → fine ≡ checked (seen s h.major t h.slots) → Leaves room (accept h) t (pool s room)
    unfolding pool
    good p e =
        let v = held room h t (read_pool s room) p in
        let f = e ∙ ap checked (same_pool v) in
        rw (← v.answered, ← f) (ap accept v.head, v.cells)

    pub bad : (nr place : ℕ) (t' : List ℕ) → Leaves room (accept h) t (read_pool s room) → refuse nr place ≡ checked (seen s h.major t h.slots) → t' ≡ replicate room 0 → Leaves room (refuse nr place) t' (pool s room)
    unfolding pool
    bad nr place t' p e z =
        let v = held room h t (read_pool s room) p in
        let f = e ∙ ap checked (same_pool v) in
        rw (← v.answered, ← f) (refl, z)

  pub not_read : (nr place : ℕ) (t : List ℕ) → Leaves room (refuse nr place) t (read_pool s room) → Leaves room (refuse nr place) t (pool s room)
  unfolding pool
  not_read nr place t p = stays room nr place t (read_pool s room) _ p
