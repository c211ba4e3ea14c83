-- The loop over interfaces: what holds so far, one turn, and its ends. Assumes nothing.
use mathlib.Core.Path.{◌≡◌, refl, ap, sym, ◌∙◌}
use mathlib.Core.List.{List, [], ◌∷◌, ◌++◌, append-nil, append_assoc}
use Prim.Native.Nat.{ℕ, ◌+◌, ◌-◌, ◌≤◌, ◌<◌}
use native.Mathlib.Omega.{arith}
use native.Mathlib.Nat.{sub-zero}
use lib.ListN.{length, set, replicate, length-append, length-set}
use lib.Dec.{ltb}
use borrow.Author.Tests.{ltb-true}
use Rattle.reads.specs.Answer.{Answer, accept, refuse, mapped}
use Rattle.reads.specs.Bytes.{u2}
use Rattle.reads.specs.Promise.{Accepted}
use Rattle.reads.specs.Tables.{padded, after}
use Rattle.reads.proofs.Answers.{first, held, same, never}
use Rattle.reads.proofs.Leaves.{u2_in}
use Rattle.reads.proofs.Tables.{padded_none, padded_set}
use Rattle.pool.specs.Pool.{Pool}
use Rattle.reads.specs.Records.{Many, records}
use Rattle.reads.proofs.Columns.{ahead, step, stop, done}
use Rattle.class_head.specs.declared.Listed.{Listed}
use Rattle.class_head.specs.Header.{class_at, interface_at, past, interfaces_at}
use Rattle.class_head.specs.Readings.{listed_of}

-- it has its room, and stands in the file
pub interface_in : (p : Pool) (room n at m : ℕ) → accept m ≡ interface_at p room n at → (n < room) × (at + 2 ≤ length p.file)
unfolding interface_at
interface_in p room n at m e =
    let t = first (u2 p.file at) _ m e in
    let u = first (class_at p at t.0) _ m t.2 in
    let v = held (ltb n room) 13 at _ m u.2 in
    (ltb-true n room v.0, u2_in p.file at t.0 t.1)

-- slots, and those of a list after them
abbrev after_these : List ℕ → Answer (Many ℕ ℕ) → Answer (Many ℕ ℕ)
after_these cells = mapped (λ m. record { list = cells ++ m.list; end = m.end })

after_none : (x : Answer (Many ℕ ℕ)) → after_these [] x ≡ x
after_none (accept m) = refl
after_none (refuse nr place) = refl

after_one : (cells : List ℕ) (c : ℕ) (x : Answer (Many ℕ ℕ)) → after_these (cells ++ c ∷ []) x ≡ after_these cells (ahead c x)
after_one cells c (accept m) = simp append_assoc
after_one cells c (refuse nr place) = refl

module _ (p : Pool) (room start : ℕ) where
  -- what the whole answers, and what it leaves in the list where it accepts
  abbrev pub Leaves : Answer Listed → List ℕ → Type 0
  Leaves x list = (x ≡ mapped listed_of (interfaces_at p room start)) × Accepted (interfaces_at p room start) (λ m. padded 0 room m.list) list

  refused : (nr place : ℕ) (list : List ℕ) → refuse nr place ≡ interfaces_at p room start → Leaves (refuse nr place) list
  refused nr place list e = rw (← e) (refl, λ m h. absurd (never h))

  accepted : (m : Many ℕ ℕ) (list : List ℕ) → accept m ≡ interfaces_at p room start → list ≡ padded 0 room m.list → Leaves (accept (listed_of m)) list
  accepted m list e t = rw (← e) (refl, λ q h. rw (same h) t)

  -- the number itself is cut off
  pub no_count : (nr place : ℕ) (list : List ℕ) → refuse nr place ≡ u2 p.file start → Leaves (refuse nr place) list
  unfolding interfaces_at
  no_count nr place list e = refused nr place list (rw (← e) refl)

  -- .. and the list is zero still
  pub cut_off : (nr place : ℕ) (list : List ℕ) → refuse nr place ≡ u2 p.file start → list ≡ replicate room 0 → (refuse nr place ≡ mapped listed_of (interfaces_at p room start)) × (list ≡ after 0 (λ m. m.list) room (interfaces_at p room start))
  unfolding interfaces_at
  cut_off nr place list e z = rw (← e) (refl, z)

  module _ (count : ℕ) where
    -- the list holds `cells`, the slots below n, and from there the rest goes on as from the start
    pub record Sofar (list : List ℕ) (n at : ℕ) : Type 0 where
      pub cells : List ℕ
      pub made : length cells ≡ n
      pub fits : n ≤ room
      pub within : n ≤ count
      pub long : length list ≡ room
      pub holds : list ≡ padded 0 room cells
      pub rest : after_these cells (records (interface_at p room) past (count - n) n at) ≡ interfaces_at p room start

    pub begin : (list : List ℕ) → accept count ≡ u2 p.file start → list ≡ replicate room 0 → length list ≡ room → Sofar list 0 (start + 2)
    unfolding interfaces_at
    begin list e h l = record {
      cells = [];
      made = refl;
      fits = omega arith;
      within = omega arith;
      long = l;
      holds = h ∙ padded_none 0 room;
      rest = rw (← e, sub-zero) (after_none (records (interface_at p room) past count 0 (start + 2)));
    }

    module _ (list : List ℕ) (n at : ℕ) (v : Sofar list n at) where
      pub turn : (m : ℕ) → n < count → accept m ≡ interface_at p (length list) n at → Sofar (set list n m) (n + 1) (at + 2)
      turn m h e =
          let f : accept m ≡ interface_at p room n at = e ∙ ap (λ (r : ℕ). interface_at p r n at) v.long in
          let k : count - n - 1 ≡ count - (n + 1) = omega arith in
          let r = interface_in p room n at m f in
          let d = v.made in
          let l = v.long in
          record {
            cells = v.cells ++ m ∷ [];
            made = simp (length-append, d);
            fits = omega arith;
            within = omega arith;
            long = simp length-set l;
            holds = rw (v.holds, ← d) (padded_set 0 room v.cells m (omega arith));
            rest =
                after_one v.cells m _
                ∙ ap (λ (j : ℕ). after_these v.cells (ahead m (records (interface_at p room) past j (n + 1) (at + 2)))) (sym k)
                ∙ ap (after_these v.cells) (sym (step (interface_at p room) past (count - n) n at m (omega arith) f)) ∙ v.rest;
          }

      pub stopped : (nr place : ℕ) → n < count → refuse nr place ≡ interface_at p (length list) n at → Leaves (refuse nr place) list
      stopped nr place h e =
          let f : refuse nr place ≡ interface_at p room n at = e ∙ ap (λ (r : ℕ). interface_at p r n at) v.long in
          refused nr place list (ap (after_these v.cells) (stop (interface_at p room) past (count - n) n at nr place (omega arith) f) ∙ v.rest)

      pub finished : count ≤ n → Leaves (accept (record { count = count; next = at })) list
      finished h =
          let k : length v.cells ≡ count = v.made ∙ omega arith in
          rw k at (accepted (record { list = v.cells; end = at }) list
          (ap (λ (l : List ℕ). accept (record { list = l; end = at })) (sym (append-nil v.cells)) ∙ ap (after_these v.cells) (done (interface_at p room) past (count - n) n at (omega arith)) ∙ v.rest)
          v.holds)
