-- Attributes one after the other, into lent columns: a turn of the loop, and its ends. Assumes nothing.
use mathlib.Core.Path.{◌≡◌, refl, ap, sym, subst, ◌∙◌}
use mathlib.Core.Bool.{Bool}
use mathlib.Core.List.{List, []}
use Prim.Native.Nat.{ℕ, ◌+◌, ◌-◌, ◌≤◌, ◌<◌}
use native.Mathlib.Omega.{arith}
use lib.ListN.{length, set, length-set}
use Rattle.reads.specs.Answer.{Answer, accept, refuse, mapped}
use Rattle.reads.proofs.Answers.{whole_only, refused_of}
use Rattle.reads.proofs.Answers as answers
use Rattle.pool.specs.Pool.{Pool}
use Rattle.attributes.specs.declared.Attribute.{Attribute}
use Rattle.reads.specs.Records.{Many, placed}
use Rattle.attributes.specs.Attributes.{record_at, body_end, framed}
use Rattle.reads.proofs.Columns.{ahead, step, stop, done}
use Rattle.attributes.proofs.Frames.{record_in}
use Rattle.attributes.proofs.Tiled.{record_sound}
use Rattle.class.specs.Columns.{Part, Titles, Bodies, Lengths, part, room_of}
use Rattle.reads.specs.Promise.{Accepted}
use Rattle.class.specs.Steps.{AsLong, after_records}
use Rattle.class.proofs.Rows.{parts_le}

-- the byte that is reached at the end, and the columns there
pub record Outcome : Type 0 where
  pub end : ℕ
  pub columns : Part → List ℕ

abbrev pub outcome : (Part → List ℕ) → ℕ → Many Attribute ℕ → Outcome
outcome c n m = record { end = m.end; columns = after_records c n m }

-- one attribute ahead of the rest
ahead_outcome : (c : Part → List ℕ) (n : ℕ) (a : Attribute) (x : Answer (Many Attribute ℕ)) → mapped (outcome (λ j. set (c j) n (part j a)) (n + 1)) x ≡ mapped (outcome c n) (ahead a x)
unfolding placed
ahead_outcome c n a (accept m) = refl
ahead_outcome c n a (refuse nr place) = refl

module _ (own : Bool) (p : Pool) (count used start : ℕ) (c₀ : Part → List ℕ) where
  abbrev limit : ℕ
  limit = room_of (c₀ Titles) (c₀ Bodies) (c₀ Lengths)

  abbrev all : Answer (Many Attribute ℕ)
  all = framed own p limit count used start

  -- what the call answers, and what it leaves where it accepts
  abbrev pub Leaves : Answer ℕ → (Part → List ℕ) → Type 0
  Leaves x d = (x ≡ mapped (λ m. m.end) all) × Accepted all (after_records c₀ used) d

  -- from here on the same is left as from the start
  pub record Sofar (room : ℕ) (c : Part → List ℕ) (at n : ℕ) : Type 0 where
    pub room_is : room ≡ limit
    pub long : AsLong c c₀
    pub rest : mapped (outcome c n) (framed own p room (used + count - n) n at) ≡ mapped (outcome c₀ used) all

  pub begin : (room : ℕ) → room ≡ limit → Sofar room c₀ start used
  begin room e =
      let k : used + count - used ≡ count = omega arith in
      record { room_is = e; long = λ j. refl; rest = λ i. mapped (outcome c₀ used) (framed own p (e i) (k i) used start) }

  module _ (room : ℕ) (c : Part → List ℕ) (at n : ℕ) (v : Sofar room c at n) where
    -- an attribute that was judged good has its record in each column, and its body in the file
    pub in_columns : (a : Attribute) → accept a ≡ record_at own p room n at → (j : Part) → n < length (c j)
    in_columns a e j = omega (arith, record_in own p room n at a e, v.room_is, parts_le c₀ j, v.long j)

    pub in_file : (a : Attribute) → accept a ≡ record_at own p room n at → a.start + a.size ≤ length p.file
    in_file a e = (record_sound own p room n at a e).inside

    turned : (a : Attribute) → n < used + count → accept a ≡ record_at own p room n at → Sofar room (λ j. set (c j) n (part j a)) (body_end a at) (n + 1)
    turned a h e =
        let k : used + count - (n + 1) ≡ used + count - n - 1 = omega arith in
        record {
          room_is = v.room_is;
          long = λ j. simp length-set (v.long j);
          rest = ap (λ (l : ℕ). mapped (outcome (λ j. set (c j) n (part j a)) (n + 1)) (framed own p room l (n + 1) (body_end a at))) k ∙ ahead_outcome c n a (framed own p room (used + count - n - 1) (n + 1) (body_end a at))
              ∙ sym (ap (mapped (outcome c n)) (step (record_at own p room) body_end (used + count - n) n at a (omega arith) e)) ∙ v.rest;
        }

    pub turn : (a : Attribute) (d : Part → List ℕ) → n < used + count → accept a ≡ record_at own p room n at → d ≡ (λ j. set (c j) n (part j a)) → Sofar room d (a.start + a.size) (n + 1)
    turn a d h e r = subst (λ (x : Part → List ℕ). Sofar room x (body_end a at) (n + 1)) (sym r) (turned a h e)

    pub stopped : (nr place : ℕ) → n < used + count → refuse nr place ≡ record_at own p room n at → refuse nr place ≡ all
    stopped nr place h e = refused_of (outcome c₀ used) all nr place (ap (mapped (outcome c n)) (stop (record_at own p room) body_end (used + count - n) n at nr place (omega arith) e) ∙ v.rest)

    pub finished : used + count ≤ n → Leaves (accept at) c
    unfolding placed
    finished h =
        let z = done (record_at own p room) body_end (used + count - n) n at (omega arith) in
        let w = whole_only (outcome c₀ used) all (outcome c n (record { list = []; end = at })) (ap (mapped (outcome c n)) z ∙ v.rest) in
        let o = sym w.2 in
        ((λ i. accept (o i).end) ∙ ap (mapped (λ m. m.end)) w.1, λ m g. (λ i. (o i).columns) ∙ ap (after_records c₀ used) (answers.same (w.1 ∙ sym g)))
