-- The class's own attributes, up to the end of the file. Assumes nothing.
use mathlib.Core.Path.{◌≡◌, ap, sym, ◌∙◌}
use mathlib.Core.Bool.{true}
use mathlib.Core.List.{List, map}
use Prim.Native.Nat.{ℕ, ◌+◌, ◌≤◌}
use native.Mathlib.Omega.{arith}
use lib.ListN.{length, take, drop}
use Rattle.reads.specs.Answer.{Answer, fine, accept, refuse, mapped}
use Rattle.reads.specs.Bytes.{u2}
use Rattle.reads.proofs.Answers.{first, whole_only, refused_of}
use Rattle.reads.proofs.Answers as answers
use Rattle.pool.specs.Pool.{Pool}
use Rattle.attributes.specs.declared.Attribute.{Attribute}
use Rattle.reads.specs.Records.{Many, placed, column}
use Rattle.attributes.specs.Attributes.{record_at, body_end, framed}
use Rattle.reads.proofs.Columns.{placed_part, made, roomy}
use Rattle.attributes.proofs.Frames.{record_in}
use Rattle.class.specs.Class.{end_at, own_at}
use Rattle.class.specs.Columns.{Part, Titles, Bodies, part, three, room_of}
use Rattle.reads.specs.Promise.{Accepted}
use Rattle.class.specs.Steps.{after_records}
use Rattle.class.proofs.Rows.{map_length, parts_le}

module _ (p : Pool) (used at : ℕ) (t u v : List ℕ) where
  abbrev limit : ℕ
  limit = room_of t u v

  abbrev own : Answer (Many Attribute ℕ)
  own = own_at p limit used at

  -- what the call answers, and what it leaves where it accepts
  abbrev pub Leaves : Answer ℕ → (Part → List ℕ) → Type 0
  Leaves x d = (x ≡ mapped (λ m. length m.list) own) × Accepted own (after_records (three t u v) used) d

  pub no_count : (nr place : ℕ) → refuse nr place ≡ u2 p.file at → refuse nr place ≡ own
  unfolding own_at
  no_count nr place e = rw (← e)

  module _ (count : ℕ) (e : accept count ≡ u2 p.file at) (room : used ≤ limit) where
    abbrev pub framing : Answer (Many Attribute ℕ)
    framing = framed true p limit count used (at + 2)

    not_framed : (nr place : ℕ) → refuse nr place ≡ framing → refuse nr place ≡ own
    unfolding own_at
    not_framed nr place g = rw (← e, ← g)

    not_ended : (m : Many Attribute ℕ) (nr place : ℕ) → accept m ≡ framing → refuse nr place ≡ end_at p m.end (column (λ a. a.name) m) (column (λ a. a.start) m) → refuse nr place ≡ own
    unfolding own_at
    not_ended m nr place g h = rw (← e, ← g, ← h)

    ended : (m : Many Attribute ℕ) → accept m ≡ framing → fine ≡ end_at p m.end (column (λ a. a.name) m) (column (λ a. a.start) m) → accept m ≡ own
    unfolding own_at
    ended m g h = rw (← e, ← g, ← h)

    pub no_frames : (nr place : ℕ) → refuse nr place ≡ mapped (λ m. m.end) framing → refuse nr place ≡ own
    no_frames nr place h = not_framed nr place (refused_of (λ (m : Many Attribute ℕ). m.end) framing nr place h)

    module _ (end : ℕ) (h : accept end ≡ mapped (λ m. m.end) framing) (t' u' v' : List ℕ) (q : Accepted framing (after_records (three t u v) used) (three t' u' v')) where
      abbrev found : (m : Many Attribute ℕ) × (accept m ≡ framing) × (m.end ≡ end)
      found = whole_only (λ (m : Many Attribute ℕ). m.end) framing end h

      as_many : length found.0.list ≡ count
      as_many = made (record_at true p limit) body_end count used (at + 2) found.0 found.1

      within : used + count ≤ limit
      within = roomy (record_at true p limit) body_end limit (λ n s a g. record_in true p limit n s a g) count used (at + 2) found.0 found.1 room

      columns : (j : Part) → three t' u' v' j ≡ placed (three t u v j) used (map (part j) found.0.list)
      columns j = λ i. q found.0 found.1 i j

      -- what stands in a column is what was framed
      in_column : (j : Part) → take count (drop used (three t' u' v' j)) ≡ map (part j) found.0.list
      in_column j =
          let k : length (map (part j) found.0.list) ≡ count = map_length (part j) found.0.list ∙ as_many in
          let w = within in
          let l = parts_le (three t u v) j in
          ap (λ (x : List ℕ). take count (drop used x)) (columns j)
          ∙ ap (λ (n : ℕ). take n (drop used (placed (three t u v j) used (map (part j) found.0.list)))) (sym k) ∙ placed_part (three t u v j) used (map (part j) found.0.list) (omega (arith, k, w, l))

      judged : end_at p end (take count (drop used t')) (take count (drop used u')) ≡ end_at p found.0.end (column (λ a. a.name) found.0) (column (λ a. a.start) found.0)
      judged =
          let a = in_column Titles in
          let b = in_column Bodies in
          λ i. end_at p (sym found.2 i) (a i) (b i)

      pub bad_end : (nr place : ℕ) → refuse nr place ≡ end_at p end (take count (drop used t')) (take count (drop used u')) → refuse nr place ≡ own
      bad_end nr place g = not_ended found.0 nr place found.1 (g ∙ judged)

      pub good_end : fine ≡ end_at p end (take count (drop used t')) (take count (drop used u')) → Leaves (accept count) (three t' u' v')
      good_end g =
          let w = ended found.0 found.1 (g ∙ judged) in
          (ap accept (sym as_many) ∙ ap (mapped (λ m. length m.list)) w, λ m y. (λ i. λ j. columns j i) ∙ ap (after_records (three t u v) used) (answers.same (w ∙ sym y)))

-- as many as they are, they have their room
pub own_in : (p : Pool) (limit used at : ℕ) (m : Many Attribute ℕ) → accept m ≡ own_at p limit used at → used ≤ limit → used + length m.list ≤ limit
unfolding own_at
own_in p limit used at m e h =
    let t = first (u2 p.file at) _ m e in
    let u = first (framed true p limit t.0 used (at + 2)) _ m t.2 in
    let v = first (end_at p u.0.end (column (λ a. a.name) u.0) (column (λ a. a.start) u.0)) _ m u.2 in
    let z : m ≡ u.0 = cc in
    let k = made (record_at true p limit) body_end t.0 used (at + 2) u.0 u.1 in
    let r = roomy (record_at true p limit) body_end limit (λ n s a g. record_in true p limit n s a g) t.0 used (at + 2) u.0 u.1 h in
    rw z (omega arith)
