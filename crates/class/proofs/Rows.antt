-- The members of one sort, into lent columns: what one says, a turn of the loop, and its ends. Assumes nothing.
use mathlib.Core.Path.{◌≡◌, refl, ap, sym, subst, ◌∙◌}
use mathlib.Core.List.{List, [], ◌∷◌, ◌++◌, map}
use Prim.Native.Nat.{ℕ, suc, ◌+◌, ◌-◌, ◌≤◌, ◌<◌, min}
use native.Mathlib.Omega.{arith}
use native.Mathlib.Nat.{sub_self, min-le_left, min-le_right}
use mathlib.Core.Bool.{false}
use lib.ListN.{length, set, take, drop, length-drop}
use lib.Seq.{drop-set-add, take-suc-set}
use Rattle.reads.specs.Answer.{Answer, accept, refuse, mapped}
use Rattle.reads.specs.Bytes.{u2}
use Rattle.reads.proofs.Answers.{first, never, whole_only, refused_of}
use Rattle.reads.proofs.Answers as answers
use Rattle.pool.specs.Pool.{Pool}
use Rattle.attributes.specs.declared.Attribute.{Attribute}
use Rattle.reads.specs.Records.{Many, placed}
use Rattle.attributes.specs.Attributes.{record_at, body_end, framed}
use Rattle.reads.proofs.Columns.{ahead, step, stop, done, placed_length, made, roomy}
use Rattle.attributes.proofs.Frames.{record_in}
use Rattle.attributes.proofs.Tiled.{tiled, tiles_far}
use Rattle.member.specs.declared.Sort.{Sort}
use Rattle.member.specs.declared.Member.{Member}
use Rattle.member.specs.Member.{member_at}
use Rattle.member.proofs.Inside.{member_in}
use Rattle.reads.proofs.Placed.{placed_append}
use Rattle.class.specs.declared.Sorted.{Sorted}
use Rattle.class.specs.Members.{Whole, Reached, whole_at, reach, begun_at, members_of, sort_at}
use Rattle.class.specs.Columns.{Number, Flags, Names, Types, Firsts, Counts, Part, Titles, Bodies, Lengths, number, part, Columns, member_room, room_of, attribute_room, gathered, of_each, each_column}
use Rattle.reads.specs.Promise.{Accepted}
use Rattle.class.specs.Steps.{Long, rows, only, Ready, after_one, after_many, after_records, between, reached_at}
use Rattle.class.specs.Readings.{sorted_of}

-- a refusal leaves what it leaves
pub refuses : {X C : Type 0} {x : Answer X} {nr place : ℕ} (f : X → C) (d : C) → refuse nr place ≡ x → Accepted x f d
refuses f d e a g = absurd (never (g ∙ sym e))

-- ---- all columns

pub all_numbers : (P : Number → Type 0) → P Flags → P Names → P Types → P Firsts → P Counts → (k : Number) → P k
all_numbers P a b c d e Flags = a
all_numbers P a b c d e Names = b
all_numbers P a b c d e Types = c
all_numbers P a b c d e Firsts = d
all_numbers P a b c d e Counts = e

pub all_parts : (P : Part → Type 0) → P Titles → P Bodies → P Lengths → (k : Part) → P k
all_parts P a b c Titles = a
all_parts P a b c Bodies = b
all_parts P a b c Lengths = c

pub long_refl : (c : Columns) → Long c c
long_refl c = record { members = λ k. refl; attributes = λ k. refl }

-- whatever is placed, a column stays as long as it was
pub long_placed : (c d : Columns) (n used : ℕ) (one : (Whole → ℕ) → List ℕ) (other : (Attribute → ℕ) → List ℕ) → Long c d → Long (each_column (λ f t. placed t n (one f)) (λ f t. placed t used (other f)) c) d
long_placed c d n used one other l = record {
  members = λ k. placed_length (c.member k) n (one (number k)) ∙ l.members k;
  attributes = λ k. placed_length (c.attribute k) used (other (part k)) ∙ l.attributes k;
}

pub same_limit : (c d : Columns) → Long c d → attribute_room c ≡ attribute_room d
same_limit c d l = λ i. min (min (l.attributes Titles i) (l.attributes Bodies i)) (l.attributes Lengths i)

pub same_room : (c d : Columns) → Long c d → member_room c ≡ member_room d
unfolding member_room
same_room c d l = λ i. min (l.members Flags i) (min (l.members Names i) (min (l.members Types i) (min (l.members Firsts i) (l.members Counts i))))

pub room_rows : (c : Columns) → member_room (rows c.member) ≡ member_room c
unfolding member_room
room_rows c = refl

-- each column has the room
lower : (x a b : ℕ) → x ≤ min a b → (x ≤ a) × (x ≤ b)
lower x a b h = (omega (arith, h, min-le_left a b), omega (arith, h, min-le_right a b))

pub room_le : (c : Columns) (k : Number) → member_room c ≤ length (c.member k)
unfolding member_room
room_le c =
    let r = member_room c in
    let l : Number → ℕ = λ k. length (c.member k) in
    let a = lower r (l Flags) (min (l Names) (min (l Types) (min (l Firsts) (l Counts)))) (omega arith) in
    let b = lower r (l Names) (min (l Types) (min (l Firsts) (l Counts))) a.1 in
    let d = lower r (l Types) (min (l Firsts) (l Counts)) b.1 in
    let e = lower r (l Firsts) (l Counts) d.1 in
    all_numbers (λ k. r ≤ length (c.member k)) a.0 b.0 d.0 e.0 e.1

pub parts_le : (c : Part → List ℕ) (k : Part) → room_of (c Titles) (c Bodies) (c Lengths) ≤ length (c k)
parts_le c =
    let r = room_of (c Titles) (c Bodies) (c Lengths) in
    let a = lower r (min (length (c Titles)) (length (c Bodies))) (length (c Lengths)) (omega arith) in
    let b = lower r (length (c Titles)) (length (c Bodies)) a.0 in
    all_parts (λ k. r ≤ length (c k)) b.0 b.1 a.1

pub limit_le : (c : Columns) (k : Part) → attribute_room c ≤ length (c.attribute k)
limit_le c = parts_le c.attribute

-- ---- one member

pub map_length : {A : Type 0} (f : A → ℕ) (l : List A) → length (map f l) ≡ length l
map_length f [] = refl
map_length f (a ∷ l) = ap suc (map_length f l)

-- attributes take bytes
far : (p : Pool) (room k n at : ℕ) (m : Many Attribute ℕ) → accept m ≡ framed false p room k n at → at + k ≤ m.end
far p room k n at m e =
    let t = tiles_far p at m.list m.end (tiled false p room k n at m e) in
    let l = made (record_at false p room) body_end k n at m e in
    omega arith

-- it has its record; its attributes are as many as it says, and each takes bytes
pub record Inside (room limit n : ℕ) (s : Reached) (w : Whole) : Type 0 where
  pub fits : n < room
  pub within : s.used ≤ limit → s.used + w.member.count ≤ limit
  pub count : length w.attributes ≡ w.member.count
  pub moved : s.at + w.member.count ≤ w.next

pub whole_in : (k : Sort) (p : Pool) (room limit n : ℕ) (s : Reached) (w : Whole) → accept w ≡ whole_at k p room limit n s → Inside room limit n s w
unfolding whole_at
whole_in k p room limit n s w e =
    let t = first (member_at k p room n s.at s.names s.types) _ w e in
    let u = first (framed false p limit t.0.count s.used (s.at + 8)) _ w t.2 in
    let h : w ≡ record { member = t.0; first = s.used; attributes = u.0.list; next = u.0.end } = cc in
    let i = member_in k p room n s.at s.names s.types t.0 t.1 in
    let f = far p limit t.0.count s.used (s.at + 8) u.0 u.1 in
    rw h (record {
      fits = i.0;
      within = roomy (record_at false p limit) body_end limit (λ n at a g. record_in false p limit n at a g) t.0.count s.used (s.at + 8) u.0 u.1;
      count = made (record_at false p limit) body_end t.0.count s.used (s.at + 8) u.0 u.1;
      moved = omega arith;
    })

-- ---- one member ahead of the rest

-- what is reached at the end, and the columns there
pub record Outcome : Type 0 where
  pub end : Reached
  pub columns : Columns

abbrev pub outcome : Columns → ℕ → ℕ → Many Whole Reached → Outcome
outcome c n used m = record { end = m.end; columns = after_many c n used m }

ahead_member : (f : Whole → ℕ) (t : List ℕ) (n : ℕ) (w : Whole) (l : List Whole) → placed (placed t n (f w ∷ [])) (n + 1) (map f l) ≡ placed t n (map f (w ∷ l))
unfolding placed
ahead_member f t n w l = refl

ahead_attribute : (f : Attribute → ℕ) (t : List ℕ) (used : ℕ) (w : Whole) (l : List Whole) → length w.attributes ≡ w.member.count
    → placed (placed t used (of_each f w)) (used + w.member.count) (gathered (of_each f) l) ≡ placed t used (gathered (of_each f) (w ∷ l))
ahead_attribute f t used w l e =
    ap (λ (j : ℕ). placed (placed t used (of_each f w)) (used + j) (gathered (of_each f) l)) (sym (map_length f w.attributes ∙ e))
    ∙ sym (placed_append t used (of_each f w) (gathered (of_each f) l))

ahead_outcome : (c : Columns) (n used : ℕ) (w : Whole) (x : Answer (Many Whole Reached)) → length w.attributes ≡ w.member.count
    → mapped (outcome (after_one c n used w) (n + 1) (used + w.member.count)) x ≡ mapped (outcome c n used) (ahead w x)
ahead_outcome c n used w (accept m) e = λ i. accept (record { end = m.end; columns = each_column (λ f t. ahead_member f t n w m.list i) (λ f t. ahead_attribute f t used w m.list e i) c })
ahead_outcome c n used w (refuse nr place) e = refl

-- one cell more
between_set : (l : List ℕ) (a n x : ℕ) → a ≤ n → n < length l → between a (n + 1) (set l n x) ≡ between a n l ++ x ∷ []
between_set l a n x h g =
    let e : n ≡ a + (n - a) = omega arith in
    let k : n + 1 - a ≡ suc (n - a) = omega arith in
    let d : n - a < length (drop a l) = rw length-drop (omega arith) in
    ap (λ (j : ℕ). take (n + 1 - a) (drop a (set l j x))) e ∙ ap (λ (t : List ℕ). take (n + 1 - a) t) (drop-set-add a l (n - a) x) ∙ ap (λ (j : ℕ). take j (set (drop a l) (n - a) x)) k ∙ take-suc-set (drop a l) (n - a) x d

-- ---- the loop

module _ (k : Sort) (p : Pool) (begun start before count : ℕ) (c₀ : Columns) where
  abbrev room : ℕ
  room = member_room c₀

  abbrev limit : ℕ
  limit = attribute_room c₀

  -- the members from the first on
  abbrev all : Answer (Many Whole Reached)
  all = members_of k p room limit count begun (begun_at (start + 2) before)

  -- those that are left
  abbrev left_of : Columns → ℕ → ℕ → ℕ → ℕ → Answer (Many Whole Reached)
  left_of c at used n left = members_of k p room limit left n (reached_at at used begun n c)

  -- what the call answers, and what it leaves where it accepts
  abbrev pub Leaves : Answer Sorted → Columns → Type 0
  Leaves x d = (x ≡ mapped sorted_of (sort_at k p room limit begun start before)) × Accepted (sort_at k p room limit begun start before) (after_many c₀ begun before) d

  pub no_count : (nr place : ℕ) → refuse nr place ≡ u2 p.file start → refuse nr place ≡ sort_at k p room limit begun start before
  unfolding sort_at
  no_count nr place e = rw (← e)

  -- from here on the same is left as from the start
  pub record Sofar (c : Columns) (at used n : ℕ) : Type 0 where
    pub ready : Ready p.file n at used c
    pub begins : begun ≤ n
    pub long : Long c c₀
    pub rest : mapped (outcome c n used) (left_of c at used n (begun + count - n)) ≡ mapped (outcome c₀ begun before) all

  pub begin : Ready p.file begun start before c₀ → Sofar c₀ (start + 2) before begun
  begin r =
      let z : begun - begun ≡ 0 = sub_self begun in
      let l : begun + count - begun ≡ count = omega arith in
      record {
        ready = record { short = r.short; roomy = r.roomy; behind = omega (arith, r.behind) };
        begins = omega arith;
        long = long_refl c₀;
        rest = rw l (rw z refl);
      }

  module _ (c : Columns) (at used n : ℕ) (v : Sofar c at used n) where
    abbrev left : ℕ
    left = begun + count - n

    abbrev s : Reached
    s = reached_at at used begun n c

    -- as the code asks
    abbrev pub asked : Answer Member
    asked = member_at k p (member_room (rows c.member)) n at s.names s.types

    abbrev judged : Answer Member
    judged = member_at k p room n at s.names s.types

    as_asked : asked ≡ judged
    as_asked = ap (λ (r : ℕ). member_at k p r n at s.names s.types) (room_rows c ∙ same_room c c₀ v.long)

    abbrev pub framing : Member → Answer (Many Attribute ℕ)
    framing m = framed false p (attribute_room c) m.count used (at + 8)

    -- record n has its place in each column
    pub up_to : (j : Number) → n ≤ length (c.member j)
    up_to j = omega (arith, v.ready.roomy, room_le c j)

    in_room : (m : Member) → accept m ≡ judged → (at + 8 ≤ length p.file) × (n < room)
    in_room m e = let i = member_in k p room n at s.names s.types m e in (i.1, i.0)

    pub in_file : (m : Member) → accept m ≡ asked → at + 8 ≤ length p.file
    in_file m e = (in_room m (e ∙ as_asked)).0

    in_columns : n < room → (j : Number) → n < length (c.member j)
    in_columns h j = omega (arith, h, same_room c c₀ v.long, room_le c j)

    pub has_record : (m : Member) → accept m ≡ asked → (j : Number) → n < length (c.member j)
    has_record m e = in_columns (in_room m (e ∙ as_asked)).1

    framed_as : (m : Member) → framed false p limit m.count used (at + 8) ≡ framing m
    framed_as m = ap (λ (l : ℕ). framed false p l m.count used (at + 8)) (sym (same_limit c c₀ v.long))

    -- ---- the member's answer

    no_member : (nr place : ℕ) → refuse nr place ≡ judged → refuse nr place ≡ whole_at k p room limit n s
    unfolding whole_at
    no_member nr place e = rw (← e)

    no_frames : (m : Member) (nr place : ℕ) → accept m ≡ judged → refuse nr place ≡ framed false p limit m.count used (at + 8) → refuse nr place ≡ whole_at k p room limit n s
    unfolding whole_at
    no_frames m nr place e g = rw (← e, ← g)

    is_whole : (m : Member) (f : Many Attribute ℕ) → accept m ≡ judged → accept f ≡ framed false p limit m.count used (at + 8) → accept (record { member = m; first = used; attributes = f.list; next = f.end }) ≡ whole_at k p room limit n s
    unfolding whole_at
    is_whole m f e g = rw (← e, ← g)

    -- ---- a turn

    stepped : (w : Whole) → 0 < left → accept w ≡ whole_at k p room limit n s → n < room → left_of c at used n left ≡ ahead w (left_of (after_one c n used w) w.next (used + w.member.count) (n + 1) (left - 1))
    unfolding placed
    stepped w h e r =
        let b = between_set (c.member Names) begun n w.member.name v.begins (in_columns r Names) in
        let d = between_set (c.member Types) begun n w.member.descriptor v.begins (in_columns r Types) in
        step (whole_at k p room limit) reach left n s w h e
        ∙ ap (λ (q : Reached). ahead w (members_of k p room limit (left - 1) (n + 1) q)) (λ i. record { at = w.next; used = used + w.member.count; names = sym b i; types = sym d i })

    turned : (w : Whole) → n < begun + count → accept w ≡ whole_at k p room limit n s → Sofar (after_one c n used w) w.next (used + w.member.count) (n + 1)
    turned w h e =
        let i = whole_in k p room limit n s w e in
        let z : begun + count - (n + 1) ≡ left - 1 = omega arith in
        let x = left_of (after_one c n used w) w.next (used + w.member.count) (n + 1) in
        let l = long_placed c c₀ n used (λ f. f w ∷ []) (λ f. of_each f w) v.long in
        let r = v.ready in
        record {
          ready = record { short = r.short; roomy = omega (arith, i.fits, same_room (after_one c n used w) c₀ l); behind = omega (arith, r.behind, i.moved) };
          begins = omega (arith, v.begins);
          long = l;
          rest = ap (λ (y : ℕ). mapped (outcome (after_one c n used w) (n + 1) (used + w.member.count)) (x y)) z ∙ ahead_outcome c n used w (x (left - 1)) i.count
              ∙ sym (ap (mapped (outcome c n used)) (stepped w (omega arith) e i.fits)) ∙ v.rest;
        }

    pub turn : (m : Member) (next : ℕ) (d : Columns) → n < begun + count → accept m ≡ asked → accept next ≡ mapped (λ f. f.end) (framing m)
        → d.member ≡ (λ j. set (c.member j) n (number j (only m used))) → Accepted (framing m) (after_records c.attribute used) d.attribute → Sofar d next (used + m.count) (n + 1)
    unfolding placed
    turn m next d h e g b q =
        let f = whole_only (λ (x : Many Attribute ℕ). x.end) (framing m) next g in
        let w : Whole = record { member = m; first = used; attributes = f.0.list; next = f.0.end } in
        let t = turned w h (is_whole m f.0 (e ∙ as_asked) (f.1 ∙ sym (framed_as m))) in
        let same = all_numbers (λ j. number j (only m used) ≡ number j w) refl refl refl refl refl in
        let a : d.attribute ≡ after_records c.attribute used f.0 = q f.0 f.1 in
        let o : d ≡ after_one c n used w = λ i. record { member = (b ∙ (λ l. λ j. set (c.member j) n (same j l))) i; attribute = a i } in
        subst (λ (x : ℕ). Sofar d x (used + m.count) (n + 1)) f.2 (subst (λ (y : Columns). Sofar y f.0.end (used + m.count) (n + 1)) (sym o) t)

    -- ---- the ends

    module _ (e₀ : accept count ≡ u2 p.file start) where
      at_sort : all ≡ sort_at k p room limit begun start before
      unfolding sort_at
      at_sort = rw (← e₀)

      broken : (nr place : ℕ) → n < begun + count → refuse nr place ≡ whole_at k p room limit n s → refuse nr place ≡ sort_at k p room limit begun start before
      broken nr place h e = refused_of (outcome c₀ begun before) all nr place (ap (mapped (outcome c n used)) (stop (whole_at k p room limit) reach left n s nr place (omega arith) e) ∙ v.rest) ∙ at_sort

      pub not_good : (nr place : ℕ) → n < begun + count → refuse nr place ≡ asked → refuse nr place ≡ sort_at k p room limit begun start before
      not_good nr place h e = broken nr place h (no_member nr place (e ∙ as_asked))

      pub not_framed : (m : Member) (nr place : ℕ) → n < begun + count → accept m ≡ asked → refuse nr place ≡ mapped (λ f. f.end) (framing m) → refuse nr place ≡ sort_at k p room limit begun start before
      not_framed m nr place h e g = broken nr place h (no_frames m nr place (e ∙ as_asked) (refused_of (λ (f : Many Attribute ℕ). f.end) (framing m) nr place g ∙ sym (framed_as m)))

      pub finished : begun + count ≤ n → Leaves (accept (record { count = count; at = at; used = used })) c
      unfolding placed
      finished h =
          let z = done (whole_at k p room limit) reach left n s (omega arith) in
          let w = whole_only (outcome c₀ begun before) all (outcome c n used (record { list = []; end = s })) (ap (mapped (outcome c n used)) z ∙ v.rest) in
          let l = made (whole_at k p room limit) reach count begun (begun_at (start + 2) before) w.0 w.1 in
          let o = sym w.2 in
          let y = w.1 ∙ at_sort in
          ((λ i. accept (record { count = sym l i; at = (o i).end.at; used = (o i).end.used })) ∙ ap (mapped sorted_of) y, λ m g. (λ i. (o i).columns) ∙ ap (after_many c₀ begun before) (answers.same (y ∙ sym g)))
