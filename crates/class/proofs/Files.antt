-- The whole file: what stands before the members, and these. Assumes nothing.
use mathlib.Core.Path.{◌≡◌, refl, ap, sym, subst, ◌∙◌}
use mathlib.Core.List.{List, []}
use Prim.Native.Nat.{ℕ, ◌≤◌}
use native.Mathlib.Omega.{arith}
use lib.ListN.{length, replicate, length-replicate}
use mathlib.Core.Bool.{true≢false}
use Rattle.reads.specs.Answer.{Answer, accept, refuse, ◌>>=◌, mapped}
use Rattle.reads.specs.Tables.{padded, after}
use Rattle.reads.proofs.Answers.{whole_only, refused_of}
use Rattle.reads.proofs.Tables.{padded_none}
use Rattle.pool.specs.Pool.{Pool, seen}
use Rattle.checks.specs.Checks.{pool}
use Rattle.reads.specs.Records.{placed}
use Rattle.reads.proofs.Placed.{placed_padded}
use Rattle.class.specs.declared.MemberColumns.{MemberColumns}
use Rattle.class.specs.declared.AttributeColumns.{AttributeColumns}
use Rattle.class.specs.declared.Front.{Front as FrontValue}
use Rattle.class.specs.declared.Class.{Class as ClassValue}
use Rattle.class.specs.Class.{Front, Tables, Class, marked, front_at, tables_at, class_file}
use Rattle.class.specs.Columns.{Number, Part, number, part, Columns, lent, member_room, attribute_room, member_cells, attribute_cells, zeros, tabled, rooms_of}
use Rattle.std.specs.Prelude.{Result, Ok, Err, is_err, true, false}
use Rattle.reads.specs.declared.Refusal.{Refusal}
use Rattle.reads.specs.Promise.{Accepted, answer_of}
use Rattle.class.specs.Steps.{columns, Long, fronted, after_all}
use Rattle.class.specs.Readings.{front_of, filled_of, class_of}
use Rattle.class.proofs.Rows.{same_limit, same_room, room_le, limit_le}
use Rattle.class.proofs.Tabled.{tables_in}
use Rattle.class.proofs.Fronts.{not_too_long, same_pool, front_pool}

-- ---- cells in a column of zeros

into_zeros : (n : ℕ) (xs : List ℕ) → length xs ≤ n → placed (replicate n 0) 0 xs ≡ padded 0 n xs
into_zeros n xs h = ap (λ (t : List ℕ). placed t 0 xs) (padded_none 0 n) ∙ placed_padded n [] xs (omega arith)

-- cleared columns, together
pub cleared : (c d : Columns) → d.member ≡ (λ j. replicate (length (c.member j)) 0) → d.attribute ≡ (λ j. replicate (length (c.attribute j)) 0) → d ≡ zeros c
cleared c d m a = λ i. record { member = m i; attribute = a i }

-- slices that hold what the code's two structs hold
pub as_lent : (flags names types firsts counts titles bodies lengths : List ℕ) (m : MemberColumns) (a : AttributeColumns) → flags ≡ m.flags.now → names ≡ m.names.now → types ≡ m.types.now → firsts ≡ m.firsts.now → counts ≡ m.counts.now
    → titles ≡ a.titles.now → bodies ≡ a.bodies.now → lengths ≡ a.lengths.now → (d : Columns) → columns m a ≡ d → lent flags names types firsts counts titles bodies lengths ≡ d
as_lent flags names types firsts counts titles bodies lengths m a e₁ e₂ e₃ e₄ e₅ e₆ e₇ e₈ d h = (λ i. lent (e₁ i) (e₂ i) (e₃ i) (e₄ i) (e₅ i) (e₆ i) (e₇ i) (e₈ i)) ∙ h

cleared_long : (c : Columns) → Long (zeros c) c
cleared_long c = record { members = λ k. length-replicate (length (c.member k)) 0; attributes = λ k. length-replicate (length (c.attribute k)) 0 }

-- ---- the whole file

module _ (s : List ℕ) (room len : ℕ) (c : Columns) where
  abbrev whole : Answer Class
  whole = class_file s (rooms_of room len c)

  -- what the table, the list and the columns hold afterwards
  abbrev pub Holds : List ℕ → List ℕ → Columns → Type 0
  Holds table list d = (table ≡ after 0 (λ q. q.front.pool.pool.cells) room whole) × ((list ≡ after 0 (λ q. q.front.interfaces) len whole) × (d ≡ tabled c (mapped (λ q. q.tables) whole)))

  gone : (nr place : ℕ) (table list : List ℕ) (d : Columns) → refuse nr place ≡ whole → table ≡ replicate room 0 → list ≡ replicate len 0 → d ≡ zeros c → Holds table list d
  gone nr place table list d w t h g =
      (t ∙ ap (after 0 (λ q. q.front.pool.pool.cells) room) w, (h ∙ ap (after 0 (λ q. q.front.interfaces) len) w, g ∙ ap (λ (x : Answer Class). tabled c (mapped (λ q. q.tables) x)) w))

  frontless : (nr place : ℕ) → refuse nr place ≡ front_at s room len → refuse nr place ≡ whole
  unfolding class_file
  frontless nr place e = rw (← e)

  pub no_front : (nr place : ℕ) → refuse nr place ≡ mapped front_of (front_at s room len) → refuse nr place ≡ whole
  no_front nr place e = frontless nr place (refused_of front_of (front_at s room len) nr place e)

  -- what stands before the members, into the table and the list
  abbrev pub Begun : List ℕ → List ℕ → Type 0
  Begun table list = (table ≡ after 0 (λ (q : Front). q.pool.pool.cells) room (front_at s room len)) × (list ≡ after 0 (λ (q : Front). q.interfaces) len (front_at s room len))

  pub nothing_begun : (nr place : ℕ) (table list : List ℕ) (d : Columns) → refuse nr place ≡ mapped front_of (front_at s room len) → Begun table list → d ≡ zeros c → Holds table list d
  nothing_begun nr place table list d e b g =
      let r = refused_of front_of (front_at s room len) nr place e in
      gone nr place table list d (frontless nr place r) (b.0 ∙ ap (after 0 (λ (q : Front). q.pool.pool.cells) room) (sym r)) (b.1 ∙ ap (after 0 (λ (q : Front). q.interfaces) len) (sym r)) g

  module _ (f : FrontValue) (table list : List ℕ) (e : accept f ≡ mapped front_of (front_at s room len)) (h : Begun table list) where
    abbrev got_front : (q : Front) × (accept q ≡ front_at s room len) × (front_of q ≡ f)
    got_front = whole_only front_of (front_at s room len) f e

    abbrev q : Front
    q = got_front.0

    had_pool : accept q.pool ≡ pool s room
    had_pool = front_pool s room len q got_front.1

    pub short : length s ≤ 16777216
    short = not_too_long s room q.pool had_pool

    filled : record { cells = table; interfaces = list } ≡ fronted room len q
    filled =
        let t = h.0 ∙ ap (after 0 (λ (r : Front). r.pool.pool.cells) room) (sym got_front.1) in
        let l = h.1 ∙ ap (after 0 (λ (r : Front). r.interfaces) len) (sym got_front.1) in
        λ i. record { cells = t i; interfaces = l i }

    abbrev seen_by : FrontValue → Pool
    seen_by x = seen s x.pool.major table x.pool.slots

    its_pool : seen_by f ≡ q.pool.pool
    its_pool = ap seen_by (sym got_front.2) ∙ same_pool s room q.pool had_pool table (λ i. (filled i).cells)

    module _ (c₁ : Columns) (z : c₁ ≡ zeros c) where
      long : Long c₁ c
      long = subst (λ (x : Columns). Long x c) (sym z) (cleared_long c)

      abbrev asked : Answer Tables
      asked = tables_at (marked f.class.flags) (seen_by f) (member_room c₁) (attribute_room c₁) f.interfaces.next

      abbrev theirs : Answer Tables
      theirs = tables_at (marked q.head.flags) q.pool.pool (member_room c) (attribute_room c) q.next

      same : asked ≡ theirs
      same = λ i. tables_at (marked (sym got_front.2 i).class.flags) (its_pool i) (same_room c₁ c long i) (same_limit c₁ c long i) (sym got_front.2 i).interfaces.next

      tableless : (nr place : ℕ) → refuse nr place ≡ theirs → refuse nr place ≡ whole
      unfolding class_file
      tableless nr place g = rw (← got_front.1, ← g)

      -- what is answered
      on : Answer Tables → Answer Class
      on x = x >>= λ t. accept (record { front = q; tables = t })

      goes_on : on theirs ≡ whole
      unfolding class_file on
      goes_on = rw (← got_front.1) refl

      through : (x : Answer Tables) → mapped (filled_of (front_of q)) x ≡ mapped class_of (on x)
      unfolding on
      through (accept t) = refl
      through (refuse nr place) = refl

      pub answers : mapped (filled_of f) asked ≡ mapped class_of whole
      answers = (λ i. mapped (filled_of (sym got_front.2 i)) (same i)) ∙ through theirs ∙ ap (mapped class_of) goes_on

      pub no_tables : (c₂ : Columns) → Long c₂ c₁ → (r : Result ClassValue Refusal) → is_err r ≡ true → answer_of (λ a. a) r ≡ mapped (filled_of f) asked
          → (table' list' : List ℕ) (d : Columns) → table' ≡ replicate (length table) 0 → list' ≡ replicate (length list) 0 → d ≡ zeros c₂ → length table ≡ room → length list ≡ len → Holds table' list' d
      no_tables c₂ l (Ok a) h g table' list' d t u v lt lh = absurd (true≢false (sym h))
      no_tables c₂ l (Err r) h g table' list' d t u v lt lh =
          gone r.number r.place table' list' d (tableless r.number r.place (refused_of (filled_of f) asked r.number r.place g ∙ same)) (t ∙ ap (λ (n : ℕ). replicate n 0) lt) (u ∙ ap (λ (n : ℕ). replicate n 0) lh)
          (v ∙ (λ i. record { member = λ k. replicate ((l.members k ∙ long.members k) i) 0; attribute = λ k. replicate ((l.attributes k ∙ long.attributes k) i) 0 }))

      complete : (t : Tables) → accept t ≡ theirs → accept (record { front = q; tables = t }) ≡ whole
      unfolding class_file
      complete t g = rw (← got_front.1, ← g)

      pub all_good : (c₂ : Columns) → Accepted asked (after_all c₁) c₂ → (r : Result ClassValue Refusal) → is_err r ≡ false → answer_of (λ a. a) r ≡ mapped (filled_of f) asked → Holds table list c₂
      all_good c₂ v (Err r) h g = absurd (true≢false h)
      all_good c₂ v (Ok a) h g =
          let t = whole_only (filled_of f) asked a g in
          let k = t.1 ∙ same in
          let y = complete t.0 k in
          let b = tables_in (marked q.head.flags) q.pool.pool (member_room c) (attribute_room c) q.next t.0 k in
          let m : (j : Number) → placed (c₁.member j) 0 (member_cells (number j) t.0) ≡ padded 0 (length (c.member j)) (member_cells (number j) t.0) =
          λ j. (λ i. placed ((z i).member j) 0 (member_cells (number j) t.0)) ∙ into_zeros (length (c.member j)) (member_cells (number j) t.0) (omega (arith, b.0 (number j), room_le c j)) in
          let n : (j : Part) → placed (c₁.attribute j) 0 (attribute_cells (part j) t.0) ≡ padded 0 (length (c.attribute j)) (attribute_cells (part j) t.0) =
          λ j. (λ i. placed ((z i).attribute j) 0 (attribute_cells (part j) t.0)) ∙ into_zeros (length (c.attribute j)) (attribute_cells (part j) t.0) (omega (arith, b.1 (part j), limit_le c j)) in
          let x : c₂ ≡ tabled c (accept t.0) = v t.0 t.1 ∙ (λ i. record { member = λ j. m j i; attribute = λ j. n j i }) in
          ((λ i. (filled i).cells) ∙ ap (after 0 (λ r. r.front.pool.pool.cells) room) y, ((λ i. (filled i).interfaces) ∙ ap (after 0 (λ r. r.front.interfaces) len) y, x ∙ ap (λ (r : Answer Class). tabled c (mapped (λ u. u.tables) r)) y))
