-- What stands before the members. Assumes nothing.
use mathlib.Core.Path.{◌≡◌, refl, ap, sym, ◌∙◌}
use mathlib.Core.List.{List}
use Prim.Native.Nat.{ℕ, ◌+◌, ◌≤◌}
use native.Mathlib.Omega.{arith}
use lib.ListN.{length}
use lib.Dec.{leb}
use borrow.Author.Tests.{leb-true}
use Rattle.reads.specs.Answer.{Answer, accept, refuse, mapped}
use Rattle.reads.specs.Bytes.{u2}
use Rattle.reads.specs.Tables.{padded, after}
use Rattle.reads.proofs.Answers.{first, held, whole_only, refused_of}
use Rattle.reads.proofs.Answers as answers
use Rattle.reads.proofs.Leaves.{u2_in}
use Rattle.pool.specs.declared.Head.{Head}
use Rattle.pool.specs.declared.Header.{Header}
use Rattle.pool.specs.Pool.{Pool, Whole, header_of, read_pool, seen}
use Rattle.pool.specs.Readings.{head_of}
use Rattle.checks.specs.Checks.{checked, pool}
use Rattle.checks.proofs.Edge as edge
use Rattle.reads.specs.Records.{Many}
use Rattle.class_head.specs.declared.ClassHead.{ClassHead}
use Rattle.class_head.specs.declared.Listed.{Listed}
use Rattle.class_head.specs.Header.{class_at, head_at, interfaces_at}
use Rattle.class_head.specs.Readings.{listed_of}
use Rattle.class.specs.declared.Front.{Front as FrontValue}
use Rattle.class.specs.Class.{Front, front_at}
use Rattle.reads.specs.Promise.{Accepted}
use Rattle.class.specs.Steps.{Fronted, fronted}
use Rattle.class.specs.Readings.{front_of}

-- ---- what an accepted pool says of the file

module _ (s : List ℕ) (room : ℕ) (w : Whole) (e : accept w ≡ pool s room) where
  was_read : accept w ≡ read_pool s room
  unfolding pool
  was_read =
      let t = first (read_pool s room) _ w e in
      let u = first (checked t.0.pool) _ w t.2 in
      let z : w ≡ t.0 = cc in
      ap accept z ∙ t.1

  header_short : (h : Header) → accept h ≡ header_of s → length s ≤ 16777216
  unfolding header_of
  header_short h g = leb-true _ _ (held (leb (length s) 16777216) 1 0 _ h g).0

  pub not_too_long : length s ≤ 16777216
  unfolding read_pool
  not_too_long =
      let t = first (header_of s) _ w was_read in
      header_short t.0 t.1

  -- the table that it was read into gives it back
  pub same_pool : (table : List ℕ) → table ≡ padded 0 room w.pool.cells → seen s w.pool.major table (length w.pool.cells) ≡ w.pool
  same_pool table c = edge.same_pool s room (head_of w) table (record { whole = w; answered = was_read; head = refl; cells = c })

pub head_in : (p : Pool) (at : ℕ) (h : ClassHead) → accept h ≡ head_at p at → at + 6 ≤ length p.file
unfolding head_at
head_in p at h e =
    let t1 = first (u2 p.file at) _ h e in
    let t2 = first (u2 p.file (at + 2)) _ h t1.2 in
    let t3 = first (class_at p (at + 2) t2.0) _ h t2.2 in
    let t4 = first (u2 p.file (at + 4)) _ h t3.2 in
    let i = u2_in p.file (at + 4) t4.0 t4.1 in
    omega arith

-- ---- what stands before the members

module _ (s : List ℕ) (room len : ℕ) where
  abbrev front : Answer Front
  front = front_at s room len

  -- what the call answers, and what it leaves where it accepts
  abbrev pub Fronts : Answer FrontValue → Fronted → Type 0
  Fronts x d = (x ≡ mapped front_of front) × Accepted front (fronted room len) d

  poolless : (nr place : ℕ) → refuse nr place ≡ pool s room → refuse nr place ≡ front
  unfolding front_at
  poolless nr place e = rw (← e)

  pub no_pool : (nr place : ℕ) → refuse nr place ≡ mapped head_of (pool s room) → refuse nr place ≡ front
  no_pool nr place e = poolless nr place (refused_of head_of (pool s room) nr place e)

  module _ (h : Head) (table : List ℕ) (e : accept h ≡ mapped head_of (pool s room)) (t : table ≡ after 0 (λ w. w.pool.cells) room (pool s room)) where
    abbrev got_pool : (w : Whole) × (accept w ≡ pool s room) × (head_of w ≡ h)
    got_pool = whole_only head_of (pool s room) h e

    abbrev w : Whole
    w = got_pool.0

    cells : table ≡ padded 0 room w.pool.cells
    cells = t ∙ ap (after 0 (λ x. x.pool.cells) room) (sym got_pool.1)

    abbrev seen_by : Head → Pool
    seen_by x = seen s x.major table x.slots

    its_pool : seen_by h ≡ w.pool
    its_pool = ap seen_by (sym got_pool.2) ∙ same_pool s room w got_pool.1 table cells

    same_head : head_at (seen_by h) h.next ≡ head_at w.pool w.next
    same_head = λ i. head_at (its_pool i) (sym got_pool.2 i).next

    same_list : interfaces_at (seen_by h) len (h.next + 6) ≡ interfaces_at w.pool len (w.next + 6)
    same_list = λ i. interfaces_at (its_pool i) len ((sym got_pool.2 i).next + 6)

    headless : (nr place : ℕ) → refuse nr place ≡ head_at w.pool w.next → refuse nr place ≡ front
    unfolding front_at
    headless nr place g = rw (← got_pool.1, ← g)

    pub no_head : (nr place : ℕ) → refuse nr place ≡ head_at (seen_by h) h.next → refuse nr place ≡ front
    no_head nr place g = headless nr place (g ∙ same_head)

    module _ (c : ClassHead) (g : accept c ≡ head_at (seen_by h) h.next) where
      listless : (nr place : ℕ) → refuse nr place ≡ interfaces_at w.pool len (w.next + 6) → refuse nr place ≡ front
      unfolding front_at
      listless nr place k = rw (← got_pool.1, ← (g ∙ same_head), ← k)

      pub no_list : (nr place : ℕ) → refuse nr place ≡ mapped listed_of (interfaces_at (seen_by h) len (h.next + 6)) → refuse nr place ≡ front
      no_list nr place k = listless nr place (refused_of listed_of (interfaces_at (seen_by h) len (h.next + 6)) nr place k ∙ same_list)

      complete : (m : Many ℕ ℕ) → accept m ≡ interfaces_at w.pool len (w.next + 6) → accept (record { pool = w; head = c; interfaces = m.list; next = m.end }) ≡ front
      unfolding front_at
      complete m k = rw (← got_pool.1, ← (g ∙ same_head), ← k)

      pub good_front : (l : Listed) (list : List ℕ) → accept l ≡ mapped listed_of (interfaces_at (seen_by h) len (h.next + 6)) → list ≡ after 0 (λ m. m.list) len (interfaces_at (seen_by h) len (h.next + 6))
          → Fronts (accept (record { pool = h; class = c; interfaces = l })) (record { cells = table; interfaces = list })
      good_front l list k v =
          let m = whole_only listed_of (interfaces_at (seen_by h) len (h.next + 6)) l k in
          let y = complete m.0 (m.1 ∙ same_list) in
          let x : list ≡ padded 0 len m.0.list = v ∙ ap (after 0 (λ q. q.list) len) (sym m.1) in
          let a = sym got_pool.2 in
          let b = sym m.2 in
          let d : record { cells = table; interfaces = list } ≡ fronted room len (record { pool = w; head = c; interfaces = m.0.list; next = m.0.end }) = λ i. record { cells = cells i; interfaces = x i } in
          ((λ i. accept (record { pool = a i; class = c; interfaces = b i })) ∙ ap (mapped front_of) y, λ q z. d ∙ ap (fronted room len) (answers.same (y ∙ sym z)))

-- what it says of the pool
pub front_pool : (s : List ℕ) (room len : ℕ) (q : Front) → accept q ≡ front_at s room len → accept q.pool ≡ pool s room
unfolding front_at
front_pool s room len q e =
    let t = first (pool s room) _ q e in
    let u = first (head_at t.0.pool t.0.next) _ q t.2 in
    let v = first (interfaces_at t.0.pool len (t.0.next + 6)) _ q u.2 in
    let z : q ≡ record { pool = t.0; head = u.0; interfaces = v.0.list; next = v.0.end } = cc in
    ap (λ (x : Front). accept x.pool) z ∙ t.1
