-- Two files that begin alike: what was refused while the entries of one were read is refused of the other. Assumes nothing.
use mathlib.Core.Path.{◌≡◌, refl, ap, sym, subst₂, ◌∙◌}
use mathlib.Core.Bool.{Bool, true, false, ◌&&◌, cond}
use mathlib.Core.List.{List, [], ◌∷◌, ◌++◌}
use Prim.Native.Nat.{ℕ, zero, suc, ◌+◌, ◌-◌, ◌≤◌, ◌<◌}
use native.Mathlib.Omega.{arith}
use lib.ListN.{length, get_or, take, drop, length-take, take-append-drop}
use lib.Seq.{length-take-le, take-take, get_or-take}
use lib.Dec.{leb, ltb, eqb}
use borrow.Author.Tests.{le-leb, lt-leb, leb-true, leb-false, eqb-true}
use Rattle.reads.specs.Answer.{Answer, accept, refuse, require, ◌>>=◌}
use Rattle.reads.specs.Bytes.{num1, num2, num4, u1, u2, u4, within, skipped}
use Rattle.reads.proofs.Answers.{never, same, first, held}
use Rattle.reads.proofs.Leaves.{fits, past, stood, u1_in, u2_in, u4_in, skipped_in}
use Rattle.pool.specs.Kinds as kind
use Rattle.pool.specs.declared.Entry.{Entry}
use Rattle.pool.specs.declared.Slot.{Slot}
use Rattle.pool.specs.declared.Header.{Header}
use Rattle.pool.specs.Rows.{since, first as width, second, row_of}
use Rattle.pool.specs.Pool.{Whole, Read, room_for, second_width, entry_at, slot_at, entries, all_entries, header_of, read_pool}
use Rattle.pool.specs.Beginnings.{Begins, Settled}
use Rattle.pool.proofs.Prefix.{width_same, slot_same, header_same, pool_same}

-- ---- files that begin alike

module _ (s t : List ℕ) where
  pub shorter : (m n : ℕ) → Begins n s t → m ≤ n → Begins m s t
  shorter m n b l = sym (take-take m n t l) ∙ ap (take m) b ∙ take-take m n s l

  pub begun : (m : ℕ) → m ≤ length s → Begins m s t → m ≤ length t
  begun m l b = omega (arith, length-take m t, ap length b ∙ length-take-le m s l)

  pub both : (m : ℕ) → m ≤ length s → Begins m s t → (P : List ℕ → List ℕ → Type 0) → ((h x y : List ℕ) → length h ≡ m → P (h ++ x) (h ++ y)) → P s t
  both m l b P f = subst₂ P (take-append-drop m s) (ap (λ (z : List ℕ). z ++ drop m t) (sym b) ∙ take-append-drop m t) (f (take m s) (drop m s) (drop m t) (length-take-le m s l))

  byte : (m i : ℕ) → i < m → Begins m s t → num1 s i ≡ num1 t i
  byte m i l b = sym (get_or-take m s i 0 l) ∙ ap (λ (z : List ℕ). get_or z i 0) (sym b) ∙ get_or-take m t i 0 l

  two : (m i : ℕ) → i + 2 ≤ m → Begins m s t → num2 s i ≡ num2 t i
  two m i l b = rw (byte m i (omega arith) b, byte m (i + 1) (omega arith) b) refl

  four : (m i : ℕ) → i + 4 ≤ m → Begins m s t → num4 s i ≡ num4 t i
  four m i l b = rw (two m i (omega arith) b, two m (i + 2) (omega arith) b) refl

-- ---- lines of a `do`: what is refused by bytes from `from` on, and what is accepted by bytes before m

module _ (s : List ℕ) (nr place : ℕ) where
  record Kept {A : Type 0} (call : List ℕ → Answer A) (from : ℕ) : Type 0 where
    upto : ℕ
    on : from ≤ upto
    in_file : upto ≤ length s
    not_1 : nr ≡ 1 → ⊥
    of_2 : nr ≡ 2 → upto ≡ place
    of_3 : nr ≡ 3 → upto ≡ 4
    of_4 : nr ≡ 4 → upto ≡ place + 1
    stays : (t : List ℕ) → Begins upto s t → length t ≤ 16777216 → (nr ≡ 2 → length t ≤ length s) → refuse nr place ≡ call t

  -- the same refusal, of another answer
  moved : {A B : Type 0} {n p : ℕ} (x : Answer A) → ◌≡◌ {A = Answer B} (refuse nr place) (refuse n p) → x ≡ refuse n p → refuse nr place ≡ x
  moved {n = n} {p = p} x e q =
      let y : nr ≡ n = cc in
      let z : place ≡ p = cc in
      rw (y, z) (sym q)

  abbrev Same : {A : Type 0} → (List ℕ → Answer A) → ℕ → A → Type 0
  Same call m a = (t : List ℕ) → Begins m s t → length t ≤ 16777216 → accept a ≡ call t

  module _ {A B : Type 0} (F : List ℕ → Answer A) (G : List ℕ → A → Answer B) where
    goes_on : (from m : ℕ) (a : A) → from ≤ m → Same F m a → Kept (λ t. G t a) m → Kept (λ t. F t >>= G t) from
    goes_on from m a l f k =
        let o = k.on in
        record {
          upto = k.upto;
          on = omega arith;
          in_file = k.in_file;
          not_1 = k.not_1;
          of_2 = k.of_2;
          of_3 = k.of_3;
          of_4 = k.of_4;
          stays = λ t b c d. rw (← f t (shorter s t m k.upto b o) c) (k.stays t b c d);
        }

    stops : (from : ℕ) → Kept F from → Kept (λ t. F t >>= G t) from
    stops from k = record {
      upto = k.upto;
      on = k.on;
      in_file = k.in_file;
      not_1 = k.not_1;
      of_2 = k.of_2;
      of_3 = k.of_3;
      of_4 = k.of_4;
      stays = λ t b c d. rw (← k.stays t b c d) refl;
    }

    line : (from : ℕ) (m : A → ℕ) → refuse nr place ≡ (F s >>= G s) → (refuse nr place ≡ F s → Kept F from) → ((a : A) → accept a ≡ F s → (from ≤ m a) × Same F (m a) a)
        → ((a : A) → accept a ≡ F s → refuse nr place ≡ G s a → Kept (λ t. G t a) (m a)) → Kept (λ t. F t >>= G t) from
    line from m e refused accepted later = go (F s) refl e
      where
        go : (x : Answer A) → F s ≡ x → refuse nr place ≡ (x >>= G s) → Kept (λ t. F t >>= G t) from
        go (accept a) q e = let h = accepted a (sym q) in goes_on from (m a) a h.0 h.1 (later a (sym q) e)
        go (refuse n p) q e = stops from (refused (moved (F s) e q))

  -- the last line but one
  last : {A B : Type 0} (F : List ℕ → Answer A) (g : List ℕ → A → B) (from : ℕ) → refuse nr place ≡ (F s >>= λ a. accept (g s a)) → (refuse nr place ≡ F s → Kept F from) → Kept (λ t. F t >>= λ a. accept (g t a)) from
  last F g from e refused = go (F s) refl e
    where
      go : (x : Answer _) → F s ≡ x → refuse nr place ≡ (x >>= λ a. accept (g s a)) → Kept (λ t. F t >>= λ a. accept (g t a)) from
      go (accept a) q e = absurd (never (sym e))
      go (refuse n p) q e = stops F (λ t a. accept (g t a)) from (refused (moved (F s) e q))

  -- ---- a test that looks at no file

  need : (test : Bool) (n from : ℕ) → from ≤ length s → (n ≡ 1 → ⊥) → (n ≡ 2 → from ≡ place) → (n ≡ 3 → from ≡ 4) → (n ≡ 4 → from ≡ place + 1) → (p : ℕ) → p ≡ place → refuse nr place ≡ require test n p → Kept (λ _. require test n p) from
  need true n from l a b c d p z e = absurd (never (sym e))
  need false n from l a b c d p z e =
      let q : nr ≡ n = cc in
      record {
        upto = from;
        on = omega arith;
        in_file = l;
        not_1 = λ y. a (sym q ∙ y);
        of_2 = λ y. b (sym q ∙ y);
        of_3 = λ y. c (sym q ∙ y);
        of_4 = λ y. d (sym q ∙ y);
        stays = λ _ _ _ _. e;
      }

  -- where it refuses
  at_place : (test : Bool) (n p : ℕ) → refuse nr place ≡ require test n p → p ≡ place
  at_place true n p e = absurd (never (sym e))
  at_place false n p e = cc

  -- ---- reads

  cut : {A : Type 0} (a : A) (at n : ℕ) → refuse nr place ≡ (within s at n >>= λ _. accept a) → (nr ≡ 2) × (place ≡ at) × (length s < at + n)
  unfolding within
  cut a at n e = go (leb (at + n) (length s)) refl e
    where
      go : (test : Bool) → leb (at + n) (length s) ≡ test → refuse nr place ≡ (require test 2 at >>= λ _. accept a) → (nr ≡ 2) × (place ≡ at) × (length s < at + n)
      go true q e = absurd (never (sym e))
      go false q e = (cc, cc, leb-false _ _ q)

  read : {A : Type 0} (v : List ℕ → A) (at n : ℕ) → at ≤ length s → refuse nr place ≡ (within s at n >>= λ _. accept (v s)) → Kept (λ t. within t at n >>= λ _. accept (v t)) at
  read v at n l e =
      let h = cut (v s) at n e in
      let two = h.0 in
      let here = h.1 in
      record {
        upto = at;
        on = omega arith;
        in_file = l;
        not_1 = λ y. omega arith;
        of_2 = λ y. sym here;
        of_3 = λ y. absurd (omega arith);
        of_4 = λ y. absurd (omega arith);
        stays = λ t b c d. let z = d two in let w = h.2 in rw (two, here) (past (accept (v t)) t at n (omega arith));
      }

  read_same : {A : Type 0} (v : List ℕ → A) (at n : ℕ) (a : A) → ((t : List ℕ) → Begins (at + n) s t → v s ≡ v t) → accept a ≡ (within s at n >>= λ _. accept (v s)) → Same (λ t. within t at n >>= λ _. accept (v t)) (at + n) a
  read_same v at n a f e = λ t b c. let h = stood s at n (accept (v s)) a e in h.1 ∙ ap accept (f t b) ∙ fits (accept (v t)) t at n (begun s t (at + n) h.0 b)

  u1_kept : (at : ℕ) → at ≤ length s → refuse nr place ≡ u1 s at → Kept (λ t. u1 t at) at
  unfolding u1
  u1_kept at l e = read (λ t. num1 t at) at 1 l e

  u2_kept : (at : ℕ) → at ≤ length s → refuse nr place ≡ u2 s at → Kept (λ t. u2 t at) at
  unfolding u2
  u2_kept at l e = read (λ t. num2 t at) at 2 l e

  u4_kept : (at : ℕ) → at ≤ length s → refuse nr place ≡ u4 s at → Kept (λ t. u4 t at) at
  unfolding u4
  u4_kept at l e = read (λ t. num4 t at) at 4 l e

  skipped_kept : (at n : ℕ) → at ≤ length s → refuse nr place ≡ skipped s at n → Kept (λ t. skipped t at n) at
  unfolding skipped
  skipped_kept at n l e = read (λ t. at + n) at n l e

  u1_same : (at a : ℕ) → accept a ≡ u1 s at → Same (λ t. u1 t at) (at + 1) a
  unfolding u1
  u1_same at a e = read_same (λ t. num1 t at) at 1 a (λ t b. byte s t (at + 1) at (omega arith) b) e

  u2_same : (at a : ℕ) → accept a ≡ u2 s at → Same (λ t. u2 t at) (at + 2) a
  unfolding u2
  u2_same at a e = read_same (λ t. num2 t at) at 2 a (λ t b. two s t (at + 2) at (omega arith) b) e

  u4_same : (at a : ℕ) → accept a ≡ u4 s at → Same (λ t. u4 t at) (at + 4) a
  unfolding u4
  u4_same at a e = read_same (λ t. num4 t at) at 4 a (λ t b. four s t (at + 4) at (omega arith) b) e

  skipped_same : (at n a : ℕ) → accept a ≡ skipped s at n → Same (λ t. skipped t at n) (at + n) a
  unfolding skipped
  skipped_same at n a e = read_same (λ t. at + n) at n a (λ t b. refl) e

  -- ---- one entry

  -- the width of the second read is told by the first, which was read
  width_there : (b t w : ℕ) → b + width (row_of t) ≤ length s → (u : List ℕ) → Begins (b + width (row_of t)) s u → second_width s b t w ≡ second_width u b t w
  width_there b t w l u g = both s u (b + width (row_of t)) l g (λ x y. second_width x b t w ≡ second_width y b t w) (λ h x y q. width_same h y x b t w (omega arith))

  kind_kept : (b w : ℕ) → b + 1 ≤ length s → refuse nr place ≡ (u1 s b >>= λ k. require (leb 1 k && leb k 9) 4 b >>= λ _. accept w) → (nr ≡ 4) × (place ≡ b)
  unfolding u1
  kind_kept b w l e = go (leb 1 (num1 s b) && leb (num1 s b) 9) (e ∙ ap (λ (x : Answer ℕ). x >>= λ k. require (leb 1 k && leb k 9) 4 b >>= λ _. accept w) (sym (fits (accept (num1 s b)) s b 1 l)))
    where
      go : (test : Bool) → refuse nr place ≡ (require test 4 b >>= λ _. accept w) → (nr ≡ 4) × (place ≡ b)
      go true e = absurd (never (sym e))
      go false e = (cc, cc)

  pair_read : (b : ℕ) → b + 2 ≤ length s → refuse nr place ≡ u2 s b → ⊥
  unfolding u2
  pair_read b l e = never (fits (accept (num2 s b)) s b 2 l ∙ sym e)

  width_refused : (b t w : ℕ) → b + width (row_of t) ≤ length s → refuse nr place ≡ second_width s b t w → (nr ≡ 4) × (b + width (row_of t) ≡ place + 1)
  unfolding second_width row_of
  width_refused b t w l e = go (eqb t kind.utf8) refl e
    where
      kinds : (c : Bool) → eqb t kind.method_handle ≡ c → refuse nr place ≡ cond c (u1 s b >>= λ k. require (leb 1 k && leb k 9) 4 b >>= λ _. accept w) (accept w) → (nr ≡ 4) × (b + width (row_of t) ≡ place + 1)
      kinds true q e =
          let z = eqb-true t kind.method_handle q in
          let h = kind_kept b w (rw z at l) e in
          let p = h.1 in
          (h.0, rw z (omega arith))
      kinds false q e = absurd (never (sym e))

      go : (c : Bool) → eqb t kind.utf8 ≡ c → refuse nr place ≡ cond c (u2 s b) (cond (eqb t kind.method_handle) (u1 s b >>= λ k. require (leb 1 k && leb k 9) 4 b >>= λ _. accept w) (accept w)) → (nr ≡ 4) × (b + width (row_of t) ≡ place + 1)
      go true q e = absurd (pair_read b (rw (eqb-true t kind.utf8 q) at l) e)
      go false q e = kinds (eqb t kind.method_handle) refl e

  width_kept : (b t w : ℕ) → b + width (row_of t) ≤ length s → refuse nr place ≡ second_width s b t w → Kept (λ u. second_width u b t w) (b + width (row_of t))
  width_kept b t w l e =
      let h = width_refused b t w l e in
      let z = h.0 in
      record {
        upto = b + width (row_of t);
        on = omega arith;
        in_file = l;
        not_1 = λ y. omega arith;
        of_2 = λ y. absurd (omega arith);
        of_3 = λ y. absurd (omega arith);
        of_4 = λ y. h.1;
        stays = λ u g _ _. e ∙ width_there b t w l u g;
      }

  entry_kept : (major at : ℕ) → at ≤ length s → refuse nr place ≡ entry_at s major at → Kept (λ t. entry_at t major at) at
  unfolding entry_at
  entry_kept major at l e =
      line (λ t. u1 t at) _ at (λ _. at + 1) e (u1_kept at l) (λ x q. (omega arith, u1_same at x q)) (λ x q e.
      let i = u1_in s at x q in
      line (λ _. require (leb (since (row_of x)) major) 4 at) _ (at + 1) (λ _. at + 1) e (λ g.
      let z = at_place (leb (since (row_of x)) major) 4 at g in
      need (leb (since (row_of x)) major) 4 (at + 1) i (λ y. omega arith) (λ y. absurd (omega arith)) (λ y. absurd (omega arith)) (λ y. omega arith) at z g) (λ u q. (omega arith, λ _ _ _. q)) (λ u q e.
      line (λ t. skipped t (at + 1) (width (row_of x))) _ (at + 1) (λ _. at + 1 + width (row_of x)) e (skipped_kept (at + 1) (width (row_of x)) i) (λ m q. (omega arith, skipped_same (at + 1) (width (row_of x)) m q)) (λ m q e.
      let j = skipped_in s (at + 1) (width (row_of x)) m q in
      let k = j.0 in
      let o : at + 1 + width (row_of x) ≡ m = sym j.1 in
      line (λ t. second_width t (at + 1) x (second (row_of x))) _ (at + 1 + width (row_of x)) (λ _. at + 1 + width (row_of x)) e (width_kept (at + 1) x (second (row_of x)) k) (λ w q. (omega arith, λ t b _. q ∙ width_there (at + 1) x (second (row_of x)) k t b)) (λ w q e.
      rw o (last (λ t. skipped t m w) _ m e (skipped_kept m w (omega arith)))))))

  -- ---- all slots

  entry_read : (major at : ℕ) (e : Entry) → accept e ≡ entry_at s major at → (at ≤ e.next) × (e.next ≤ length s)
  unfolding entry_at
  entry_read major at e q =
      let t = first (u1 s at) _ e q in
      let k = held (leb (since (row_of t.0)) major) 4 at _ e t.2 in
      let m = first (skipped s (at + 1) (width (row_of t.0))) _ e k.1 in
      let w = first (second_width s (at + 1) t.0 (second (row_of t.0))) _ e m.2 in
      let n = first (skipped s m.0 w.0) _ e w.2 in
      let b : e.next ≡ n.0 = ap (λ (z : Entry). z.next) (same n.2) in
      let f = skipped_in s (at + 1) (width (row_of t.0)) m.0 m.1 in
      let g = skipped_in s m.0 w.0 n.0 n.1 in
      (omega (arith, f.1, g.1), omega (arith, g.0, g.1))

  module _ (major room : ℕ) where
    slot_read : (n : ℕ) (owed : Bool) (at : ℕ) (e : Slot) → at ≤ length s → accept e ≡ slot_at s major room n owed at → (at ≤ e.next) × (e.next ≤ length s)
    unfolding slot_at
    slot_read n true at e l q = let g = ap (λ (z : Slot). z.next) (same (held (ltb n room) 5 n _ e q).1) in (omega arith, omega arith)
    slot_read n false at e l q =
        let a = first (entry_at s major at) _ e (held (ltb n room) 5 n _ e q).1 in
        let g = ap (λ (z : Slot). z.next) (same a.2) in
        let r = entry_read major at a.0 a.1 in
        (omega (arith, r.0), omega (arith, r.1))

    slot_there : (n : ℕ) (owed : Bool) (at : ℕ) (e : Slot) → at ≤ length s → accept e ≡ slot_at s major room n owed at → Same (λ t. slot_at t major room n owed at) e.next e
    slot_there n owed at e l q t b c =
        both s t e.next (slot_read n owed at e l q).1 b (λ x y. accept e ≡ slot_at x major room n owed at → accept e ≡ slot_at y major room n owed at) (λ h x y z g. slot_same h x y major room n owed at e g (omega arith)) q

    -- a cell for slot n
    cell_kept : (n at : ℕ) → at ≤ length s → refuse nr place ≡ room_for room n → Kept (λ _. room_for room n) at
    cell_kept n at l e = need (ltb n room) 5 at l (λ y. omega arith) (λ y. absurd (omega arith)) (λ y. absurd (omega arith)) (λ y. absurd (omega arith)) n (at_place (ltb n room) 5 n e) e

    slot_kept : (n : ℕ) (owed : Bool) (at : ℕ) → at ≤ length s → refuse nr place ≡ slot_at s major room n owed at → Kept (λ t. slot_at t major room n owed at) at
    unfolding slot_at
    slot_kept n true at l e = last (λ _. room_for room n) _ at e (cell_kept n at l)
    slot_kept n false at l e = line (λ _. room_for room n) _ at (λ _. at) e (cell_kept n at l) (λ u q. (omega arith, λ _ _ _. q)) (λ u q e. last (λ t. entry_at t major at) _ at e (entry_kept major at l))

    entries_kept : (k : ℕ) (owed : Bool) (cells : List ℕ) (at : ℕ) → at ≤ length s → refuse nr place ≡ entries k owed s major room cells at → Kept (λ t. entries k owed t major room cells at) at
    unfolding entries
    entries_kept zero false cells at l e = absurd (never (sym e))
    entries_kept zero true cells at l e = last (λ _. room_for room (length cells)) _ at e (cell_kept (length cells) at l)
    entries_kept (suc k) owed cells at l e =
        line (λ t. slot_at t major room (length cells) owed at) _ at (λ a. a.next) e (slot_kept (length cells) owed at l)
        (λ a q. ((slot_read (length cells) owed at a l q).0, slot_there (length cells) owed at a l q))
        (λ a q e. entries_kept k a.wide (cells ++ a.cell ∷ []) a.next (slot_read (length cells) owed at a l q).1 e)

    entries_read : (k : ℕ) (owed : Bool) (cells : List ℕ) (at : ℕ) (r : Read) → at ≤ length s → accept r ≡ entries k owed s major room cells at → r.next ≤ length s
    unfolding entries
    entries_read zero false cells at r l e = let g = ap (λ (z : Read). z.next) (same e) in omega arith
    entries_read zero true cells at r l e = let g = ap (λ (z : Read). z.next) (same (held (ltb (length cells) room) 5 (length cells) _ r e).1) in omega arith
    entries_read (suc k) owed cells at r l e =
        let a = first (slot_at s major room (length cells) owed at) _ r e in
        entries_read k a.0.wide (cells ++ a.0.cell ∷ []) a.0.next r (slot_read (length cells) owed at a.0 l a.1).1 a.2

    all_kept : (count : ℕ) → 10 ≤ length s → refuse nr place ≡ all_entries s major count room → Kept (λ t. all_entries t major count room) 10
    unfolding all_entries
    all_kept count l e = line (λ _. room_for room 0) _ 10 (λ _. 10) e (cell_kept 0 10 l) (λ u q. (omega arith, λ _ _ _. q)) (λ u q e. entries_kept (count - 1) false (0 ∷ []) 10 l e)

  -- ---- the header

  -- what follows the test of the length
  abbrev numbers : List ℕ → Answer Header
  numbers t = do
    magic ← u4 t 0
    _ ← require (eqb magic 0xCAFEBABE) 3 0
    minor ← u2 t 4
    major ← u2 t 6
    count ← u2 t 8
    accept (record { minor = minor; major = major; count = count })

  numbers_kept : refuse nr place ≡ numbers s → Kept numbers 0
  numbers_kept e =
      line (λ t. u4 t 0) _ 0 (λ _. 4) e (u4_kept 0 (omega arith)) (λ x q. (omega arith, u4_same 0 x q)) (λ x q e.
      let i = u4_in s 0 x q in
      line (λ _. require (eqb x 0xCAFEBABE) 3 0) _ 4 (λ _. 4) e (λ g. need (eqb x 0xCAFEBABE) 3 4 i (λ y. omega arith) (λ y. absurd (omega arith)) (λ y. refl) (λ y. absurd (omega arith)) 0 (at_place (eqb x 0xCAFEBABE) 3 0 g) g) (λ u q. (omega arith, λ _ _ _. q)) (λ u q e.
      line (λ t. u2 t 4) _ 4 (λ _. 6) e (u2_kept 4 i) (λ y q. (omega arith, u2_same 4 y q)) (λ y q e.
      line (λ t. u2 t 6) _ 6 (λ _. 8) e (u2_kept 6 (u2_in s 4 y q)) (λ z q. (omega arith, u2_same 6 z q)) (λ z q e.
      last (λ t. u2 t 8) _ 8 e (u2_kept 8 (u2_in s 6 z q))))))

  allowed : (t : List ℕ) → length t ≤ 16777216 → numbers t ≡ header_of t
  unfolding header_of
  allowed t l = simp (le-leb _ _ l)

  header_kept : length s ≤ 16777216 → refuse nr place ≡ header_of s → Kept header_of 0
  header_kept l e =
      let k = numbers_kept (e ∙ sym (allowed s l)) in
      record {
        upto = k.upto;
        on = k.on;
        in_file = k.in_file;
        not_1 = k.not_1;
        of_2 = k.of_2;
        of_3 = k.of_3;
        of_4 = k.of_4;
        stays = λ t b c d. k.stays t b c d ∙ allowed t c;
      }

  header_long : (g : Header) → accept g ≡ header_of s → 10 ≤ length s
  unfolding header_of
  header_long g e =
      let a = held (leb (length s) 16777216) 1 0 _ g e in
      let m = first (u4 s 0) _ g a.1 in
      let c = held (eqb m.0 0xCAFEBABE) 3 0 _ g m.2 in
      let x = first (u2 s 4) _ g c.1 in
      let y = first (u2 s 6) _ g x.2 in
      let z = first (u2 s 8) _ g y.2 in
      u2_in s 8 z.0 z.1

  header_there : (g : Header) → accept g ≡ header_of s → Same header_of 10 g
  header_there g e t b c = both s t 10 (header_long g e) b (λ x y. length y ≤ 16777216 → accept g ≡ header_of x → accept g ≡ header_of y) (λ h x y z few q. header_same h x y few (omega arith) g q) c e

  -- ---- the pool as read

  read_kept : (room : ℕ) → length s ≤ 16777216 → refuse nr place ≡ read_pool s room → Kept (λ t. read_pool t room) 0
  unfolding read_pool
  read_kept room l e =
      line header_of _ 0 (λ _. 10) e (header_kept l) (λ h q. (omega arith, header_there h q)) (λ h q e.
      last (λ t. all_entries t h.major h.count room) _ 10 e (all_kept h.major room h.count (header_long h q)))

  too_long : (room : ℕ) → 16777216 < length s → refuse 1 0 ≡ read_pool s room
  unfolding read_pool header_of
  too_long room l = simp (lt-leb _ _ l)

-- an accepted pool ends inside the file, and is read of every file that begins so
module _ (s : List ℕ) (room : ℕ) (w : Whole) (e : accept w ≡ read_pool s room) where
  pub read_inside : w.next ≤ length s
  unfolding read_pool all_entries
  read_inside =
      let h = first (header_of s) _ w e in
      let r = first (all_entries s h.0.major h.0.count room) _ w h.2 in
      let a = held (ltb 0 room) 5 0 _ r.0 r.1 in
      let g : w.next ≡ r.0.next = ap (λ (z : Whole). z.next) (same r.2) in
      omega (arith, entries_read s 0 0 h.0.major room (h.0.count - 1) false (0 ∷ []) 10 r.0 (header_long s 0 0 h.0 h.1) a.1)

  pub read_there : (t : List ℕ) → Begins w.next s t → length t ≤ 16777216 → accept (record { pool = record { file = t; major = w.pool.major; cells = w.pool.cells }; minor = w.minor; next = w.next }) ≡ read_pool t room
  read_there t b l = both s t w.next read_inside b (λ x y. length y ≤ 16777216 → accept w ≡ read_pool x room → accept (record { pool = record { file = y; major = w.pool.major; cells = w.pool.cells }; minor = w.minor; next = w.next }) ≡ read_pool y room)
      (λ h x y z few q. pool_same h x y few room w q (omega arith)) l e

-- a refusal while the entries were read is settled by the bytes that were read
pub read_settled : (s : List ℕ) (room nr place : ℕ) → refuse nr place ≡ read_pool s room → Settled (λ t. read_pool t room) s nr place
read_settled s room nr place e = go (leb (length s) 16777216) refl
  where
    go : (b : Bool) → leb (length s) 16777216 ≡ b → Settled (λ t. read_pool t room) s nr place
    go true q =
        let k = read_kept s nr place room (leb-true _ _ q) e in
        record {
          upto = k.upto;
          inside = k.in_file;
          of_1 = λ y. absurd (k.not_1 y);
          of_2 = k.of_2;
          of_3 = k.of_3;
          of_4 = k.of_4;
          stays = λ t b c. k.stays t b (c.allowed k.not_1) c.no_longer;
        }
    go false q =
        let z = e ∙ sym (too_long s 1 0 room (leb-false _ _ q)) in
        let n : nr ≡ 1 = cc in
        let p : place ≡ 0 = cc in
        record {
          upto = 0;
          inside = omega arith;
          of_1 = λ y. refl;
          of_2 = λ y. sym p;
          of_3 = λ y. absurd (omega arith);
          of_4 = λ y. absurd (omega arith);
          stays = λ t b c. rw (n, p) (too_long t 1 0 room (c.too_long n));
        }
