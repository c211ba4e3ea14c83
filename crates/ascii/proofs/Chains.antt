-- A binary name in plain ASCII is bytes that can follow each other, the last no `/`. Assumes nothing.
use Prim.Native.Nat.{ℕ, zero, suc, ◌+◌, ◌-◌, ◌≤◌, ◌<◌}
use native.Mathlib.Omega.{arith}
use native.Mathlib.Nat.{zero-add}
use native.Mathlib.Numerals.{add-one}
use mathlib.Core.Path.{◌≡◌, refl, sym, ◌∙◌, ap, subst}
use mathlib.Core.List.{List, [], ◌∷◌, ◌++◌}
use mathlib.Core.Bool.{Bool, true, false, cond, not, ◌&&◌, ◌||◌}
use lib.ListN.{length, take, drop, get_or, length-drop, take-append-drop, drop_of_length-le}
use lib.Seq.{take_all, take-add, drop-drop, length-take-le, get_or-take}
use lib.Dec.{leb, ltb, eqb}
use borrow.Author.Tests.{eq-eqb, ne_eqb, eqb-true, lt-ltb, leb-true, not-true, not-false}
use Rattle.text.specs.Text.{one_of, none_of, binary, follows, walked, whole as whole_of}
use Rattle.text.proofs.Laws.{and_both, and_assoc}
use Rattle.text.proofs.Names.{scan, binary_scan}
use Rattle.ascii.specs.Ascii.{ascii, pairs, firsts, seconds, small, apart, stops, linked, linked1, packed, bytes, linked8}
use Rattle.ascii.proofs.Words.{zip, linked_eight}
use Rattle.ascii.proofs.Windows.{and_none, and_true, mixed, ascii_join, none_join, go_on, stop, rest, next, fours_long}

-- ---- the test goes part by part

firsts_join : (xs ys : List (ℕ × ℕ)) → firsts (xs ++ ys) ≡ firsts xs ++ firsts ys
unfolding firsts
firsts_join [] ys = refl
firsts_join (x ∷ xs) ys = ap (λ (l : List ℕ). x.0 ∷ l) (firsts_join xs ys)

seconds_join : (xs ys : List (ℕ × ℕ)) → seconds (xs ++ ys) ≡ seconds xs ++ seconds ys
unfolding seconds
seconds_join [] ys = refl
seconds_join (x ∷ xs) ys = ap (λ (l : List ℕ). x.1 ∷ l) (seconds_join xs ys)

small_join : (xs ys : List ℕ) → small (xs ++ ys) ≡ small xs && small ys
unfolding small
small_join [] ys = refl
small_join (x ∷ xs) ys = rw (small_join xs ys) (and_assoc (ltb x 128) (small xs) (small ys))

apart_join : (xs ys : List (ℕ × ℕ)) → apart (xs ++ ys) ≡ apart xs && apart ys
unfolding apart
apart_join [] ys = refl
apart_join (x ∷ xs) ys = rw (apart_join xs ys) (and_assoc (not (eqb x.1 0x2F && eqb x.0 0x2F)) (apart xs) (apart ys))

linked_join : (xs ys : List (ℕ × ℕ)) → linked (xs ++ ys) ≡ linked xs && linked ys
unfolding linked
linked_join xs ys =
    rw (firsts_join xs ys, seconds_join xs ys, small_join (firsts xs) (firsts ys), ascii_join (seconds xs) (seconds ys), none_join stops (seconds xs) (seconds ys), apart_join xs ys)
    (rw (mixed (small (firsts xs)) (small (firsts ys)) (ascii (seconds xs)) (ascii (seconds ys)), mixed (none_of stops (seconds xs)) (none_of stops (seconds ys)) (apart xs) (apart ys))
    (mixed (small (firsts xs) && ascii (seconds xs)) (small (firsts ys) && ascii (seconds ys)) (none_of stops (seconds xs) && apart xs) (none_of stops (seconds ys) && apart ys)))

linked_one : (p b : ℕ) → linked1 p b ≡ linked ((p, b) ∷ [])
unfolding linked firsts seconds small ascii none_of one_of apart
linked_one p b = go (ltb p 128) (leb 0x01 b && leb b 0x7F) (eqb b 0x2E) (eqb b 0x3B) (eqb b 0x5B) (not (eqb b 0x2F && eqb p 0x2F))
  where
    or_false : (a : Bool) → a || false ≡ a
    or_false true = refl
    or_false false = refl

    go : (s a m n o t : Bool) → (s && a) && (not (m || (n || o)) && t) ≡ ((s && true) && (a && true)) && ((not (m || (n || (o || false))) && true) && (t && true))
    go s a m n o t = rw (and_true s, and_true a, or_false o, and_true (not (m || (n || o))), and_true t)

-- ---- pairs by their places

pairs_length : (p : ℕ) (s : List ℕ) → length (pairs p s) ≡ length s
unfolding pairs
pairs_length p [] = refl
pairs_length p (b ∷ s) = ap suc (pairs_length b s)

take_pairs : (m p : ℕ) (s : List ℕ) → take m (pairs p s) ≡ pairs p (take m s)
unfolding pairs
take_pairs zero p s = refl
take_pairs (suc m) p [] = refl
take_pairs (suc m) p (b ∷ s) = ap (λ (l : List (ℕ × ℕ)). (p, b) ∷ l) (take_pairs m b s)

drop_pairs : (j p : ℕ) (s : List ℕ) → j < length s → drop (suc j) (pairs p s) ≡ pairs (get_or s j 0) (drop (suc j) s)
unfolding pairs
drop_pairs j p [] h = absurd (let z : ⊥ = omega arith in z)
drop_pairs zero p (b ∷ s) h = refl
drop_pairs (suc j) p (b ∷ s) h = drop_pairs j b s (omega arith)

zip_pairs : (m p : ℕ) (s : List ℕ) → zip (take m (p ∷ s)) (take m s) ≡ pairs p (take m s)
unfolding pairs
zip_pairs zero p s = refl
zip_pairs (suc m) p [] = refl
zip_pairs (suc m) p (b ∷ s) = ap (λ (l : List (ℕ × ℕ)). (p, b) ∷ l) (zip_pairs m b s)

module _ (s : List ℕ) (j : ℕ) where
  -- the m pairs after the one at j
  after : (m : ℕ) → j < length s → pairs (get_or s j 0) (take m (drop (j + 1) s)) ≡ take m (drop (j + 1) (pairs 0x2F s))
  after m h = rw add-one (sym (ap (take m) (drop_pairs j 0x2F s h) ∙ take_pairs m (get_or s j 0) (drop (suc j) s)))

  fours : (i k : ℕ) → k ≡ i + 4 → take 4 (drop i s) ++ take 4 (drop k s) ≡ take 8 (drop i s)
  fours i k e = sym (take-add 4 4 (drop i s) ∙ ap (λ (l : List ℕ). take 4 (drop i s) ++ take 4 l) (drop-drop 4 i s ∙ ap (λ (n : ℕ). drop n s) (sym e)))

  zip_at : j < length s → zip (take 4 (drop j s) ++ take 4 (drop (j + 4) s)) (take 4 (drop (j + 1) s) ++ take 4 (drop (j + 5) s)) ≡ take 8 (drop (j + 1) (pairs 0x2F s))
  zip_at h =
      ap (λ (l : List ℕ). zip l (take 4 (drop (j + 1) s) ++ take 4 (drop (j + 5) s))) (fours j (j + 4) refl ∙ ap (take 8) (next s j (j + 1) (omega arith) h))
      ∙ ap (λ (l : List ℕ). zip (take 8 (get_or s j 0 ∷ drop (j + 1) s)) l) (fours (j + 1) (j + 5) (omega arith))
      ∙ zip_pairs 8 (get_or s j 0) (drop (j + 1) s)
      ∙ after 8 h

  pub link_at : (v w : ℕ) (r : Bool) → j + 9 ≤ length s
      → (v ≡ packed (take 4 (drop j s) ++ take 4 (drop (j + 4) s))) × (bytes (take 4 (drop j s) ++ take 4 (drop (j + 4) s)) ≡ true)
      → (w ≡ packed (take 4 (drop (j + 1) s) ++ take 4 (drop (j + 5) s))) × (bytes (take 4 (drop (j + 1) s) ++ take 4 (drop (j + 5) s)) ≡ true)
      → r ≡ linked8 v w → r ≡ linked (take 8 (drop (j + 1) (pairs 0x2F s)))
  link_at v w r h x y e =
      e
      ∙ ap (λ (n : ℕ). linked8 n w) x.0
      ∙ ap (λ (n : ℕ). linked8 (packed (take 4 (drop j s) ++ take 4 (drop (j + 4) s))) n) y.0
      ∙ linked_eight (take 4 (drop j s) ++ take 4 (drop (j + 4) s)) (take 4 (drop (j + 1) s) ++ take 4 (drop (j + 5) s)) (fours_long s j (j + 4) (omega arith) (omega arith)) (fours_long s (j + 1) (j + 5) (omega arith) (omega arith)) x.1 y.1
      ∙ ap linked (zip_at (omega arith))

-- ---- the loops

-- the invariant: the pairs to the one at j are good
abbrev pub Chained : List ℕ → ℕ → Type 0
Chained s j = (j + 1 ≤ length s) × (linked (take (j + 1) (pairs 0x2F s)) ≡ true)

module _ (s : List ℕ) (r : Bool) where
  first : 1 ≤ length s → linked1 0x2F (get_or s 0 0) ≡ linked (take 1 (drop 0 (pairs 0x2F s)))
  unfolding pairs
  first h = linked_one 0x2F (get_or s 0 0) ∙ ap linked (sym (ap (λ (l : List ℕ). take 1 (pairs 0x2F l)) (next s 0 1 refl h)))

  pub begin : 1 ≤ length s → r ≡ linked1 0x2F (get_or s 0 0) → not r ≡ false → Chained s 0
  begin h e t = (omega arith, sym (first h) ∙ sym e ∙ not-false r t)

  pub first_stop : 1 ≤ length s → r ≡ linked1 0x2F (get_or s 0 0) → not r ≡ true → false ≡ linked (pairs 0x2F s)
  first_stop h e t = sym (stop linked linked_join (pairs 0x2F s) 0 1 (sym (first h) ∙ sym e ∙ not-true r t))

  module _ (j : ℕ) (g : Chained s j) where
    pub on : (m : ℕ) → m + 1 ≤ length s - j → r ≡ linked (take m (drop (j + 1) (pairs 0x2F s))) → not r ≡ false → Chained s (j + m)
    on m h e t =
        let p = go_on linked linked_join (pairs 0x2F s) (j + 1) m g.1 (sym e ∙ not-false r t) in
        let q : j + 1 + m ≡ j + m + 1 = omega arith in
        (omega arith, subst (λ (n : ℕ). linked (take n (pairs 0x2F s)) ≡ true) q p)

    pub off : (m : ℕ) → r ≡ linked (take m (drop (j + 1) (pairs 0x2F s))) → not r ≡ true → false ≡ linked (pairs 0x2F s)
    off m e t = sym (stop linked linked_join (pairs 0x2F s) (j + 1) m (sym e ∙ not-true r t))

    pub last_link : (k : ℕ) → k ≤ j → length s ≤ k + 9 → r ≡ linked (take 8 (drop (k + 1) (pairs 0x2F s))) → r ≡ linked (pairs 0x2F s)
    last_link k l h e =
        e
        ∙ ap linked (take_all 8 (drop (k + 1) (pairs 0x2F s)) (rw length-drop (rw (pairs_length 0x2F s) (omega arith))))
        ∙ sym (rest linked linked_join (pairs 0x2F s) (j + 1) (k + 1) g.1 (omega arith))

-- the pairs from a place on, p the byte before it
pub linked_on : (p i : ℕ) (s : List ℕ) → i < length s → linked (pairs p (drop i s)) ≡ linked1 p (get_or s i 0) && linked (pairs (get_or s i 0) (drop (i + 1) s))
unfolding pairs
linked_on p i s h =
    let b = get_or s i 0 in
    let l = drop (i + 1) s in
    ap (λ (t : List ℕ). linked (pairs p t)) (next s i (i + 1) (omega arith) h)
    ∙ linked_join ((p, b) ∷ []) (pairs b l)
    ∙ ap (λ (t : Bool). t && linked (pairs b l)) (sym (linked_one p b))

pub linked_out : (p i : ℕ) (s : List ℕ) → length s ≤ i → linked (pairs p (drop i s)) ≡ true
unfolding pairs linked firsts seconds small ascii none_of apart
linked_out p i s h = rw (drop_of_length-le s h)

-- ---- what the published test says

abbrev last_of : ℕ → List ℕ → ℕ
last_of p [] = p
last_of p (b ∷ s) = last_of b s

last_at : (b : ℕ) (s : List ℕ) → last_of b s ≡ get_or (b ∷ s) (length s) 0
last_at b [] = refl
last_at b (c ∷ s) = last_at c s

followed : (p b : ℕ) → follows (not (eqb p 0x2F)) b ≡ not (eqb b 0x2E || (eqb b 0x3B || eqb b 0x5B)) && not (eqb b 0x2F && eqb p 0x2F)
unfolding follows one_of
followed p b = go (eqb b 0x2F) refl
  where
    tidy : (m n o : Bool) → not (m || (n || (o || (false || false)))) ≡ not (m || (n || o)) && true
    tidy true n o = refl
    tidy false true o = refl
    tidy false false true = refl
    tidy false false false = refl

    go : (t : Bool) → eqb b 0x2F ≡ t → cond t (not (eqb p 0x2F)) (not (eqb b 0x2E || (eqb b 0x3B || (eqb b 0x5B || (t || false))))) ≡ not (eqb b 0x2E || (eqb b 0x3B || eqb b 0x5B)) && not (t && eqb p 0x2F)
    go true e = rw (eqb-true b 0x2F e)
    go false e = tidy (eqb b 0x2E) (eqb b 0x3B) (eqb b 0x5B)

pub linked_none : linked [] ≡ true
unfolding linked firsts seconds small ascii none_of apart
linked_none = refl

linked_nil : (t : Bool) → t ≡ linked [] && t
unfolding linked firsts seconds small ascii none_of apart
linked_nil t = refl

chain : (p : ℕ) (s : List ℕ) → p < 128 → ascii s && scan (not (eqb p 0x2F)) s ≡ linked (pairs p s) && not (eqb (last_of p s) 0x2F)
unfolding ascii scan pairs
chain p [] h = linked_nil (not (eqb p 0x2F))
chain p (b ∷ s) h =
    go (leb 0x01 b && leb b 0x7F) refl (λ l. chain b s l)
    ∙ ap (λ (t : Bool). t && not (eqb (last_of b s) 0x2F))
    (ap (λ (t : Bool). t && linked (pairs b s)) (ap (λ (t : Bool). (t && (leb 0x01 b && leb b 0x7F)) && (not (eqb b 0x2E || (eqb b 0x3B || eqb b 0x5B)) && not (eqb b 0x2F && eqb p 0x2F))) (sym (lt-ltb p 128 h)) ∙ linked_one p b) ∙ sym (linked_join ((p, b) ∷ []) (pairs b s)))
  where
    mix : (a f c k e : Bool) → a && c ≡ k && e → a && (f && c) ≡ (f && k) && e
    mix a true c k e h = h
    mix true false c k e h = refl
    mix false false c k e h = refl

    go : (t : Bool) → leb 0x01 b && leb b 0x7F ≡ t → (b < 128 → ascii s && scan (not (eqb b 0x2F)) s ≡ linked (pairs b s) && not (eqb (last_of b s) 0x2F))
        → (t && ascii s) && (follows (not (eqb p 0x2F)) b && scan (not (eqb b 0x2F)) s)
        ≡ ((t && (not (eqb b 0x2E || (eqb b 0x3B || eqb b 0x5B)) && not (eqb b 0x2F && eqb p 0x2F))) && linked (pairs b s)) && not (eqb (last_of b s) 0x2F)
    go false e i = refl
    go true e i =
        let l = leb-true b 0x7F (and_both (leb 0x01 b) (leb b 0x7F) e).1 in
        rw (followed p b) (mix (ascii s) (not (eqb b 0x2E || (eqb b 0x3B || eqb b 0x5B)) && not (eqb b 0x2F && eqb p 0x2F)) (scan (not (eqb b 0x2F)) s) (linked (pairs b s)) (not (eqb (last_of b s) 0x2F)) (i (omega arith)))

whole : (s : List ℕ) → ascii s && binary s ≡ linked (pairs 0x2F s) && not (eqb (last_of 0x2F s) 0x2F)
whole s = ap (λ (t : Bool). ascii s && t) (binary_scan s) ∙ chain 0x2F s (omega arith)

end_at : (s : List ℕ) → 0 < length s → last_of 0x2F s ≡ get_or s (length s - 1) 0
end_at [] h = absurd (let z : ⊥ = omega arith in z)
end_at (b ∷ s) h = last_at b s ∙ ap (λ (n : ℕ). get_or (b ∷ s) n 0) (let e : length s ≡ suc (length s) - 1 = omega arith in e)

pub empty_none : (s : List ℕ) → length s ≡ 0 → false ≡ ascii s && binary s
empty_none [] h = sym (whole [] ∙ and_none (linked (pairs 0x2F [])))
empty_none (b ∷ s) h = absurd (let z : ⊥ = omega arith in z)

pub slash_last : (s : List ℕ) → 0 < length s → get_or s (length s - 1) 0 ≡ 0x2F → false ≡ ascii s && binary s
slash_last s h e = sym (whole s ∙ ap (λ (t : Bool). linked (pairs 0x2F s) && not t) (eq-eqb (last_of 0x2F s) 0x2F (end_at s h ∙ e)) ∙ and_none (linked (pairs 0x2F s)))

pub name_last : (s : List ℕ) (r : Bool) → 0 < length s → (get_or s (length s - 1) 0 ≡ 0x2F → ⊥) → r ≡ linked (pairs 0x2F s) → r ≡ ascii s && binary s
name_last s r h n e =
    e ∙ sym (whole s ∙ ap (λ (t : Bool). linked (pairs 0x2F s) && not t) (ne_eqb (last_of 0x2F s) 0x2F (λ z. n (sym (end_at s h) ∙ z))) ∙ and_true (linked (pairs 0x2F s)))

-- ---- a walk along a name that begins with bytes seen to be linked

module _ (p : ℕ) (h : p < 128) where
  pair_follows : (b : ℕ) → linked1 p b ≡ true → (b < 128) × (follows (not (eqb p 0x2F)) b ≡ true)
  pair_follows b e =
      let u = and_both (ltb p 128 && (leb 0x01 b && leb b 0x7F)) (not (eqb b 0x2E || (eqb b 0x3B || eqb b 0x5B)) && not (eqb b 0x2F && eqb p 0x2F)) e in
      let v = and_both (ltb p 128) (leb 0x01 b && leb b 0x7F) u.0 in
      let l = leb-true b 0x7F (and_both (leb 0x01 b) (leb b 0x7F) v.1).1 in
      (omega arith, followed p b ∙ u.1)

abbrev Ahead : Bool → Bool → ℕ → List ℕ → List ℕ → Type 0
Ahead seen then n ys zs = (walked seen zs ≡ n + walked then ys) × (whole_of seen zs ≡ whole_of then ys)

ahead : (p : ℕ) (xs ys : List ℕ) → p < 128 → linked (pairs p xs) ≡ true → Ahead (not (eqb p 0x2F)) (not (eqb (last_of p xs) 0x2F)) (length xs) ys (xs ++ ys)
unfolding pairs walked whole_of
ahead p [] ys h e = (sym (zero-add _), refl)
ahead p (b ∷ xs) ys h e =
    let q = and_both (linked ((p, b) ∷ [])) (linked (pairs b xs)) (sym (linked_join ((p, b) ∷ []) (pairs b xs)) ∙ e) in
    let f = pair_follows p h b (linked_one p b ∙ q.0) in
    let i = ahead b xs ys f.0 q.1 in
    rw f.1 (let z = i.0 in omega arith, i.1)

-- a byte that is no `/` follows or not, whatever stood before
any_follows : (seen : Bool) (b : ℕ) → eqb b 0x2F ≡ false → follows seen b ≡ true → follows false b ≡ true
unfolding follows
any_follows seen b e f = rw e (rw e at f)

last_follows : (p b : ℕ) (xs : List ℕ) → p < 128 → linked (pairs p (b ∷ xs)) ≡ true → eqb (last_of b xs) 0x2F ≡ false → follows false (last_of b xs) ≡ true
unfolding pairs
last_follows p b [] h e n =
    let q = and_both (linked ((p, b) ∷ [])) (linked (pairs b [])) (sym (linked_join ((p, b) ∷ []) (pairs b [])) ∙ e) in
    any_follows (not (eqb p 0x2F)) b n (pair_follows p h b (linked_one p b ∙ q.0)).1
last_follows p b (y ∷ ys) h e n =
    let q = and_both (linked ((p, b) ∷ [])) (linked (pairs b (y ∷ ys))) (sym (linked_join ((p, b) ∷ []) (pairs b (y ∷ ys))) ∙ e) in
    last_follows b y ys (pair_follows p h b (linked_one p b ∙ q.0)).0 q.1 n

-- the walk from r on ends where the whole walk does
abbrev pub Head : List ℕ → ℕ → Type 0
Head s r = (r ≤ length s) × (r + walked false (drop r s) ≡ walked false s) × (whole_of false (drop r s) ≡ whole_of false s)

pub no_head : (s : List ℕ) → Head s 0
no_head s = (omega arith, zero-add _, refl)

module _ (s : List ℕ) where
  ahead_at : (k : ℕ) → k ≤ length s → linked (take k (pairs 0x2F s)) ≡ true → Ahead false (not (eqb (last_of 0x2F (take k s)) 0x2F)) k (drop k s) s
  ahead_at k h e =
      let a = ahead 0x2F (take k s) (drop k s) (omega arith) (ap linked (sym (take_pairs k 0x2F s)) ∙ e) in
      let b = subst (λ (l : List ℕ). Ahead false (not (eqb (last_of 0x2F (take k s)) 0x2F)) (length (take k s)) (drop k s) l) (take-append-drop k s) a in
      subst (λ (n : ℕ). Ahead false (not (eqb (last_of 0x2F (take k s)) 0x2F)) n (drop k s) s) (length-take-le k s h) b

  pub slash_head : (k : ℕ) → 0 < k → (k ≤ length s) × (linked (take k (pairs 0x2F s)) ≡ true) → get_or s (k - 1) 0 ≡ 0x2F → Head s k
  slash_head k l g e =
      let n = length-take-le k s g.0 in
      let x : last_of 0x2F (take k s) ≡ 0x2F = end_at (take k s) (omega arith) ∙ ap (λ (m : ℕ). get_or (take k s) (m - 1) 0) n ∙ get_or-take k s (k - 1) 0 (omega arith) ∙ e in
      let a = subst (λ (t : Bool). Ahead false (not t) k (drop k s) s) (eq-eqb (last_of 0x2F (take k s)) 0x2F x) (ahead_at k g.0 g.1) in
      (g.0, sym a.0, sym a.1)

  pub name_head : (k : ℕ) → 0 < k → (k ≤ length s) × (linked (take k (pairs 0x2F s)) ≡ true) → (get_or s (k - 1) 0 ≡ 0x2F → ⊥) → Head s (k - 1)
  unfolding walked whole_of
  name_head k l g e =
      let n = length-take-le k s g.0 in
      let x : last_of 0x2F (take k s) ≡ get_or s (k - 1) 0 = end_at (take k s) (omega arith) ∙ ap (λ (m : ℕ). get_or (take k s) (m - 1) 0) n ∙ get_or-take k s (k - 1) 0 (omega arith) in
      let y : eqb (get_or s (k - 1) 0) 0x2F ≡ false = ne_eqb (get_or s (k - 1) 0) 0x2F e in
      let z : linked (pairs 0x2F (take k s)) ≡ true = ap linked (sym (take_pairs k 0x2F s)) ∙ g.1 in
      let f : follows false (get_or s (k - 1) 0) ≡ true = subst (λ (b : ℕ). follows false b ≡ true) x (ends_well (take k s) (omega arith) z (ap (λ (b : ℕ). eqb b 0x2F) x ∙ y)) in
      let a = subst (λ (b : ℕ). Ahead false (not (eqb b 0x2F)) k (drop k s) s) x (ahead_at k g.0 g.1) in
      let d : drop (k - 1) s ≡ get_or s (k - 1) 0 ∷ drop k s = next s (k - 1) k (omega arith) (omega arith) in
      let w = one_more (get_or s (k - 1) 0) (drop k s) f in
      let u : walked false (drop (k - 1) s) ≡ suc (walked (not (eqb (get_or s (k - 1) 0) 0x2F)) (drop k s)) = ap (walked false) d ∙ w.0 in
      let v : whole_of false (drop (k - 1) s) ≡ whole_of (not (eqb (get_or s (k - 1) 0) 0x2F)) (drop k s) = ap (whole_of false) d ∙ w.1 in
      (omega arith, (let q = a.0 in omega arith), v ∙ sym a.1)
    where
      one_more : (b : ℕ) (l : List ℕ) → follows false b ≡ true → (walked false (b ∷ l) ≡ suc (walked (not (eqb b 0x2F)) l)) × (whole_of false (b ∷ l) ≡ whole_of (not (eqb b 0x2F)) l)
      one_more b l f = (rw f, rw f)

      ends_well : (xs : List ℕ) → 0 < length xs → linked (pairs 0x2F xs) ≡ true → eqb (last_of 0x2F xs) 0x2F ≡ false → follows false (last_of 0x2F xs) ≡ true
      ends_well [] h e n = absurd (let z : ⊥ = omega arith in z)
      ends_well (b ∷ xs) h e n = last_follows 0x2F b xs (omega arith) e n
