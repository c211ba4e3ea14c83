-- A binary name is one or more unqualified names joined by `/`, said without `split`: both ways. Assumes nothing.
use Prim.Native.Nat.{ℕ}
use mathlib.Core.Path.{◌≡◌, refl, sym, ◌∙◌, ap}
use mathlib.Core.List.{List, [], ◌∷◌, ◌++◌}
use mathlib.Core.Bool.{Bool, true, false, cond, not, ◌||◌, true≢false}
use lib.ListN.{length}
use lib.Dec.{eqb, ltb}
use borrow.Author.Tests.{eqb-true}
use Rattle.text.proofs.Laws.{and_both}
use Rattle.text.specs.Text.{one_of, none_of, marks, unqualified, onto, split, all_of, binary}

-- a first name, and those that follow it, each behind a `/`
abbrev pub joined : List ℕ → List (List ℕ) → List ℕ
joined w [] = w
joined w (v ∷ vs) = w ++ 0x2F ∷ joined v vs

-- a byte of a name is no `/`
apart : (b : ℕ) → not (one_of marks b) ≡ true → eqb b 0x2F ≡ false
unfolding one_of
apart b = go (eqb b 0x2E) (eqb b 0x3B) (eqb b 0x5B) (eqb b 0x2F)
  where
    go : (p q r t : Bool) → not (p || (q || (r || (t || false)))) ≡ true → t ≡ false
    go true q r t h = absurd (true≢false (sym h))
    go false true r t h = absurd (true≢false (sym h))
    go false false true t h = absurd (true≢false (sym h))
    go false false false true h = absurd (true≢false (sym h))
    go false false false false h = refl

-- a name without `/` is the first part of what it begins
split_alone : (w : List ℕ) → none_of marks w ≡ true → split 0x2F w ≡ w ∷ []
unfolding split onto none_of
split_alone [] h = refl
split_alone (b ∷ w) h = let p = and_both _ _ h in rw (apart b p.0, split_alone w p.1)

split_more : (w rest : List ℕ) → none_of marks w ≡ true → split 0x2F (w ++ 0x2F ∷ rest) ≡ w ∷ split 0x2F rest
unfolding split onto none_of
split_more [] rest h = refl
split_more (b ∷ w) rest h = let p = and_both _ _ h in rw (apart b p.0, split_more w rest p.1)

plain_of : (w : List ℕ) → unqualified w ≡ true → none_of marks w ≡ true
unfolding unqualified
plain_of w h = (and_both (ltb 0 (length w)) (none_of marks w) h).1

split_joined : (w : List ℕ) (ws : List (List ℕ)) → all_of unqualified (w ∷ ws) ≡ true → split 0x2F (joined w ws) ≡ w ∷ ws
unfolding all_of
split_joined w [] h = split_alone w (plain_of w (and_both _ _ h).0)
split_joined w (v ∷ vs) h =
    let p = and_both (unqualified w) (all_of unqualified (v ∷ vs)) h in
    split_more w (joined v vs) (plain_of w p.0) ∙ ap (λ (l : List (List ℕ)). w ∷ l) (split_joined v vs p.1)

-- unqualified names joined by `/` are a binary name
pub joined_binary : (w : List ℕ) (ws : List (List ℕ)) → all_of unqualified (w ∷ ws) ≡ true → binary (joined w ws) ≡ true
unfolding binary
joined_binary w ws h = rw (split_joined w ws h) h

-- the parts are joined by `/` again
abbrev Parts : List ℕ → Type 0
Parts bs = (w : List ℕ) × (ws : List (List ℕ)) × (split 0x2F bs ≡ w ∷ ws) × (joined w ws ≡ bs)

put_on : (b : ℕ) (w : List ℕ) (ws : List (List ℕ)) → joined (b ∷ w) ws ≡ b ∷ joined w ws
put_on b w [] = refl
put_on b w (v ∷ vs) = refl

parts : (bs : List ℕ) → Parts bs
unfolding split onto
parts [] = ([], [], refl, refl)
parts (b ∷ bs) = go (eqb b 0x2F) refl (parts bs)
  where
    go : (t : Bool) → eqb b 0x2F ≡ t → Parts bs → (w : List ℕ) × (ws : List (List ℕ)) × (cond t ([] ∷ split 0x2F bs) (onto b (split 0x2F bs)) ≡ w ∷ ws) × (joined w ws ≡ b ∷ bs)
    go true e (w, ws, p, q) = ([], w ∷ ws, ap (λ (l : List (List ℕ)). [] ∷ l) p, rw (eqb-true b 0x2F e) (ap (λ (l : List ℕ). 0x2F ∷ l) q))
    go false e (w, ws, p, q) = (b ∷ w, ws, ap (onto b) p, put_on b w ws ∙ ap (λ (l : List ℕ). b ∷ l) q)

-- a binary name is unqualified names joined by `/`
pub binary_joined : (bs : List ℕ) → binary bs ≡ true → (w : List ℕ) × (ws : List (List ℕ)) × (all_of unqualified (w ∷ ws) ≡ true) × (joined w ws ≡ bs)
unfolding binary
binary_joined bs h = let p = parts bs in (p.0, p.1, rw p.2 at h, p.3)
