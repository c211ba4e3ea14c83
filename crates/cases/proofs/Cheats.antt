-- Document 01, "Readers that would cheat": none of them answers as the definitions do. Assumes nothing.
use Prim.Native.Nat.{ℕ, zero, suc}
use native.Mathlib.Omega.{arith}
use mathlib.Core.Path.{◌≡◌, refl, sym, ◌∙◌, ap}
use mathlib.Core.List.{List, [], ◌∷◌}
use lib.IntN.{negsuc}
use lib.ListN.{get_or, replicate}
use Rattle.reads.specs.Answer.{Answer, accept, ◌>>=◌, mapped}
use Rattle.reads.specs.Bytes as reads
use Rattle.text.specs.Text as text
use Rattle.pool.specs.Rows as rows
use Rattle.pool.specs.Pool.{Whole, slots, second_width, wide, entry_at, slot_at, entries, all_entries, header_of, read_pool}
use Rattle.literal.specs.Values.{integer}
use Rattle.slot.specs.Slots.{tag_of, field}
use Rattle.checks.specs.Checks.{reference, references, obey}
use Rattle.cases.specs.Cases.{Ask, read_with, literal_asked, dependants_asked, Said, p_is, slot_is, member_is, handle_is, literal_is, text_is, bytes_are, list_is, says, Case, cases, Shown, a_to_p, file_e, file_o, table_o, at_major}
use Rattle.cases.specs.Wrongs.{answer, num, nums, bit, literal, file_c, file_j}
use Rattle.cases.proofs.Wrongs.{told}

abbrev file_d : List ℕ
file_d = at_major 52 (0 ∷ 2 ∷ 3 ∷ 0x80 ∷ 0 ∷ 0 ∷ 0 ∷ [])

-- whatever answers, and that it answers as the definitions do, to everything that is asked of any file
abbrev pub Reader : Type 0
Reader = List ℕ → Ask → Said

abbrev pub Keeps : Reader → Type 0
Keeps f = (s : List ℕ) (a : Ask) → f s a ≡ says s a

-- ---- case n of document 01's table, from the statement over all of them

abbrev Holds : ℕ → List Case → Type 0
Holds n [] = Unit {0}
Holds zero (c ∷ cs) = says c.file c.ask ≡ c.said
Holds (suc n) (c ∷ cs) = Holds n cs

pick : (n : ℕ) (cs : List Case) → Shown cs → Holds n cs
pick n [] h = tt
pick zero (c ∷ cs) h = h.0
pick (suc n) (c ∷ cs) h = pick n cs h.1

case_at : (n : ℕ) → Holds n cases
case_at n = pick n cases a_to_p

-- ---- the numbers of what is said: of the answer, where an accepted one begins with 0 and a refusal is its number and place, and of the lent table

abbrev pub answered : Said → List ℕ
answered (p_is a t) = answer num a
answered (slot_is a) = answer num a
answered (member_is a) = answer (λ m. m.tag ∷ m.class ∷ m.name ∷ m.descriptor ∷ []) a
answered (handle_is a) = answer (λ h. num h.kind) a
answered (literal_is a) = answer literal a
answered (text_is a) = answer (λ b. num (bit b)) a
answered (bytes_are a) = answer nums a
answered (list_is a t) = answer nums a

abbrev pub left : Said → List ℕ
left (p_is a t) = t
left (slot_is a) = []
left (member_is a) = []
left (handle_is a) = []
left (literal_is a) = []
left (text_is a) = []
left (bytes_are a) = []
left (list_is a t) = t

-- a pool of which slot 1 alone is checked
abbrev pub waved : List ℕ → ℕ → Answer Whole
waved s room = do
  w ← read_pool s room
  _ ← references w.pool 1
  _ ← obey w.pool 1
  accept w

waves_j : mapped (λ w. slots w.pool) (waved file_j 4) ≡ accept 4
unfolding reads.within reads.u1 reads.u2 reads.u4 reads.skipped rows.row_of second_width wide entry_at slot_at entries all_entries header_of read_pool tag_of field reference references obey
waves_j = refl

-- ---- the cheats

module _ (f : Reader) (keeps : Keeps f) where
  -- one that refuses everything: C
  pub refuses_everything : ((s : List ℕ) (room : ℕ) → (nr : ℕ) × (place : ℕ) × (answered (f s (read_with room)) ≡ suc nr ∷ place ∷ [])) → ⊥
  refuses_everything h =
      let r = h file_c 2 in
      let e = ap (λ (l : List ℕ). get_or l 0 0) (sym r.2 ∙ ap answered (keeps file_c (read_with 2) ∙ case_at 2)) in
      omega (arith, e)

  -- one that gives a fixed answer: C and D
  pub fixed_answer : (x : Said) → ((s : List ℕ) → f s (literal_asked (0 ∷ 10 ∷ []) 1) ≡ x) → ⊥
  unfolding text.same
  fixed_answer x h =
      let q = literal_asked (0 ∷ 10 ∷ []) 1 in
      let e = sym (keeps file_c q ∙ case_at 33) ∙ h file_c ∙ sym (h file_d) ∙ keeps file_d q ∙ case_at 34 in
      told answered (literal_is (accept (integer (negsuc 0)))) (literal_is (accept (integer (negsuc 2147483647)))) refl e

  -- one that writes no cells: E
  pub writes_no_cells : ((s : List ℕ) (room : ℕ) → left (f s (read_with room)) ≡ replicate room 0) → ⊥
  unfolding text.same
  writes_no_cells h = told nums (0 ∷ 10 ∷ 13 ∷ []) (0 ∷ 0 ∷ 0 ∷ []) refl (sym (ap left (keeps file_e (read_with 3) ∙ case_at 4)) ∙ h file_e 3)

  -- one that checks slot 1 and waves the rest through: J
  pub waves_through : ((s : List ℕ) (room : ℕ) → answered (f s (read_with room)) ≡ answer num (mapped (λ w. slots w.pool) (waved s room))) → ⊥
  unfolding text.same
  waves_through h = told nums (8 ∷ 3 ∷ []) (0 ∷ 4 ∷ []) refl (sym (ap answered (keeps file_j (read_with 4) ∙ case_at 9)) ∙ h file_j 4 ∙ ap (answer num) waves_j)

  -- one that gives an empty list: O
  pub empty_list : ((s table : List ℕ) (n room : ℕ) → answered (f s (dependants_asked table n room)) ≡ 0 ∷ []) → ⊥
  unfolding text.same
  empty_list h = told nums (0 ∷ 1 ∷ 2 ∷ 3 ∷ 4 ∷ []) (0 ∷ []) refl (sym (ap answered (keeps file_o (dependants_asked table_o 5 5) ∙ case_at 43)) ∙ h file_o table_o 5 5)

  -- one that invents the number needed, from the room if it likes: O
  pub invented_number : (g : ℕ → ℕ) → ((s table : List ℕ) (n room place : ℕ) → answered (f s (dependants_asked table n room)) ≡ 13 ∷ place ∷ [] → place ≡ g room) → ⊥
  unfolding text.same
  invented_number g h =
      let a = h file_o table_o 5 2 4 (ap answered (keeps file_o (dependants_asked table_o 5 2) ∙ case_at 50)) in
      let b = h file_o table_o 6 2 3 (ap answered (keeps file_o (dependants_asked table_o 6 2) ∙ case_at 51)) in
      told num 4 3 refl (a ∙ sym b)
