-- Demand 3, from the contracts of the calls: the dependants of any slot of an accepted pool, on the table that the pool call left, and that no chain of references is longer than three. Assumes nothing.
use Prim.Native.Nat.{ℕ, ◌/◌, ◌≤◌, ◌<◌}
use native.Mathlib.Omega.{arith}
use mathlib.Core.Path.{◌≡◌, refl, sym, ap, subst, ◌∙◌}
use mathlib.Core.List.{List}
use lib.ListN.{length, replicate}
use denote.Ref.{Bor, MutBor}
use contract.Lifetimes.{Lfts}
use Rattle.std.specs.Prelude.{Result}
use Rattle.reads.specs.declared.Refusal.{Refusal}
use Rattle.reads.specs.Answer.{Answer, accept, refuse, mapped}
use Rattle.reads.specs.Promise.{Is, answered}
use Rattle.reads.specs.Tables.{padded, after}
use Rattle.reads.proofs.Answers.{never}
use Rattle.pool.specs.declared.Head.{Head}
use Rattle.pool.specs.Pool.{Whole, slots}
use Rattle.pool.specs.Readings.{head_of}
use Rattle.pool.proofs.Room.{Bytes}
use Rattle.checks.specs.Checks.{pool}
use Rattle.checks.proofs.read_pool.Reads as read_pool_reads
use Rattle.handed.specs.Handed.{handed}
use Rattle.handed.proofs.Own.{own, left}
use Rattle.reach.specs.Reach.{Chain, dependants_in}
use Rattle.reach.proofs.Sieve.{rising_once}
use Rattle.reach.proofs.Chains.{at_most_three}
use Rattle.reach.proofs.Listed.{dependants_are, dependants_rise, listed_slot}
use Rattle.dependants.specs.Dependants.{dependants}
use Rattle.dependants.proofs.Demand.{refused_7, refused_13, accepted}
use Rattle.dependants.proofs.Edge.{handed_is}
use Rattle.dependants.proofs.dependants.Reads as dependants_reads
use Rattle.cells.specs.Cells.{cells_in}
use Rattle.numbers.specs.declared.LuoPoolAnswer.{LuoPoolAnswer}
use Rattle.numbers.specs.declared.LuoListAnswer.{LuoListAnswer}
use Rattle.numbers.specs.Numbers.{list_numbers}
use Rattle.loader.proofs.Own.{table_is_taken}
use Rattle.loader.proofs.luo_pool.Reads as luo_pool_reads
use Rattle.loader.proofs.luo_dependants.Reads as luo_dependants_reads
use Rattle.demands.specs.Dependants.{Demand3}
use Rattle.demands.proofs.OnBytes.{list_cells}
use Rattle.demands.proofs.Ordered.{same_list}

-- the cells lent, afterwards
abbrev lent : ℕ → Answer (List ℕ) → List ℕ
lent k x = after 0 (λ xs. xs) k x

-- what is accepted of a part, or refused, is so of the whole
unmapped : {A B : Type 0} (f : A → B) (x : Answer A) (nr place : ℕ) → refuse nr place ≡ mapped f x → x ≡ refuse nr place
unmapped f (accept a) nr place e = absurd (never (sym e))
unmapped f (refuse n p) nr place e =
    let y : n ≡ nr = cc in
    let z : p ≡ place = cc in
    λ i. refuse (y i) (z i)

whole_of : (x : Answer Whole) (h : Head) → accept h ≡ mapped head_of x → (w : Whole) × (accept w ≡ x)
whole_of (accept w) h e = (w, refl)
whole_of (refuse nr place) h e = absurd (never e)

-- a struct that tells a 13 tells no other answer
told_13 : (y : Answer ℕ) (place : ℕ) → list_numbers (refuse 13 place) ≡ list_numbers y → refuse 13 place ≡ y
told_13 (accept n) place e = absurd (let q : 13 ≡ 0 = ap (λ (r : LuoListAnswer). r.refusal) e in omega arith)
told_13 (refuse nr p) place e = λ i. refuse (e i).refusal (e i).place

-- ---- any table that is accepted, and any outcome that says what is defined

module _ (s table : List ℕ) (w : Whole) (o : accept w ≡ handed s table) (n k : ℕ) where
  module _ (Answered : Answer ℕ → Type 0) (says : Answered (mapped length (dependants s table n k))) (left : List ℕ) (leaves : left ≡ lent k (dependants s table n k)) where
    said : {x : Answer (List ℕ)} → dependants s table n k ≡ x → Answered (mapped length x) × (left ≡ lent k x)
    said e = (subst Answered (ap (mapped length) e) says, leaves ∙ ap (lent k) e)

    of_accepted : ((place : ℕ) → Answered (refuse 13 place) → refuse 13 place ≡ mapped length (dependants s table n k)) → n < slots w.pool → Demand3 w.pool n k Answered left
    of_accepted one h =
        let ok = (handed_is s table w o).1 in
        let full = refused_13 s table w o n k h in
        record {
          list = dependants_in w.pool n;
          exactly = λ a. dependants_are w.pool ok a n;
          slot = λ a m. listed_slot w.pool a n m;
          once = rising_once (dependants_in w.pool n) (dependants_rise w.pool n);
          rising = dependants_rise w.pool n;
          alone = λ xs f r. same_list xs (dependants_in w.pool n) r (dependants_rise w.pool n) (λ a. let d = dependants_are w.pool ok a n in (λ m. d.1 ((f a).0 m), λ m. (f a).1 (d.0 m)));
          fits = λ l. said (accepted s table w o n k h l);
          more = λ l. said ((full (length (dependants_in w.pool n))).1 (omega arith, refl));
          only_then = λ place. (λ a. (full place).0 (unmapped length (dependants s table n k) 13 place (one place a)), λ r. (said ((full place).1 r)).0);
        }

    no_slot : slots w.pool ≤ n → Answered (refuse 7 n) × (left ≡ replicate k 0)
    no_slot h = said (refused_7 s table w o n k h)

-- ---- after a pool call on a file of bytes, whose outcome is y and d

abbrev Slice : Type 0
Slice = Bor (List ℕ)

abbrev LentSlice : Type 0
LentSlice = MutBor (List ℕ)

abbrev Two : Type 0
Two = Slice × (LentSlice × Unit {0})

module _ (file : Slice) (table : LentSlice) (b : Bytes file.now) (κs : Lfts 2) (y : Result Head Refusal) (d : Two) (r : read_pool_reads.Learnt κs (file, (table, tt)) y d) where
  -- where it accepts there is a pool ..
  pub pool_accepted : (h : Head) → Is answered (accept h) y → (w : Whole) × (accept w ≡ pool file.now (length table.now))
  pool_accepted h q = whole_of (pool file.now (length table.now)) h (sym q ∙ r.0)

  -- .. of which, on the table that it left, the dependants of a slot are asked
  module _ (w : Whole) (e : accept w ≡ pool file.now (length table.now)) (again given : Slice) (list : LentSlice) (f : again.now ≡ file.now) (t : given.now ≡ d.1.0.now) where
    taken : accept w ≡ handed again.now given.now
    taken = rw (f, t ∙ r.1) (left file.now b (length table.now) w e)

    pub demand_3 : (κs : _) (n : ℕ) → n < slots w.pool → (z : Result ℕ Refusal) (o : _) → dependants_reads.Learnt κs (again, (given, (n, (list, tt)))) z o → Demand3 w.pool n (length list.now) (λ x. Is answered x z) o.1.1.1.0.now
    demand_3 κs n h z o l = of_accepted again.now given.now w taken n (length list.now) (λ x. Is answered x z) l.0 o.1.1.1.0.now l.1 (λ place q. sym q ∙ l.0) h

    -- what is no slot is refused
    pub demand_3_past : (κs : _) (n : ℕ) → slots w.pool ≤ n → (z : Result ℕ Refusal) (o : _) → dependants_reads.Learnt κs (again, (given, (n, (list, tt)))) z o → Is answered (refuse 7 n) z × (o.1.1.1.0.now ≡ replicate (length list.now) 0)
    demand_3_past κs n h z o l = no_slot again.now given.now w taken n (length list.now) (λ x. Is answered x z) l.0 o.1.1.1.0.now l.1 h

  -- no chain of references is longer than three
  pub demand_3_chains : (w : Whole) → accept w ≡ pool file.now (length table.now) → (k a : ℕ) → Chain w.pool k a → k ≤ 3
  demand_3_chains w e = at_most_three w.pool (handed_is file.now _ w (left file.now b (length table.now) w e)).1

-- ---- the same cells in a longer table, with zeros

module _ (file : Slice) (b : Bytes file.now) (room : ℕ) (w : Whole) (e : accept w ≡ pool file.now room) (len : ℕ) (fits : slots w.pool ≤ len) (given : Slice) (list : LentSlice) (t : given.now ≡ padded 0 len w.pool.cells) where
  pub demand_3_padded : (κs : _) (n : ℕ) → n < slots w.pool → (z : Result ℕ Refusal) (o : _) → dependants_reads.Learnt κs (file, (given, (n, (list, tt)))) z o → Demand3 w.pool n (length list.now) (λ x. Is answered x z) o.1.1.1.0.now
  demand_3_padded κs n h z o l = of_accepted file.now given.now w (rw t (own file.now b room w e len fits)) n (length list.now) (λ x. Is answered x z) l.0 o.1.1.1.0.now l.1 (λ place q. sym q ∙ l.0) h

-- ---- on bytes: the table as `luo_pool` leaves it, and the list as `luo_dependants` does

module _ (file : Slice) (table : LentSlice) (b : Bytes file.now) (κs : Lfts 2) (y : LuoPoolAnswer) (d : Two) (r : luo_pool_reads.Learnt κs (file, (table, tt)) y d) where
  module _ (w : Whole) (e : accept w ≡ pool file.now (length table.now / 4)) (again given : Slice) (list : LentSlice) (f : again.now ≡ file.now) (t : given.now ≡ d.1.0.now) where
    taken_bytes : accept w ≡ handed again.now (cells_in given.now)
    taken_bytes = rw (f, t ∙ r.1) (table_is_taken file.now b (length table.now) w e)

    pub demand_3_bytes : (κs : _) (n : ℕ) → n < slots w.pool → (z : LuoListAnswer) (o : _) → luo_dependants_reads.Learnt κs (again, (given, (n, (list, tt)))) z o → Demand3 w.pool n (length list.now / 4) (λ x. z ≡ list_numbers x) (cells_in o.1.1.1.0.now)
    demand_3_bytes κs n h z o l =
        let b' : Bytes again.now = rw f b in
        of_accepted again.now (cells_in given.now) w taken_bytes n (length list.now / 4) (λ x. z ≡ list_numbers x) l.0
        (cells_in o.1.1.1.0.now) (ap cells_in l.1 ∙ list_cells again.now b' (cells_in given.now) n (length list.now)) (λ place q. told_13 _ place (sym q ∙ l.0)) h
