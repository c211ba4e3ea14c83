-- Numbers of slots that fit: a pool has no more slots than its table has cells, and a list no more than 65,536. Assumes nothing.
use mathlib.Core.Path.{◌≡◌, refl, ap, ◌∙◌}
use mathlib.Core.List.{List}
use Prim.Native.Nat.{ℕ, ◌≤◌}
use native.Mathlib.Omega.{arith}
use lib.ListN.{length}
use Rattle.reads.specs.Answer.{Answer, accept, refuse, mapped}
use Rattle.reads.proofs.Leaves.{Bytes}
use Rattle.pool.specs.declared.Head.{Head}
use Rattle.pool.specs.Pool.{Pool, Whole, read_pool, slots}
use Rattle.pool.proofs.Room.{few_read}
use Rattle.pool.specs.Readings.{head_of}
use Rattle.checks.specs.Checks.{pool}
use Rattle.checks.proofs.Room.{few_slots as pool_few}
use Rattle.dependants.specs.Dependants.{dependants}
use Rattle.byte_dependants.proofs.Rooms.{few_listed as listed_few}
use Rattle.listing.specs.Listing.{listed}
use Rattle.listing.proofs.Edge.{few}
use Rattle.numbers.specs.declared.LuoListAnswer.{LuoListAnswer}
use Rattle.numbers.specs.declared.LuoPoolAnswer.{LuoPoolAnswer}
use Rattle.numbers.specs.Numbers.{pool_numbers, pool_words, slots_in, list_numbers, list_words, count_in}
use Rattle.numbers.proofs.Few.{pool_whole, list_whole}

few_entries : (s : List ℕ) → Bytes s → (room : ℕ) (x : Answer Head) → x ≡ mapped head_of (read_pool s room) → slots_in x ≤ 65536
few_entries s b room x q = rw q (by_answer (read_pool s room) refl)
  where
    by_answer : (y : Answer Whole) → y ≡ read_pool s room → slots_in (mapped head_of y) ≤ 65536
    by_answer (accept w) e = few_read s b room w e
    by_answer (refuse nr place) e = omega arith

few_pool : (s : List ℕ) → Bytes s → (room : ℕ) (x : Answer Head) → x ≡ mapped head_of (pool s room) → slots_in x ≤ 65536
few_pool s b room x q = rw q (by_answer (pool s room) refl)
  where
    by_answer : (y : Answer Whole) → y ≡ pool s room → slots_in (mapped head_of y) ≤ 65536
    by_answer (accept w) e = pool_few s room w e b
    by_answer (refuse nr place) e = omega arith

few_listed : (s table : List ℕ) (n room : ℕ) (x : Answer ℕ) → x ≡ mapped length (dependants s table n room) → count_in x ≤ 65536
few_listed s table n room x q = rw q (by_answer (dependants s table n room) refl)
  where
    by_answer : (y : Answer (List ℕ)) → y ≡ dependants s table n room → count_in (mapped length y) ≤ 65536
    by_answer (accept xs) e = listed_few s table n room xs e
    by_answer (refuse nr place) e = omega arith

few_told : (s table : List ℕ) (room : ℕ) (x : Answer ℕ) → x ≡ mapped slots (listed s table room) → count_in x ≤ 65536
few_told s table room x q = rw q (by_answer (listed s table room) refl)
  where
    by_answer : (y : Answer Pool) → y ≡ listed s table room → count_in (mapped slots y) ≤ 65536
    by_answer (accept p) e = few s table room p e
    by_answer (refuse nr place) e = omega arith

-- ---- from what a call answers to its numbers

pub pool_told : (s : List ℕ) → Bytes s → (room : ℕ) (x : Answer Head) (o : LuoPoolAnswer) → x ≡ mapped head_of (pool s room) → o ≡ pool_words x → o ≡ pool_numbers (mapped head_of (pool s room))
pool_told s b room x o q e = e ∙ pool_whole x (few_pool s b room x q) ∙ ap pool_numbers q

pub entries_told : (s : List ℕ) → Bytes s → (room : ℕ) (x : Answer Head) (o : LuoPoolAnswer) → x ≡ mapped head_of (read_pool s room) → o ≡ pool_words x → o ≡ pool_numbers (mapped head_of (read_pool s room))
entries_told s b room x o q e = e ∙ pool_whole x (few_entries s b room x q) ∙ ap pool_numbers q

pub listed_told : (s table : List ℕ) (n room : ℕ) (x : Answer ℕ) (o : LuoListAnswer) → x ≡ mapped length (dependants s table n room) → o ≡ list_words x → o ≡ list_numbers (mapped length (dependants s table n room))
listed_told s table n room x o q e = e ∙ list_whole x (few_listed s table n room x q) ∙ ap list_numbers q

pub slots_told : (s table : List ℕ) (room : ℕ) (x : Answer ℕ) (o : LuoListAnswer) → x ≡ mapped slots (listed s table room) → o ≡ list_words x → o ≡ list_numbers (mapped slots (listed s table room))
slots_told s table room x o q e = e ∙ list_whole x (few_told s table room x q) ∙ ap list_numbers q
