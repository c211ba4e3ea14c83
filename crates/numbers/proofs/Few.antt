-- Numbers of slots fit: their lowest 32 bits are all of them. Assumes nothing.
use mathlib.Core.Path.{◌≡◌, refl}
use Prim.Native.Nat.{ℕ, ◌%◌, ◌≤◌}
use native.Mathlib.Omega.{arith}
use Rattle.reads.specs.Answer.{Answer, accept, refuse}
use Rattle.pool.specs.declared.Head.{Head}
use Rattle.numbers.specs.Numbers.{pool_numbers, pool_words, slots_in, list_numbers, list_words, count_in}

all_of_it : (n : ℕ) → n ≤ 65536 → n % 4294967296 ≡ n
all_of_it n h = omega arith

pub pool_whole : (x : Answer Head) → slots_in x ≤ 65536 → pool_words x ≡ pool_numbers x
pool_whole (accept h) l = rw (all_of_it h.slots l) refl
pool_whole (refuse nr place) l = refl

pub list_whole : (x : Answer ℕ) → count_in x ≤ 65536 → list_words x ≡ list_numbers x
list_whole (accept n) l = rw (all_of_it n l) refl
list_whole (refuse nr place) l = refl
