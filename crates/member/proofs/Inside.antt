-- What a member that was judged good says of the file. Assumes nothing.
use mathlib.Core.Path.{◌≡◌, refl}
use mathlib.Core.Bool.{not}
use mathlib.Core.List.{List}
use Prim.Native.Nat.{ℕ, ◌+◌, ◌≤◌, ◌<◌}
use native.Mathlib.Omega.{arith}
use lib.ListN.{length}
use lib.Dec.{ltb}
use borrow.Author.Tests.{ltb-true}
use Rattle.reads.specs.Answer.{Answer, accept, refuse, ◌>>=◌, mapped}
use Rattle.reads.specs.Bytes.{u2}
use Rattle.reads.proofs.Answers.{first, held}
use Rattle.pool.specs.Pool.{Pool}
use Rattle.reads.proofs.Leaves.{u2_in}
use Rattle.member.specs.declared.Sort.{Sort}
use Rattle.member.specs.declared.Member.{Member}
use Rattle.member.specs.Member.{twice, parts_at, member_at}

-- a last line that only wraps what was read
pub as_last : {A B : Type 0} (f : A → B) (x : Answer A) → mapped f x ≡ (x >>= λ a. accept (f a))
as_last f (accept a) = refl
as_last f (refuse nr place) = refl

-- it has its record, and its four u2 stand in the file
pub member_in : (k : Sort) (p : Pool) (room n at : ℕ) (names types : List ℕ) (m : Member) → accept m ≡ member_at k p room n at names types → (n < room) × (at + 8 ≤ length p.file)
unfolding member_at
member_in k p room n at names types m e =
    let t1 = first (u2 p.file at) _ m e in
    let t2 = first (u2 p.file (at + 2)) _ m t1.2 in
    let t3 = first (u2 p.file (at + 4)) _ m t2.2 in
    let t4 = first (parts_at k p at t2.0 t3.0) _ m t3.2 in
    let t5 = held (not (twice p t2.0 t3.0 names types)) 14 at _ m t4.2 in
    let t6 = held (ltb n room) 13 at _ m t5.1 in
    let t7 = first (u2 p.file (at + 6)) _ m t6.1 in
    let h = u2_in p.file (at + 6) t7.0 t7.1 in
    (ltb-true n room t6.0, omega arith)
