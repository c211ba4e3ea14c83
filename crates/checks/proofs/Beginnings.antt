-- A pool call looks at nothing after the pool: two files that begin alike give the same pool, or the same refusal. Assumes nothing.
use mathlib.Core.Path.{◌≡◌, refl, ap, sym, ◌∙◌}
use mathlib.Core.List.{List}
use Prim.Native.Nat.{ℕ, ◌≤◌, ◌<◌}
use native.Mathlib.Omega.{arith}
use lib.ListN.{length, get_or}
use Rattle.reads.specs.Answer.{Answer, Check, accept, fine, refuse, ◌>>=◌}
use Rattle.reads.proofs.Answers.{never, same, first}
use Rattle.pool.specs.Pool.{Pool, Whole, read_pool}
use Rattle.pool.specs.Beginnings.{Begins}
use Rattle.pool.proofs.Entered.{Entered, cells_entered}
use Rattle.pool.proofs.Slots.{its_file}
use Rattle.pool.proofs.Settling.{both, read_settled, read_inside, read_there}
use Rattle.checks.specs.Checks.{checked, pool}
use Rattle.checks.specs.Beginnings.{of_file, NothingAfter, RefusedSo, while_read, by_checks}
use Rattle.checks.proofs.Room.{was_read}
use Rattle.checks.proofs.Twins.{twins, checked_same}

abbrev the_pool : List ℕ → ℕ → List ℕ → Pool
the_pool s major cells = record { file = s; major = major; cells = cells }

-- ---- a pool call, once its entries are read

read_first : (t : List ℕ) (room : ℕ) (w : Whole) (x : Check) → accept w ≡ read_pool t room → checked w.pool ≡ x → pool t room ≡ (x >>= λ _. accept w)
unfolding pool
read_first t room w x e q = rw (← e, q) refl

not_read : (t : List ℕ) (room nr place : ℕ) → refuse nr place ≡ read_pool t room → refuse nr place ≡ pool t room
unfolding pool
not_read t room nr place e = rw (← e) refl

module _ (s : List ℕ) (room : ℕ) (w : Whole) (e : accept w ≡ read_pool s room) (t : List ℕ) (b : Begins w.next s t) where
  pub same_checks : checked (of_file t w).pool ≡ checked w.pool
  same_checks =
      both s t w.next (read_inside s room w e) b (λ x y. ((n : ℕ) → 0 < get_or w.pool.cells n 0 → Entered x w.pool.major w.next (get_or w.pool.cells n 0)) → checked (the_pool y w.pool.major w.pool.cells) ≡ checked (the_pool x w.pool.major w.pool.cells))
      (λ h x y z ent. checked_same _ _ (twins h x y w.pool.cells w.pool.major w.next (omega arith) ent)) (cells_entered s room w e)
      ∙ ap (λ (z : List ℕ). checked (the_pool z w.pool.major w.pool.cells)) (sym (its_file s room w e))

  -- what the checks answer of it
  same_call : (x : Check) → checked w.pool ≡ x → length t ≤ 16777216 → pool t room ≡ (x >>= λ _. accept (of_file t w))
  same_call x q l = read_first t room (of_file t w) x (read_there s room w e t b l) (same_checks ∙ q)

-- ---- accepted

checks_held : (s : List ℕ) (room : ℕ) (w : Whole) → accept w ≡ pool s room → fine ≡ checked w.pool
unfolding pool
checks_held s room w e =
    let a = first (read_pool s room) _ w e in
    let c = first (checked a.0.pool) _ w a.2 in
    c.1 ∙ ap (λ (z : Whole). checked z.pool) (sym (same c.2))

pub nothing_after : (s : List ℕ) (room : ℕ) (w : Whole) → accept w ≡ pool s room → NothingAfter s room w
nothing_after s room w e =
    let r = was_read s room w e in
    record { inside = read_inside s room w r; gives = λ t b l. sym (same_call s room w r t b fine (sym (checks_held s room w e)) l) }

-- ---- refused

pub refused_so : (s : List ℕ) (room nr place : ℕ) → refuse nr place ≡ pool s room → RefusedSo s room nr place
refused_so s room nr place e = go (read_pool s room) refl
  where
    reading : refuse nr place ≡ read_pool s room → RefusedSo s room nr place
    reading q =
        let k = read_settled s room nr place q in
        while_read (record { upto = k.upto; inside = k.inside; of_1 = k.of_1; of_2 = k.of_2; of_3 = k.of_3; of_4 = k.of_4; stays = λ t b c. not_read t room nr place (k.stays t b c) })

    checking : (w : Whole) → accept w ≡ read_pool s room → (x : Check) → checked w.pool ≡ x → RefusedSo s room nr place
    checking w r (accept u) q = absurd (never (sym (read_first s room w (accept u) r q) ∙ sym e))
    checking w r (refuse n p) q =
        let z = e ∙ read_first s room w (refuse n p) r q in
        let g : nr ≡ n = cc in
        let h : place ≡ p = cc in
        by_checks w r (λ t b l. rw (g, h) (sym (same_call s room w r t b (refuse n p) q l)))

    go : (y : Answer Whole) → read_pool s room ≡ y → RefusedSo s room nr place
    go (accept w) q = checking w (sym q) (checked w.pool) refl
    go (refuse n p) q =
        let z = e ∙ sym (not_read s room n p (sym q)) in
        let g : nr ≡ n = cc in
        let h : place ≡ p = cc in
        reading (rw (g, h) (sym q))
