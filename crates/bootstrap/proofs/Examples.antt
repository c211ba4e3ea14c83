-- Bodies and indices of BootstrapMethods, a row each. Assumes nothing.
use mathlib.Core.Path.{◌≡◌, refl}
use mathlib.Core.List.{List, [], ◌∷◌, ◌++◌, map}
use Prim.Native.Nat.{ℕ, ◌+◌}
use lib.ListN.{length, take}
use Rattle.reads.specs.Answer.{Check, accept, refuse, each}
use Rattle.text.specs.Text.{same, bootstrap_methods, is_bootstrap_methods}
use Rattle.pool.specs.Kinds.{has}
use Rattle.pool.specs.Pool.{Pool}
use Rattle.slot.specs.Slots.{tag_of, field, bytes_of, of_kind}
use Rattle.bootstrap.specs.Bootstrap.{is_bootstrap, body_u2, index_at, steps, method_at, bootstrap_body}
use Rattle.bootstrap.specs.Indices.{bootstraps, below_each, dynamic, bootstrap_index, bootstrap_indices}

-- the number and the place of a refusal; 0 and 0 for what is fine
abbrev said : Check → ℕ × ℕ
said (accept _) = (0, 0)
said (refuse nr place) = (nr, place)

-- ---- bodies, from byte 4 on, of an attribute whose first byte is 100. Slot 1 is a MethodHandle, 2 an Integer, 3 a Utf8; two more bytes follow the body

abbrev body : List ℕ → ℕ × ℕ
body b = said (bootstrap_body (record { file = 0 ∷ 15 ∷ 3 ∷ 1 ∷ [] ++ b ++ 0 ∷ 2 ∷ []; major = 52; cells = 0 ∷ 1 ∷ 2 ∷ 3 ∷ [] }) 100 4 (4 + length b))

abbrev bodies : List (List ℕ × ℕ × ℕ)
bodies =
    ([], 18, 100)
    ∷ (0 ∷ [], 18, 100)
    ∷ (0 ∷ 0 ∷ [], 0, 0)
    ∷ (0 ∷ 0 ∷ 0 ∷ [], 18, 100)
    ∷ (0 ∷ 1 ∷ [], 18, 100)
    ∷ (0 ∷ 1 ∷ 0 ∷ 1 ∷ 0 ∷ 0 ∷ [], 0, 0)
    ∷ (0 ∷ 1 ∷ 0 ∷ 2 ∷ 0 ∷ 0 ∷ [], 8, 6)
    ∷ (0 ∷ 1 ∷ 0 ∷ 0 ∷ 0 ∷ 0 ∷ [], 8, 6)
    ∷ (0 ∷ 1 ∷ 0 ∷ 4 ∷ [], 7, 6)
    ∷ (0 ∷ 1 ∷ 0 ∷ 1 ∷ 0 ∷ [], 18, 100)
    ∷ (0 ∷ 1 ∷ 0 ∷ 1 ∷ 0 ∷ 1 ∷ [], 18, 100)
    ∷ (0 ∷ 1 ∷ 0 ∷ 1 ∷ 0 ∷ 1 ∷ 0 ∷ 2 ∷ [], 0, 0)
    ∷ (0 ∷ 1 ∷ 0 ∷ 1 ∷ 0 ∷ 1 ∷ 0 ∷ 3 ∷ [], 8, 10)
    ∷ (0 ∷ 1 ∷ 0 ∷ 1 ∷ 0 ∷ 1 ∷ 0 ∷ 4 ∷ [], 7, 10)
    ∷ (0 ∷ 2 ∷ 0 ∷ 1 ∷ 0 ∷ 0 ∷ [], 18, 100)
    ∷ (0 ∷ 2 ∷ 0 ∷ 1 ∷ 0 ∷ 0 ∷ 0 ∷ 1 ∷ 0 ∷ 1 ∷ 0 ∷ 1 ∷ [], 0, 0)
    ∷ (0 ∷ 1 ∷ 0 ∷ 1 ∷ 0 ∷ 0 ∷ 0 ∷ 0 ∷ [], 18, 100)
    ∷ []

body_examples : map (λ r. body r.0) bodies ≡ map (λ r. (r.1, r.2)) bodies
unfolding bytes_of tag_of of_kind has body_u2 index_at steps method_at bootstrap_body
body_examples = refl

-- ---- indices. Slot 1 is the name BootstrapMethods, 2 another name; slot 3 is a Dynamic with index 1, 4 an InvokeDynamic with index 0. At byte 1 stands a body with one method, at byte 3 one with two

abbrev pool : List ℕ → Pool
pool cells = record { file = 0 ∷ 0 ∷ 1 ∷ 0 ∷ 2 ∷ 17 ∷ 0 ∷ 1 ∷ 18 ∷ 0 ∷ 0 ∷ 1 ∷ 0 ∷ 1 ∷ 65 ∷ 1 ∷ 0 ∷ 16 ∷ [] ++ bootstrap_methods; major = 55; cells = cells }

abbrev indices : ℕ × List ℕ × List ℕ → ℕ × ℕ
indices (n, titles, starts) = said (bootstrap_indices (pool (take n (0 ∷ 15 ∷ 11 ∷ 5 ∷ 8 ∷ []))) titles starts)

abbrev attributes : List ((ℕ × List ℕ × List ℕ) × ℕ × ℕ)
attributes =
    ((5, [], []), 16, 3)
    ∷ ((5, 2 ∷ [], 3 ∷ []), 16, 3)
    ∷ ((5, 1 ∷ [], 3 ∷ []), 0, 0)
    ∷ ((5, 2 ∷ 1 ∷ 2 ∷ [], 1 ∷ 3 ∷ 1 ∷ []), 0, 0)
    ∷ ((5, 1 ∷ [], 1 ∷ []), 17, 3)
    ∷ ((5, 1 ∷ 1 ∷ [], 3 ∷ 3 ∷ []), 16, 3)
    ∷ ((5, 1 ∷ 1 ∷ [], 3 ∷ 1 ∷ []), 17, 3)
    ∷ ((5, 1 ∷ 1 ∷ [], 1 ∷ 3 ∷ []), 17, 3)
    ∷ ((3, 1 ∷ 1 ∷ [], 1 ∷ 3 ∷ []), 0, 0)
    ∷ ((3, [], []), 0, 0)
    ∷ []

index_examples : map (λ r. indices r.0) attributes ≡ map (λ r. (r.1, r.2)) attributes
unfolding same is_bootstrap_methods bytes_of tag_of field is_bootstrap bootstraps below_each dynamic bootstrap_index bootstrap_indices each
index_examples = refl
