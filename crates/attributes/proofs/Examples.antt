-- Attributes one by one, a row each. Assumes nothing.
use mathlib.Core.Path.{◌≡◌, refl}
use mathlib.Core.Bool.{Bool, true, false}
use mathlib.Core.List.{List, [], ◌∷◌, ◌++◌, map}
use Prim.Native.Nat.{ℕ}
use Rattle.reads.specs.Answer.{Answer, accept, refuse}
use Rattle.reads.specs.Bytes.{within, u2, u4, skipped}
use Rattle.text.specs.Text.{same, bootstrap_methods, is_bootstrap_methods, begins, form_length, covered, text_form, is_text}
use Rattle.pool.specs.Kinds.{has}
use Rattle.slot.specs.Slots.{tag_of, field, bytes_of, of_kind, text_at, utf8_at}
use Rattle.bootstrap.specs.Bootstrap.{is_bootstrap, body_u2, steps, bootstrap_body, own_rule}
use Rattle.attributes.specs.declared.Attribute.{Attribute}
use Rattle.attributes.specs.Attributes.{attribute_at, ruled, record_at}

-- the number and the place of a refusal; the first byte and the length of an accepted body
abbrev said : Answer Attribute → ℕ × ℕ
said (accept a) = (a.start, a.size)
said (refuse nr place) = (nr, place)

-- the attribute at byte 28 that becomes record 0, one of the class's own or not, with that room. Slot 1 is BootstrapMethods, 2 is A, 3 is raw
abbrev one : Bool × ℕ × List ℕ → ℕ × ℕ
one (own, room, b) = said (record_at own (record { file = 0 ∷ 1 ∷ 0 ∷ 16 ∷ [] ++ bootstrap_methods ++ 1 ∷ 0 ∷ 1 ∷ 65 ∷ 1 ∷ 0 ∷ 1 ∷ 0 ∷ [] ++ b; major = 52; cells = 0 ∷ 1 ∷ 20 ∷ 24 ∷ [] }) room 0 28)

abbrev rows : List ((Bool × ℕ × List ℕ) × ℕ × ℕ)
rows =
    ((false, 1, []), 2, 28)
    ∷ ((false, 1, 0 ∷ 2 ∷ 0 ∷ 0 ∷ 0 ∷ []), 2, 30)
    ∷ ((false, 1, 0 ∷ 2 ∷ 0 ∷ 0 ∷ 0 ∷ 1 ∷ []), 2, 34)
    ∷ ((false, 1, 0 ∷ 4 ∷ []), 7, 28)
    ∷ ((false, 1, 0 ∷ 0 ∷ []), 8, 28)
    ∷ ((false, 1, 0 ∷ 3 ∷ []), 9, 28)
    ∷ ((false, 1, 0 ∷ 2 ∷ 0 ∷ 0 ∷ 0 ∷ 1 ∷ 7 ∷ []), 34, 1)
    ∷ ((false, 0, 0 ∷ 2 ∷ 0 ∷ 0 ∷ 0 ∷ 1 ∷ 7 ∷ []), 13, 28)
    ∷ ((false, 1, 0 ∷ 1 ∷ 0 ∷ 0 ∷ 0 ∷ 1 ∷ 7 ∷ []), 34, 1)
    ∷ ((true, 1, 0 ∷ 1 ∷ 0 ∷ 0 ∷ 0 ∷ 1 ∷ 7 ∷ []), 18, 28)
    ∷ ((true, 0, 0 ∷ 1 ∷ 0 ∷ 0 ∷ 0 ∷ 1 ∷ 7 ∷ []), 18, 28)
    ∷ ((true, 1, 0 ∷ 1 ∷ 0 ∷ 0 ∷ 0 ∷ 2 ∷ 0 ∷ 0 ∷ []), 34, 2)
    ∷ ((true, 1, 0 ∷ 2 ∷ 0 ∷ 0 ∷ 0 ∷ 1 ∷ 7 ∷ []), 34, 1)
    ∷ []

examples : map (λ r. one r.0) rows ≡ map (λ r. (r.1, r.2)) rows
unfolding within u2 u4 skipped same is_bootstrap_methods begins form_length covered text_form is_text has tag_of field bytes_of of_kind text_at is_bootstrap body_u2 steps bootstrap_body own_rule utf8_at attribute_at ruled record_at
examples = refl
