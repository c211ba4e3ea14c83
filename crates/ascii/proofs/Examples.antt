-- Examples of plain ASCII: each row's bytes and what the definition says of them, by one computed test. Assumes nothing.
use Prim.Native.Nat.{ℕ}
use mathlib.Core.Path.{◌≡◌, refl}
use mathlib.Core.List.{List, [], ◌∷◌}
use mathlib.Core.Bool.{Bool, true, false}
use Rattle.text.proofs.Examples.{agrees}
use Rattle.ascii.specs.Ascii.{ascii}

abbrev plain : List (List ℕ × Bool)
plain =
    ([], true)  -- empty
    ∷ (0x01 ∷ 0x7F ∷ [], true)  -- the lowest and the highest
    ∷ (0x61 ∷ 0x2F ∷ 0x62 ∷ [], true)  -- a/b
    ∷ (0x61 ∷ 0x00 ∷ [], false)  -- 00
    ∷ (0x80 ∷ [], false)  -- 80
    ∷ (0x61 ∷ 0xC3 ∷ 0xA9 ∷ [], false)  -- U+00E9
    ∷ []

plain_examples : agrees ascii plain ≡ true
unfolding ascii
plain_examples = refl
