-- A name in plain ASCII is text of its grammar. Assumes nothing.
use Prim.Native.Nat.{ℕ}
use mathlib.Core.Path.{◌≡◌, sym}
use mathlib.Core.List.{List}
use mathlib.Core.Bool.{Bool, true, ◌&&◌, true≢false}
use Rattle.text.specs.Text.{is_text, unqualified, binary}
use Rattle.text.proofs.Laws.{and_both}
use Rattle.ascii.specs.Ascii.{ascii}
use Rattle.ascii.proofs.Texts.{ascii_text}
use Rattle.slot.specs.declared.Grammar.{Grammar}
use Rattle.slot.specs.declared.Grammar.TheVariants.{Unqualified, Binary, ModuleName, FieldDescriptor, MethodDescriptor}
use Rattle.slot.specs.Grammars.{good, simple}

pub plainly : (t : List ℕ) (b : Bool) → ascii t && b ≡ true → (is_text t ≡ true) × (b ≡ true)
plainly t b h = let p = and_both (ascii t) b h in (ascii_text t p.0, p.1)

pub simply : (grammar : Grammar) (t : List ℕ) → simple grammar t ≡ true → (is_text t ≡ true) × (good grammar t ≡ true)
simply Unqualified t h = plainly t (unqualified t) h
simply Binary t h = plainly t (binary t) h
simply ModuleName t h = absurd (true≢false (sym h))
simply FieldDescriptor t h = absurd (true≢false (sym h))
simply MethodDescriptor t h = absurd (true≢false (sym h))
