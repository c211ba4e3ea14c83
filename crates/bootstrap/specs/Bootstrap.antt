-- The attribute BootstrapMethods: its name, and what its body holds. Document 01, "Members and lookups". Assumes nothing.
use Rattle.std.specs.Prelude.{ℕ, zero, suc, ◌+◌, [], ◌∷◌, Bool, cond, eqb}
use Rattle.reads.specs.Answer.{Answer, Check, fine, accept, ◌>>=◌, require}
use Rattle.reads.specs.Bytes.{num2, inside}
use Rattle.text.specs.Text.{is_bootstrap_methods}
use Rattle.pool.specs.Kinds as kind
use Rattle.pool.specs.Pool.{Pool}
use Rattle.slot.specs.Slots.{bytes_of, in_range, of_kind}

-- an attribute whose name is in slot m
unfoldable pub is_bootstrap : Pool → ℕ → Bool
is_bootstrap p m = is_bootstrap_methods (bytes_of p m)

-- what a method's handle is, and what its arguments may be
abbrev pub handles : ℕ
handles = kind.set_of (kind.method_handle ∷ [])

abbrev pub loadable : ℕ
loadable = kind.set_of (kind.integer ∷ kind.float ∷ kind.long ∷ kind.double ∷ kind.string ∷ kind.class ∷ kind.method_handle ∷ kind.method_type ∷ [])

-- ---- the body: `at` is the attribute's first byte, `end` the byte after its body

unfoldable pub body_u2 : Pool → ℕ → ℕ → ℕ → Answer ℕ
body_u2 p at end i = do
  _ ← inside end 18 at i 2
  accept (num2 p.file i)

-- the index at byte i is that of an allowed kind: the byte after it
unfoldable pub index_at : ℕ → Pool → ℕ → ℕ → ℕ → Answer ℕ
index_at allowed p at end i = do
  m ← body_u2 p at end i
  _ ← in_range p i m
  _ ← of_kind p i allowed m
  accept (i + 2)

-- k steps from byte i on, each from the byte that the one before it reached
unfoldable pub steps : (ℕ → Answer ℕ) → ℕ → ℕ → Answer ℕ
steps step zero i = accept i
steps step (suc k) i = do
  next ← step i
  steps step k next

-- a method: its handle, how many arguments, and these
unfoldable pub method_at : Pool → ℕ → ℕ → ℕ → Answer ℕ
method_at p at end i = do
  j ← index_at handles p at end i
  k ← body_u2 p at end j
  steps (index_at loadable p at end) k (j + 2)

unfoldable pub bootstrap_body : Pool → ℕ → ℕ → ℕ → Check
bootstrap_body p at start end = do
  n ← body_u2 p at end start
  next ← steps (method_at p at end) n (start + 2)
  require (eqb next end) 18 at

-- an attribute of the class itself, whose first byte is `at`, its name in slot `name`, its body from byte `start` up to byte `end`
abbrev pub own_body : Pool → ℕ → ℕ → ℕ → ℕ → Check
own_body p at name start end = cond (is_bootstrap p name) (bootstrap_body p at start end) fine

-- the same, its body `size` bytes from byte `start` on
unfoldable pub own_rule : Pool → ℕ → ℕ → ℕ → ℕ → Check
own_rule p at name start size = own_body p at name start (start + size)
