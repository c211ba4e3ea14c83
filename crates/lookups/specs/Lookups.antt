-- What is looked up in the pool of a handed table. Document 01, "Members and lookups". Assumes nothing.
use Rattle.std.specs.Prelude.{ℕ, ◌+◌, [], ◌∷◌}
use Rattle.reads.specs.Answer.{Answer, accept, ◌>>=◌}
use Rattle.reads.specs.Bytes.{num1}
use Rattle.pool.specs.Kinds as kind
use Rattle.pool.specs.Pool.{Pool}
use Rattle.slot.specs.Slots.{cell, tag_of, field, text_at}
use Rattle.handed.specs.Handed.{asked}
use Rattle.lookups.specs.declared.Named.{Named}
use Rattle.lookups.specs.declared.Member.{Member}
use Rattle.lookups.specs.declared.Held.{Held}
use Rattle.lookups.specs.declared.Indexed.{Indexed}

-- a name, or a method type: its Utf8 slot
unfoldable pub name_slot : ℕ → ℕ → Pool → Answer ℕ
name_slot allowed n p = do
  _ ← asked p allowed n
  accept (field p n 1)

abbrev pub class_at : ℕ → Pool → Answer ℕ
class_at = name_slot (kind.set_of (kind.class ∷ []))

abbrev pub module_at : ℕ → Pool → Answer ℕ
module_at = name_slot (kind.set_of (kind.module ∷ []))

abbrev pub package_at : ℕ → Pool → Answer ℕ
package_at = name_slot (kind.set_of (kind.package ∷ []))

abbrev pub method_type_at : ℕ → Pool → Answer ℕ
method_type_at = name_slot (kind.set_of (kind.method_type ∷ []))

-- a name and type: two Utf8 slots. No entry need refer to it, so its descriptor may be raw, which gives 9
unfoldable pub named : Pool → ℕ → Named
named p m = record { name = field p m 1; descriptor = field p m 3 }

unfoldable pub named_at : ℕ → Pool → Answer Named
named_at n p = do
  _ ← asked p (kind.set_of (kind.name_and_type ∷ [])) n
  _ ← text_at p n (field p n 3)
  accept (named p n)

-- a member reference: which of the three (9, 10, 11), the class's name, the member's name and descriptor
unfoldable pub member_of : Pool → ℕ → Member
member_of p m = record {
  tag = tag_of p m;
  class = field p (field p m 1) 1;
  name = field p (field p m 3) 1;
  descriptor = field p (field p m 3) 3;
}

unfoldable pub member_at : ℕ → Pool → Answer Member
member_at n p = do
  _ ← asked p (kind.set_of (kind.field_ref ∷ kind.method_ref ∷ kind.interface_method_ref ∷ [])) n
  accept (member_of p n)

-- a handle: its kind and its member
unfoldable pub handle_at : ℕ → Pool → Answer Held
handle_at n p = do
  _ ← asked p (kind.set_of (kind.method_handle ∷ [])) n
  accept (record { kind = num1 p.file (cell p n + 1); member = member_of p (field p n 2) })

-- a Dynamic or an InvokeDynamic: its index, its name and type
unfoldable pub indexed_at : ℕ → ℕ → Pool → Answer Indexed
indexed_at allowed n p = do
  _ ← asked p allowed n
  accept (record { index = field p n 1; named = named p (field p n 3) })

abbrev pub dynamic_at : ℕ → Pool → Answer Indexed
dynamic_at = indexed_at (kind.set_of (kind.dynamic ∷ []))

abbrev pub invoke_dynamic_at : ℕ → Pool → Answer Indexed
invoke_dynamic_at = indexed_at (kind.set_of (kind.invoke_dynamic ∷ []))
