-- A statement: how the structs of the calls for C tell an answer. Assumes nothing.
use Rattle.std.specs.Prelude.{ℕ, ◌≡◌, refl, Bool, true, false}
use Rattle.reads.specs.Answer.{accept}
use Rattle.pool.specs.declared.Head.{Head}
use Rattle.lookups.specs.declared.Named.{Named}
use Rattle.lookups.specs.declared.Member.{Member}
use Rattle.lookups.specs.declared.Held.{Held}
use Rattle.lookups.specs.declared.Indexed.{Indexed}
use Rattle.literal.specs.Values.{Literal}
use Rattle.values.specs.declared.Span.{Span}
use Rattle.class.specs.declared.Class.{Class}
use Rattle.numbers.specs.declared.LuoPoolAnswer.{LuoPoolAnswer}
use Rattle.numbers.specs.declared.LuoClassAnswer.{LuoClassAnswer}
use Rattle.numbers.specs.declared.LuoListAnswer.{LuoListAnswer}
use Rattle.numbers.specs.declared.LuoSlotAnswer.{LuoSlotAnswer}
use Rattle.numbers.specs.declared.LuoNamedAnswer.{LuoNamedAnswer}
use Rattle.numbers.specs.declared.LuoMemberAnswer.{LuoMemberAnswer}
use Rattle.numbers.specs.declared.LuoHandleAnswer.{LuoHandleAnswer}
use Rattle.numbers.specs.declared.LuoDynamicAnswer.{LuoDynamicAnswer}
use Rattle.numbers.specs.declared.LuoLiteralAnswer.{LuoLiteralAnswer}
use Rattle.numbers.specs.declared.LuoTextAnswer.{LuoTextAnswer}
use Rattle.numbers.specs.declared.LuoPartAnswer.{LuoPartAnswer}
use Rattle.numbers.specs.Numbers.{pool_numbers, class_numbers, list_numbers, slot_numbers, named_numbers, member_numbers, handle_numbers, dynamic_numbers, literal_numbers, text_numbers, part_numbers}
use Rattle.demands.specs.Calls.{Telling}

pub text_some : (b : Bool) → (text_numbers (accept b)).refusal ≡ 0
text_some true = refl
text_some false = refl

abbrev pub in_pool : Telling LuoPoolAnswer Head
in_pool = record { tell = pool_numbers; refusal = λ r. r.refusal; place = λ r. r.place; some = λ _. refl; none = λ _ _. (refl, refl) }

abbrev pub in_class : Telling LuoClassAnswer Class
in_class = record { tell = class_numbers; refusal = λ r. r.refusal; place = λ r. r.place; some = λ _. refl; none = λ _ _. (refl, refl) }

abbrev pub in_list : Telling LuoListAnswer ℕ
in_list = record { tell = list_numbers; refusal = λ r. r.refusal; place = λ r. r.place; some = λ _. refl; none = λ _ _. (refl, refl) }

abbrev pub in_slot : Telling LuoSlotAnswer ℕ
in_slot = record { tell = slot_numbers; refusal = λ r. r.refusal; place = λ r. r.place; some = λ _. refl; none = λ _ _. (refl, refl) }

abbrev pub in_named : Telling LuoNamedAnswer Named
in_named = record { tell = named_numbers; refusal = λ r. r.refusal; place = λ r. r.place; some = λ _. refl; none = λ _ _. (refl, refl) }

abbrev pub in_member : Telling LuoMemberAnswer Member
in_member = record { tell = member_numbers; refusal = λ r. r.refusal; place = λ r. r.place; some = λ _. refl; none = λ _ _. (refl, refl) }

abbrev pub in_handle : Telling LuoHandleAnswer Held
in_handle = record { tell = handle_numbers; refusal = λ r. r.refusal; place = λ r. r.place; some = λ _. refl; none = λ _ _. (refl, refl) }

abbrev pub in_dynamic : Telling LuoDynamicAnswer Indexed
in_dynamic = record { tell = dynamic_numbers; refusal = λ r. r.refusal; place = λ r. r.place; some = λ _. refl; none = λ _ _. (refl, refl) }

abbrev pub in_literal : Telling LuoLiteralAnswer Literal
in_literal = record { tell = literal_numbers; refusal = λ r. r.refusal; place = λ r. r.place; some = λ _. refl; none = λ _ _. (refl, refl) }

abbrev pub in_text : Telling LuoTextAnswer Bool
in_text = record { tell = text_numbers; refusal = λ r. r.refusal; place = λ r. r.place; some = text_some; none = λ _ _. (refl, refl) }

abbrev pub in_part : Telling LuoPartAnswer Span
in_part = record { tell = part_numbers; refusal = λ r. r.refusal; place = λ r. r.place; some = λ _. refl; none = λ _ _. (refl, refl) }
