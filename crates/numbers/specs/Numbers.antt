-- The numbers that an exported call answers, of each case. Document 01, "Forms by place". Assumes nothing.
use Rattle.std.specs.Prelude.{ℕ, ◌-◌, ◌%◌, Bool, true, false}
use Rattle.reads.specs.Answer.{Answer, accept, refuse}
use Rattle.pool.specs.declared.Head.{Head}
use Rattle.lookups.specs.declared.Named.{Named}
use Rattle.lookups.specs.declared.Member.{Member}
use Rattle.lookups.specs.declared.Held.{Held}
use Rattle.lookups.specs.declared.Indexed.{Indexed}
use Rattle.literal.specs.Values.{Literal, bits_of}
use Rattle.values.specs.declared.Span.{Span}
use Rattle.questions.specs.declared.Reply.{Reply}
use Rattle.questions.specs.Replies.{tag_for}
use Rattle.class.specs.declared.Class.{Class}
use Rattle.numbers.specs.declared.LuoClassAnswer.{LuoClassAnswer}
use Rattle.numbers.specs.declared.LuoPoolAnswer.{LuoPoolAnswer}
use Rattle.numbers.specs.declared.LuoSlotAnswer.{LuoSlotAnswer}
use Rattle.numbers.specs.declared.LuoNamedAnswer.{LuoNamedAnswer}
use Rattle.numbers.specs.declared.LuoMemberAnswer.{LuoMemberAnswer}
use Rattle.numbers.specs.declared.LuoHandleAnswer.{LuoHandleAnswer}
use Rattle.numbers.specs.declared.LuoDynamicAnswer.{LuoDynamicAnswer}
use Rattle.numbers.specs.declared.LuoLiteralAnswer.{LuoLiteralAnswer}
use Rattle.numbers.specs.declared.LuoTextAnswer.{LuoTextAnswer}
use Rattle.numbers.specs.declared.LuoPartAnswer.{LuoPartAnswer}
use Rattle.numbers.specs.declared.LuoListAnswer.{LuoListAnswer}

-- ---- the pool

abbrev pub pool_numbers : Answer Head → LuoPoolAnswer
pool_numbers (accept h) = record { refusal = 0; place = 0; slots = h.slots; minor = h.minor; major = h.major }
pool_numbers (refuse nr place) = record { refusal = nr; place = place; slots = 0; minor = 0; major = 0 }

-- .. of numbers that are wider their lowest 32 bits
abbrev pub pool_words : Answer Head → LuoPoolAnswer
pool_words (accept h) = record { refusal = 0; place = 0; slots = h.slots % 4294967296; minor = h.minor; major = h.major }
pool_words (refuse nr place) = pool_numbers (refuse nr place)

-- how many slots an accepted pool has
abbrev pub slots_in : Answer Head → ℕ
slots_in (accept h) = h.slots
slots_in (refuse nr place) = 0

-- ---- lists: how many were listed

abbrev pub list_numbers : Answer ℕ → LuoListAnswer
list_numbers (accept n) = record { refusal = 0; place = 0; count = n }
list_numbers (refuse nr place) = record { refusal = nr; place = place; count = 0 }

abbrev pub list_words : Answer ℕ → LuoListAnswer
list_words (accept n) = record { refusal = 0; place = 0; count = n % 4294967296 }
list_words (refuse nr place) = list_numbers (refuse nr place)

abbrev pub count_in : Answer ℕ → ℕ
count_in (accept n) = n
count_in (refuse nr place) = 0

-- ---- the lookups: each answer, and how it is taken from a reply

abbrev pub slot_numbers : Answer ℕ → LuoSlotAnswer
slot_numbers (accept n) = record { refusal = 0; place = 0; slot = n }
slot_numbers (refuse nr place) = record { refusal = nr; place = place; slot = 0 }

abbrev pub slot_of : Reply → LuoSlotAnswer
slot_of r = record { refusal = r.refusal; place = r.place; slot = r.one }

abbrev pub named_numbers : Answer Named → LuoNamedAnswer
named_numbers (accept x) = record { refusal = 0; place = 0; name = x.name; descriptor = x.descriptor }
named_numbers (refuse nr place) = record { refusal = nr; place = place; name = 0; descriptor = 0 }

abbrev pub named_of : Reply → LuoNamedAnswer
named_of r = record { refusal = r.refusal; place = r.place; name = r.one; descriptor = r.two }

abbrev pub member_numbers : Answer Member → LuoMemberAnswer
member_numbers (accept x) = record { refusal = 0; place = 0; tag = x.tag; class_name = x.class; name = x.name; descriptor = x.descriptor }
member_numbers (refuse nr place) = record { refusal = nr; place = place; tag = 0; class_name = 0; name = 0; descriptor = 0 }

abbrev pub member_of : Reply → LuoMemberAnswer
member_of r = record { refusal = r.refusal; place = r.place; tag = r.one; class_name = r.two; name = r.three; descriptor = r.four }

abbrev pub handle_numbers : Answer Held → LuoHandleAnswer
handle_numbers (accept x) = record { refusal = 0; place = 0; kind = x.kind; tag = x.member.tag; class_name = x.member.class; name = x.member.name; descriptor = x.member.descriptor }
handle_numbers (refuse nr place) = record { refusal = nr; place = place; kind = 0; tag = 0; class_name = 0; name = 0; descriptor = 0 }

abbrev pub handle_of : Reply → LuoHandleAnswer
handle_of r = record { refusal = r.refusal; place = r.place; kind = r.one; tag = r.two; class_name = r.three; name = r.four; descriptor = r.five }

abbrev pub dynamic_numbers : Answer Indexed → LuoDynamicAnswer
dynamic_numbers (accept x) = record { refusal = 0; place = 0; index = x.index; name = x.named.name; descriptor = x.named.descriptor }
dynamic_numbers (refuse nr place) = record { refusal = nr; place = place; index = 0; name = 0; descriptor = 0 }

abbrev pub dynamic_of : Reply → LuoDynamicAnswer
dynamic_of r = record { refusal = r.refusal; place = r.place; index = r.one; name = r.two; descriptor = r.three }

abbrev pub literal_numbers : Answer Literal → LuoLiteralAnswer
literal_numbers (accept l) = record { refusal = 0; place = 0; tag = tag_for l; bits = bits_of l }
literal_numbers (refuse nr place) = record { refusal = nr; place = place; tag = 0; bits = 0 }

abbrev pub literal_of : Reply → LuoLiteralAnswer
literal_of r = record { refusal = r.refusal; place = r.place; tag = r.one; bits = r.bits }

abbrev pub text_numbers : Answer Bool → LuoTextAnswer
text_numbers (accept true) = record { refusal = 0; place = 0; text = 1 }
text_numbers (accept false) = record { refusal = 0; place = 0; text = 0 }
text_numbers (refuse nr place) = record { refusal = nr; place = place; text = 0 }

abbrev pub text_of : Reply → LuoTextAnswer
text_of r = record { refusal = r.refusal; place = r.place; text = r.one }

abbrev pub part_numbers : Answer Span → LuoPartAnswer
part_numbers (accept x) = record { refusal = 0; place = 0; start = x.from; length = x.to - x.from }
part_numbers (refuse nr place) = record { refusal = nr; place = place; start = 0; length = 0 }

abbrev pub part_of : Reply → LuoPartAnswer
part_of r = record { refusal = r.refusal; place = r.place; start = r.start; length = r.length }

-- ---- a whole class file; of numbers that are wider their lowest 32 bits

abbrev pub no_class : ℕ → ℕ → LuoClassAnswer
no_class nr place = record {
  refusal = nr;
  place = place;
  slots = 0;
  minor = 0;
  major = 0;
  flags = 0;
  this_class = 0;
  super_class = 0;
  interfaces = 0;
  fields = 0;
  methods = 0;
  member_attributes = 0;
  class_attributes = 0;
}

abbrev pub class_values : Class → LuoClassAnswer
class_values c = record {
  refusal = 0;
  place = 0;
  slots = c.slots % 4294967296;
  minor = c.minor;
  major = c.major;
  flags = c.flags;
  this_class = c.this;
  super_class = c.parent;
  interfaces = c.interfaces;
  fields = c.fields;
  methods = c.methods;
  member_attributes = c.used % 4294967296;
  class_attributes = c.own;
}

abbrev pub class_numbers : Answer Class → LuoClassAnswer
class_numbers (accept c) = class_values c
class_numbers (refuse nr place) = no_class nr place
