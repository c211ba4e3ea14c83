-- The code's own notion: what is asked of a handed table, and the numbers that answer it, before an exported call names them; `tagFor` stands in its promise too. Assumes nothing.
use Rattle.std.specs.Prelude.{ℕ, ◌-◌, Bool, true, false}
use Rattle.reads.specs.Answer.{Answer, accept, refuse}
use Rattle.pool.specs.Pool.{Pool, Whole}
use Rattle.lookups.specs.declared.Named.{Named}
use Rattle.lookups.specs.declared.Member.{Member}
use Rattle.lookups.specs.declared.Held.{Held}
use Rattle.lookups.specs.declared.Indexed.{Indexed}
use Rattle.lookups.specs.Lookups.{class_at, module_at, package_at, method_type_at, named_at, member_at, handle_at, dynamic_at, invoke_dynamic_at}
use Rattle.pool.specs.Kinds as kind
use Rattle.literal.specs.Values.{Literal, integer, float, float_nan, long, double, double_nan, string, bits_of}
use Rattle.values.specs.declared.Span.{Span}
use Rattle.values.specs.Lookups.{literal_at, text_at, span_at}
use Rattle.questions.specs.declared.Question.{Question}
use Rattle.questions.specs.declared.Question.TheVariants.{ClassName, ModuleName, PackageName, MethodType, NameAndType, MemberReference, MethodHandle, Dynamic, InvokeDynamic, Literal as LiteralIn, Text, Part}
use Rattle.questions.specs.declared.Reply.{Reply}

-- ---- the numbers of each answer

-- a refusal: its number and its place, and no values
abbrev pub none : ℕ → ℕ → Reply
none nr place = record { refusal = nr; place = place; one = 0; two = 0; three = 0; four = 0; five = 0; bits = 0; start = 0; length = 0 }

-- .. and an answer by the values that it has
abbrev pub numbers : {A : Type 0} → (A → Reply) → Answer A → Reply
numbers values (accept a) = values a
numbers values (refuse nr place) = none nr place

abbrev pub slot_values : ℕ → Reply
slot_values n = record { refusal = 0; place = 0; one = n; two = 0; three = 0; four = 0; five = 0; bits = 0; start = 0; length = 0 }

abbrev pub named_values : Named → Reply
named_values x = record { refusal = 0; place = 0; one = x.name; two = x.descriptor; three = 0; four = 0; five = 0; bits = 0; start = 0; length = 0 }

abbrev pub member_values : Member → Reply
member_values x = record { refusal = 0; place = 0; one = x.tag; two = x.class; three = x.name; four = x.descriptor; five = 0; bits = 0; start = 0; length = 0 }

abbrev pub held_values : Held → Reply
held_values x = record {
  refusal = 0;
  place = 0;
  one = x.kind;
  two = x.member.tag;
  three = x.member.class;
  four = x.member.name;
  five = x.member.descriptor;
  bits = 0;
  start = 0;
  length = 0;
}

abbrev pub indexed_values : Indexed → Reply
indexed_values x = record { refusal = 0; place = 0; one = x.index; two = x.named.name; three = x.named.descriptor; four = 0; five = 0; bits = 0; start = 0; length = 0 }

-- a literal by its tag and its bits, those of 32 with zeros before them; a String by its Utf8 slot
abbrev pub tag_for : Literal → ℕ
tag_for (integer z) = kind.integer
tag_for (float x) = kind.float
tag_for (float_nan b) = kind.float
tag_for (long z) = kind.long
tag_for (double x) = kind.double
tag_for (double_nan b) = kind.double
tag_for (string m) = kind.string

abbrev pub literal_numbers : ℕ → ℕ → Reply
literal_numbers tag bits = record { refusal = 0; place = 0; one = tag; two = 0; three = 0; four = 0; five = 0; bits = bits; start = 0; length = 0 }

abbrev pub literal_values : Literal → Reply
literal_values l = literal_numbers (tag_for l) (bits_of l)

-- 1 for text, 0 for raw
abbrev pub text_values : Bool → Reply
text_values true = slot_values 1
text_values false = slot_values 0

abbrev pub span_values : Span → Reply
span_values x = record { refusal = 0; place = 0; one = 0; two = 0; three = 0; four = 0; five = 0; bits = 0; start = x.from; length = x.to - x.from }

-- ---- what is asked of slot n

abbrev pub reply_at : Question → ℕ → Pool → Reply
reply_at ClassName n p = numbers slot_values (class_at n p)
reply_at ModuleName n p = numbers slot_values (module_at n p)
reply_at PackageName n p = numbers slot_values (package_at n p)
reply_at MethodType n p = numbers slot_values (method_type_at n p)
reply_at NameAndType n p = numbers named_values (named_at n p)
reply_at MemberReference n p = numbers member_values (member_at n p)
reply_at MethodHandle n p = numbers held_values (handle_at n p)
reply_at Dynamic n p = numbers indexed_values (dynamic_at n p)
reply_at InvokeDynamic n p = numbers indexed_values (invoke_dynamic_at n p)
reply_at LiteralIn n p = numbers literal_values (literal_at n p)
reply_at Text n p = numbers text_values (text_at n p)
reply_at Part n p = numbers span_values (span_at n p)

-- .. in the pool of a handed table, if it is one
abbrev pub on_pool : (Pool → Reply) → Answer Whole → Reply
on_pool f (accept w) = f w.pool
on_pool f (refuse nr place) = none nr place
