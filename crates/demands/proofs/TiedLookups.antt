-- Demand 1 for the lookups and the dependants, from their contracts: a line for each. Assumes nothing.
use Prim.Native.Nat.{ℕ, ◌+◌}
use mathlib.Core.Path.{sym, ap, ◌∙◌}
use mathlib.Core.List.{List}
use lib.ListN.{length}
use denote.Ref.{Bor, MutBor}
use Rattle.std.specs.Prelude.{Result}
use Rattle.reads.specs.declared.Refusal.{Refusal}
use Rattle.reads.specs.Promise.{answered, answered_by}
use Rattle.pool.proofs.Room.{Bytes}
use Rattle.handed.specs.Handed.{lookup}
use Rattle.literal.specs.declared.Literal.{Literal as CodeLiteral}
use Rattle.literal.specs.Values.{number_at, bits_of, bits_in}
use Rattle.literal.specs.Readings.{reading_literal}
use Rattle.literal.proofs.number_at.Reads as number_at_reads
use Rattle.literal.proofs.Literal.bits.Reads as bits_reads
use Rattle.literal.proofs.bits_of.Reads as bits_of_reads
use Rattle.values.specs.Lookups.{literal_at, text_at, span_at, span_in, bytes_at, bytes_in}
use Rattle.values.specs.Readings.{reading_text}
use Rattle.values.proofs.literal.Reads as literal_reads
use Rattle.values.proofs.text_or_raw.Reads as text_or_raw_reads
use Rattle.values.proofs.utf8_span.Reads as utf8_span_reads
use Rattle.values.proofs.utf8_part.Reads as utf8_part_reads
use Rattle.lookups.specs.Lookups.{class_at, module_at, package_at, method_type_at, named_at, member_at, handle_at, dynamic_at, invoke_dynamic_at}
use Rattle.lookups.proofs.class_name.Reads as class_name_reads
use Rattle.lookups.proofs.module_name.Reads as module_name_reads
use Rattle.lookups.proofs.package_name.Reads as package_name_reads
use Rattle.lookups.proofs.method_type.Reads as method_type_reads
use Rattle.lookups.proofs.name_and_type.Reads as name_and_type_reads
use Rattle.lookups.proofs.member_reference.Reads as member_reference_reads
use Rattle.lookups.proofs.method_handle.Reads as method_handle_reads
use Rattle.lookups.proofs.dynamic_constant.Reads as dynamic_constant_reads
use Rattle.lookups.proofs.invoke_dynamic.Reads as invoke_dynamic_reads
use Rattle.dependants.specs.Dependants.{dependants as dependants_of}
use Rattle.dependants.proofs.dependants.Reads as dependants_reads
use Rattle.views.proofs.literal_of.Reads as literal_of_reads
use Rattle.demands.specs.Calls.{Among, Gives, Equals, Answers, Fills}
use Rattle.demands.specs.Numbers.{of_dependants}
use Rattle.demands.specs.Places.{OfLookup}
use Rattle.demands.proofs.Kept.{gives, answers, fills}
use Rattle.demands.proofs.NumberedLookups.{literal_looked, text_looked, name_looked, named_looked, member_looked, handle_looked, indexed_looked, dependants_only}

-- ---- literals by their bits: never refused

pub literal-number_at : (κs : _) (file : Bor (List ℕ)) (tag cell : ℕ) → Equals (number_at_reads.Learnt κs (file, (tag, (cell, tt)))) (reading_literal.back (number_at file.now tag (cell + 1)))
literal-number_at κs file tag cell = gives (λ z e h. sym (reading_literal.again z) ∙ ap reading_literal.back h)

pub literal-bits : (κs : _) (literal : CodeLiteral) → Equals (bits_reads.Learnt κs (literal, tt)) (bits_of (reading_literal.read literal))
literal-bits κs literal = gives (λ z e h. h)

pub literal-bits_of : (κs : _) (answer : Result CodeLiteral Refusal) → Equals (bits_of_reads.Learnt κs (answer, tt)) (bits_in ((answered_by reading_literal).read answer))
literal-bits_of κs answer = gives (λ z e h. h)

-- ---- on a handed table of a file of bytes

module _ (file : Bor (List ℕ)) (b : Bytes file.now) (table : Bor (List ℕ)) (n : ℕ) where
  pub values-literal : (κs : _) → Answers (literal_reads.Learnt κs (file, (table, (n, tt)))) (answered_by reading_literal) (lookup file.now table.now (literal_at n)) (OfLookup file.now table.now n)
  values-literal κs = answers (λ z e h. h) (literal_looked file.now b table.now n)

  pub values-text_or_raw : (κs : _) → Answers (text_or_raw_reads.Learnt κs (file, (table, (n, tt)))) (answered_by reading_text) (lookup file.now table.now (text_at n)) (OfLookup file.now table.now n)
  values-text_or_raw κs = answers (λ z e h. h) (text_looked file.now b table.now n)

  pub lookups-class_name : (κs : _) → Answers (class_name_reads.Learnt κs (file, (table, (n, tt)))) answered (lookup file.now table.now (class_at n)) (OfLookup file.now table.now n)
  lookups-class_name κs = answers (λ z e h. h) (name_looked file.now b table.now n _)

  pub lookups-module_name : (κs : _) → Answers (module_name_reads.Learnt κs (file, (table, (n, tt)))) answered (lookup file.now table.now (module_at n)) (OfLookup file.now table.now n)
  lookups-module_name κs = answers (λ z e h. h) (name_looked file.now b table.now n _)

  pub lookups-package_name : (κs : _) → Answers (package_name_reads.Learnt κs (file, (table, (n, tt)))) answered (lookup file.now table.now (package_at n)) (OfLookup file.now table.now n)
  lookups-package_name κs = answers (λ z e h. h) (name_looked file.now b table.now n _)

  pub lookups-method_type : (κs : _) → Answers (method_type_reads.Learnt κs (file, (table, (n, tt)))) answered (lookup file.now table.now (method_type_at n)) (OfLookup file.now table.now n)
  lookups-method_type κs = answers (λ z e h. h) (name_looked file.now b table.now n _)

  pub lookups-name_and_type : (κs : _) → Answers (name_and_type_reads.Learnt κs (file, (table, (n, tt)))) answered (lookup file.now table.now (named_at n)) (OfLookup file.now table.now n)
  lookups-name_and_type κs = answers (λ z e h. h) (named_looked file.now b table.now n)

  pub lookups-member_reference : (κs : _) → Answers (member_reference_reads.Learnt κs (file, (table, (n, tt)))) answered (lookup file.now table.now (member_at n)) (OfLookup file.now table.now n)
  lookups-member_reference κs = answers (λ z e h. h) (member_looked file.now b table.now n)

  pub lookups-method_handle : (κs : _) → Answers (method_handle_reads.Learnt κs (file, (table, (n, tt)))) answered (lookup file.now table.now (handle_at n)) (OfLookup file.now table.now n)
  lookups-method_handle κs = answers (λ z e h. h) (handle_looked file.now b table.now n)

  pub lookups-dynamic_constant : (κs : _) → Answers (dynamic_constant_reads.Learnt κs (file, (table, (n, tt)))) answered (lookup file.now table.now (dynamic_at n)) (OfLookup file.now table.now n)
  lookups-dynamic_constant κs = answers (λ z e h. h) (indexed_looked file.now b table.now n _)

  pub lookups-invoke_dynamic : (κs : _) → Answers (invoke_dynamic_reads.Learnt κs (file, (table, (n, tt)))) answered (lookup file.now table.now (invoke_dynamic_at n)) (OfLookup file.now table.now n)
  lookups-invoke_dynamic κs = answers (λ z e h. h) (indexed_looked file.now b table.now n _)

  pub views-literal_of : (κs : _) → Answers (literal_of_reads.Learnt κs (file, (table, (n, tt)))) (answered_by reading_literal) (lookup file.now table.now (literal_at n)) (OfLookup file.now table.now n)
  views-literal_of κs = answers (λ z e h. h) (literal_looked file.now b table.now n)

  pub dependants-dependants : (κs : _) (list : MutBor (List ℕ)) → let room = length list.now in
      Fills (dependants_reads.Learnt κs (file, (table, (n, (list, tt))))) answered length (dependants_of file.now table.now n room) (λ e. e.1.1.1.0.now) (λ xs. xs) room (Among of_dependants)
  dependants-dependants κs list = fills length (λ xs. xs) _ _ (λ z e h. h) (dependants_only file.now b table.now n _)

-- ---- a Utf8's bytes: none where the lookup refuses

module _ (file table : Bor (List ℕ)) (n : ℕ) where
  pub values-utf8_span : (κs : _) → Equals (utf8_span_reads.Learnt κs (file, (table, (n, tt)))) (span_in (lookup file.now table.now (span_at n)))
  values-utf8_span κs = gives (λ z e h. h)

  -- the part handed back: its bytes, and where they lie in the caller's own file
  pub values-utf8_part : (κs : _) → Gives {B = List ℕ × (ℕ × ℕ)} (utf8_part_reads.Learnt κs (file, (table, (n, tt)))) (λ z _. (z.now, (z.ref_ptr.0, z.ref_ptr.1)))
      (bytes_in (lookup file.now table.now (bytes_at n)), (file.ref_ptr.0, file.ref_ptr.1 + (span_in (lookup file.now table.now (span_at n))).from))
  values-utf8_part κs = gives (λ z e h. λ i. (h.0 i, (h.1.0 i, h.1.1 i)))
