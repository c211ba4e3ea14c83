-- Demand 1 for the calls on bytes, numbers and names, from their contracts: a line for each. Assumes nothing.
use Prim.Native.Nat.{ℕ, ◌/◌}
use mathlib.Core.Bool.{Bool, false, ◌&&◌}
use mathlib.Core.List.{List}
use lib.ListN.{length, take, drop, get_or, replicate}
use denote.Ref.{Bor, MutBor}
use Rattle.reads.specs.Promise.{answered, refusal, number_of}
use denote.RattleType.{RattleType}
use denote.Builtin.{u8, u16, u32}
use denote.Param.Laws.{Laws, IsCopy}
use mir.Syntax.{Dict}
use Rattle.std.specs.declared.clone.Clone.{Ghosts as Clone}
use Rattle.reads.specs.declared.Zero.{Ghosts as Zero}
use Rattle.reads.specs.contracts.U8Zero.TheImpl.{ghosts as zero_u8, dict as dict_u8}
use Rattle.reads.specs.contracts.U16Zero.TheImpl.{ghosts as zero_u16, dict as dict_u16}
use Rattle.reads.specs.contracts.U32Zero.TheImpl.{ghosts as zero_u32, dict as dict_u32}
use Rattle.reads.specs.Bytes.{num1, num2, u1, u2, u4, skipped}
use Rattle.reads.specs.declared.Reason.{Reason}
use Rattle.reads.proofs.Reason.at.Reads as at_reads
use Rattle.reads.proofs.byte_at.Reads as byte_at_reads
use Rattle.reads.proofs.pair_at.Reads as pair_at_reads
use Rattle.reads.proofs.part.Reads as part_reads
use Rattle.reads.proofs.skip.Reads as skip_reads
use Rattle.reads.proofs.read_u1.Reads as read_u1_reads
use Rattle.reads.proofs.read_u2.Reads as read_u2_reads
use Rattle.reads.proofs.read_u4.Reads as read_u4_reads
use Rattle.reads.proofs.clear.Reads as clear_reads
use Rattle.text.specs.Text.{text_form, run, is_text, before, name_marks, unqualified, binary, walked, whole, is_init, is_clinit, is_bootstrap_methods, method_name, module_form, module_name}
use Rattle.text.proofs.text_form.Reads as text_form_reads
use Rattle.text.proofs.text_length.Reads as text_length_reads
use Rattle.text.proofs.is_text.Reads as is_text_reads
use Rattle.text.proofs.is_unqualified_name.Reads as is_unqualified_name_reads
use Rattle.text.proofs.is_init.Reads as is_init_reads
use Rattle.text.proofs.is_clinit.Reads as is_clinit_reads
use Rattle.text.proofs.is_bootstrap_methods.Reads as is_bootstrap_methods_reads
use Rattle.text.proofs.is_binary_name.Reads as is_binary_name_reads
use Rattle.text.proofs.module_form.Reads as module_form_reads
use Rattle.text.proofs.module_length.Reads as module_length_reads
use Rattle.text.proofs.is_module_name.Reads as is_module_name_reads
use Rattle.text.proofs.plain_length.Reads as plain_length_reads
use Rattle.text.proofs.is_unqualified_method_name.Reads as is_unqualified_method_name_reads
use Rattle.text.proofs.walk_name.Reads as walk_name_reads
use Rattle.ascii.specs.Ascii.{ascii}
use Rattle.ascii.proofs.is_ascii.Reads as is_ascii_reads
use Rattle.ascii.proofs.is_ascii_name.Reads as is_ascii_name_reads
use Rattle.ascii.proofs.is_ascii_binary.Reads as is_ascii_binary_reads
use Rattle.ascii.proofs.walk_name.Reads as ascii_walk_name_reads
use Rattle.descriptors.specs.Descriptors.{stands, field_descriptor, array_descriptor, method_descriptor, returns_void, takes_nothing}
use Rattle.descriptors.proofs.stands_at.Reads as stands_at_reads
use Rattle.descriptors.proofs.is_field_descriptor.Reads as is_field_descriptor_reads
use Rattle.descriptors.proofs.is_array_descriptor.Reads as is_array_descriptor_reads
use Rattle.descriptors.proofs.is_method_descriptor.Reads as is_method_descriptor_reads
use Rattle.descriptors.proofs.returns_void.Reads as returns_void_reads
use Rattle.descriptors.proofs.takes_nothing.Reads as takes_nothing_reads
use Rattle.cells.specs.Cells.{cells_in, as_bytes}
use Rattle.cells.proofs.cell_at.Reads as cell_at_reads
use Rattle.cells.proofs.cells_out.Reads as cells_out_reads
use Rattle.cells.proofs.list_out.Reads as list_out_reads
use Rattle.demands.specs.Calls.{AmongAt, Equals, Hands, Leaves, Answers}
use Rattle.demands.specs.Numbers.{of_read}
use Rattle.demands.proofs.Kept.{gives, answers}
use Rattle.demands.proofs.Numbered.{u1_at, u2_at, u4_at, skipped_at}

-- ---- refusals, and numbers of bytes

pub reads-at : (κs : _) (reason : Reason) (place : ℕ) → Equals (at_reads.Learnt κs (reason, (place, tt))) (refusal (number_of reason) place)
reads-at κs reason place = gives (λ z e h. h)

module _ (s : Bor (List ℕ)) (at : ℕ) where
  pub reads-byte_at : (κs : _) → Equals (byte_at_reads.Learnt κs (s, (at, tt))) (num1 s.now at)
  reads-byte_at κs = gives (λ z e h. h)

  pub reads-pair_at : (κs : _) → Equals (pair_at_reads.Learnt κs (s, (at, tt))) (num2 s.now at)
  reads-pair_at κs = gives (λ z e h. h)

  pub reads-part : (κs : _) (n : ℕ) → Hands (part_reads.Learnt κs (s, (at, (n, tt)))) (take n (drop at s.now))
  reads-part κs n = gives (λ z e h. h)

  -- each read refuses with 2 alone, at the byte where it began
  pub reads-read_u1 : (κs : _) → Answers (read_u1_reads.Learnt κs (s, (at, tt))) answered (u1 s.now at) (AmongAt of_read at)
  reads-read_u1 κs = answers (λ z e h. h) (u1_at s.now at)

  pub reads-read_u2 : (κs : _) → Answers (read_u2_reads.Learnt κs (s, (at, tt))) answered (u2 s.now at) (AmongAt of_read at)
  reads-read_u2 κs = answers (λ z e h. h) (u2_at s.now at)

  pub reads-read_u4 : (κs : _) → Answers (read_u4_reads.Learnt κs (s, (at, tt))) answered (u4 s.now at) (AmongAt of_read at)
  reads-read_u4 κs = answers (λ z e h. h) (u4_at s.now at)

  pub reads-skip : (κs : _) (n : ℕ) → Answers (skip_reads.Learnt κs (s, (at, (n, tt)))) answered (skipped s.now at n) (AmongAt of_read at)
  reads-skip κs n = answers (λ z e h. h) (skipped_at s.now at n)

-- ---- tables made zero, and cells as bytes

-- whatever numbers the table holds: T is their type, and Z what says its zero
module _ (T : RattleType) (L : Laws T) (C : IsCopy T) (Z : Zero T.Denot) (zs : Dict) (K : Clone T.Denot) (ks : Dict) where
  pub reads-clear : (κs : _) (table : MutBor (List T.Denot)) → Leaves (clear_reads.Learnt T L C Z zs K ks κs (table, tt)) (λ e. e.0.now) (replicate (length table.now) Z.ZERO)
  reads-clear κs table = gives (λ z e h. h)

-- of bytes, of slots and of cells: zeros
module _ (K : Clone ℕ) (ks : Dict) (κs : _) (table : MutBor (List ℕ)) where
  pub reads-clear-u8 : (L : Laws u8) (C : IsCopy u8) → Leaves (clear_reads.Learnt u8 L C zero_u8 dict_u8 K ks κs (table, tt)) (λ e. e.0.now) (replicate (length table.now) 0)
  reads-clear-u8 L C = reads-clear u8 L C zero_u8 dict_u8 K ks κs table

  pub reads-clear-u16 : (L : Laws u16) (C : IsCopy u16) → Leaves (clear_reads.Learnt u16 L C zero_u16 dict_u16 K ks κs (table, tt)) (λ e. e.0.now) (replicate (length table.now) 0)
  reads-clear-u16 L C = reads-clear u16 L C zero_u16 dict_u16 K ks κs table

  pub reads-clear-u32 : (L : Laws u32) (C : IsCopy u32) → Leaves (clear_reads.Learnt u32 L C zero_u32 dict_u32 K ks κs (table, tt)) (λ e. e.0.now) (replicate (length table.now) 0)
  reads-clear-u32 L C = reads-clear u32 L C zero_u32 dict_u32 K ks κs table

module _ (table : MutBor (List ℕ)) where
  pub cells-cells_out : (κs : _) (cells : Bor (List ℕ)) → Leaves (cells_out_reads.Learnt κs (cells, (table, tt))) (λ e. e.1.0.now) (as_bytes (length table.now) (take (length table.now / 4) cells.now))
  cells-cells_out κs cells = gives (λ z e h. h)

  pub cells-list_out : (κs : _) (list : Bor (List ℕ)) → Leaves (list_out_reads.Learnt κs (list, (table, tt))) (λ e. e.1.0.now) (as_bytes (length table.now) (take (length table.now / 4) list.now))
  cells-list_out κs list = gives (λ z e h. h)

pub cells-cell_at : (κs : _) (table : Bor (List ℕ)) (i : ℕ) → Equals (cell_at_reads.Learnt κs (table, (i, tt))) (get_or (cells_in table.now) i 0)
cells-cell_at κs table i = gives (λ z e h. h)

-- ---- texts, names and descriptors

module _ (s : Bor (List ℕ)) where
  pub text-text_form : (κs : _) → Equals (text_form_reads.Learnt κs (s, tt)) (text_form s.now)
  text-text_form κs = gives (λ z e h. h)

  pub text-text_length : (κs : _) → Equals (text_length_reads.Learnt κs (s, tt)) (run text_form s.now)
  text-text_length κs = gives (λ z e h. h)

  pub text-is_text : (κs : _) → Equals (is_text_reads.Learnt κs (s, tt)) (is_text s.now)
  text-is_text κs = gives (λ z e h. h)

  pub text-is_unqualified_name : (κs : _) → Equals (is_unqualified_name_reads.Learnt κs (s, tt)) (unqualified s.now)
  text-is_unqualified_name κs = gives (λ z e h. h)

  pub text-is_init : (κs : _) → Equals (is_init_reads.Learnt κs (s, tt)) (is_init s.now)
  text-is_init κs = gives (λ z e h. h)

  pub text-is_clinit : (κs : _) → Equals (is_clinit_reads.Learnt κs (s, tt)) (is_clinit s.now)
  text-is_clinit κs = gives (λ z e h. h)

  pub text-is_bootstrap_methods : (κs : _) → Equals (is_bootstrap_methods_reads.Learnt κs (s, tt)) (is_bootstrap_methods s.now)
  text-is_bootstrap_methods κs = gives (λ z e h. h)

  pub text-is_binary_name : (κs : _) → Equals (is_binary_name_reads.Learnt κs (s, tt)) (binary s.now)
  text-is_binary_name κs = gives (λ z e h. h)

  pub text-module_form : (κs : _) → Equals (module_form_reads.Learnt κs (s, tt)) (module_form s.now)
  text-module_form κs = gives (λ z e h. h)

  pub text-module_length : (κs : _) → Equals (module_length_reads.Learnt κs (s, tt)) (run module_form s.now)
  text-module_length κs = gives (λ z e h. h)

  pub text-is_module_name : (κs : _) → Equals (is_module_name_reads.Learnt κs (s, tt)) (module_name s.now)
  text-is_module_name κs = gives (λ z e h. h)

  pub text-plain_length : (κs : _) (in-method : Bool) → Equals (plain_length_reads.Learnt κs (s, (in-method, tt))) (before (name_marks in-method) s.now)
  text-plain_length κs in-method = gives (λ z e h. h)

  pub text-is_unqualified_method_name : (κs : _) (in-interface : Bool) → Equals (is_unqualified_method_name_reads.Learnt κs (s, (in-interface, tt))) (method_name in-interface s.now)
  text-is_unqualified_method_name κs in-interface = gives (λ z e h. h)

  pub text-walk_name : (κs : _) → Equals (walk_name_reads.Learnt κs (s, tt)) (record { at = walked false s.now; whole = whole false s.now })
  text-walk_name κs = gives (λ z e h. λ i. record { at = h.0 i; whole = h.1 i })

  pub ascii-is_ascii : (κs : _) → Equals (is_ascii_reads.Learnt κs (s, tt)) (ascii s.now)
  ascii-is_ascii κs = gives (λ z e h. h)

  pub ascii-is_ascii_name : (κs : _) → Equals (is_ascii_name_reads.Learnt κs (s, tt)) (ascii s.now && unqualified s.now)
  ascii-is_ascii_name κs = gives (λ z e h. h)

  pub ascii-is_ascii_binary : (κs : _) → Equals (is_ascii_binary_reads.Learnt κs (s, tt)) (ascii s.now && binary s.now)
  ascii-is_ascii_binary κs = gives (λ z e h. h)

  pub ascii-walk_name : (κs : _) → Equals (ascii_walk_name_reads.Learnt κs (s, tt)) (record { at = walked false s.now; whole = whole false s.now })
  ascii-walk_name κs = gives (λ z e h. λ i. record { at = h.0 i; whole = h.1 i })

  pub descriptors-is_field_descriptor : (κs : _) → Equals (is_field_descriptor_reads.Learnt κs (s, tt)) (field_descriptor s.now)
  descriptors-is_field_descriptor κs = gives (λ z e h. h)

  pub descriptors-is_array_descriptor : (κs : _) → Equals (is_array_descriptor_reads.Learnt κs (s, tt)) (array_descriptor s.now)
  descriptors-is_array_descriptor κs = gives (λ z e h. h)

  pub descriptors-is_method_descriptor : (κs : _) → Equals (is_method_descriptor_reads.Learnt κs (s, tt)) (method_descriptor s.now)
  descriptors-is_method_descriptor κs = gives (λ z e h. h)

  pub descriptors-returns_void : (κs : _) → Equals (returns_void_reads.Learnt κs (s, tt)) (returns_void s.now)
  descriptors-returns_void κs = gives (λ z e h. h)

  pub descriptors-takes_nothing : (κs : _) → Equals (takes_nothing_reads.Learnt κs (s, tt)) (takes_nothing s.now)
  descriptors-takes_nothing κs = gives (λ z e h. h)

  pub descriptors-stands_at : (κs : _) (i b : ℕ) → Equals (stands_at_reads.Learnt κs (s, (i, (b, tt)))) (stands b i s.now)
  descriptors-stands_at κs i b = gives (λ z e h. h)
