-- Demand 1 over a view: the contract of a lookup claims of the two slices that the view holds what the contract of the lookup on slices does, so that what TiedLookups says of that holds of it. Assumes nothing.
use Prim.Native.Nat.{ℕ, ◌+◌}
use mathlib.Core.Path.{◌≡◌, refl}
use mathlib.Core.List.{List, [], ◌∷◌}
use lib.ListN.{length}
use denote.Ref.{Bor, MutBor}
use borrow.Fn.Claims.{AllOf}
use Rattle.reads.specs.Answer.{mapped}
use Rattle.reads.specs.Promise.{Is, answered}
use Rattle.reads.specs.Tables.{after}
use Rattle.handed.specs.Handed.{lookup}
use Rattle.values.specs.Lookups.{span_at, span_in, bytes_at, bytes_in}
use Rattle.reads.specs.declared.Refusal.{Refusal}
use Rattle.std.specs.Prelude.{Result}
use Rattle.dependants.specs.Dependants.{dependants as dependants_of}
use Rattle.values.proofs.literal.Reads as literal_reads
use Rattle.values.proofs.text_or_raw.Reads as text_or_raw_reads
use Rattle.lookups.proofs.class_name.Reads as class_name_reads
use Rattle.lookups.proofs.module_name.Reads as module_name_reads
use Rattle.lookups.proofs.package_name.Reads as package_name_reads
use Rattle.lookups.proofs.method_type.Reads as method_type_reads
use Rattle.lookups.proofs.name_and_type.Reads as name_and_type_reads
use Rattle.lookups.proofs.member_reference.Reads as member_reference_reads
use Rattle.lookups.proofs.method_handle.Reads as method_handle_reads
use Rattle.lookups.proofs.dynamic_constant.Reads as dynamic_constant_reads
use Rattle.lookups.proofs.invoke_dynamic.Reads as invoke_dynamic_reads
use Rattle.values.proofs.utf8_span.Reads as utf8_span_reads
use Rattle.values.proofs.utf8_part.Reads as utf8_part_reads
use Rattle.dependants.proofs.dependants.Reads as dependants_reads
use Rattle.views.specs.declared.PoolView.{PoolView}
use Rattle.views.specs.contracts.PoolView.literal as over_literal
use Rattle.views.specs.contracts.PoolView.text_or_raw as over_text_or_raw
use Rattle.views.specs.contracts.PoolView.class_name as over_class_name
use Rattle.views.specs.contracts.PoolView.module_name as over_module_name
use Rattle.views.specs.contracts.PoolView.package_name as over_package_name
use Rattle.views.specs.contracts.PoolView.method_type as over_method_type
use Rattle.views.specs.contracts.PoolView.name_and_type as over_name_and_type
use Rattle.views.specs.contracts.PoolView.member_reference as over_member_reference
use Rattle.views.specs.contracts.PoolView.method_handle as over_method_handle
use Rattle.views.specs.contracts.PoolView.dynamic_constant as over_dynamic_constant
use Rattle.views.specs.contracts.PoolView.invoke_dynamic as over_invoke_dynamic
use Rattle.views.specs.contracts.PoolView.utf8_span as over-utf8-span
use Rattle.views.specs.contracts.PoolView.utf8_part as over-utf8-part
use Rattle.views.specs.contracts.PoolView.dependants as over_dependants
use Rattle.views.specs.contracts.PoolView.new as make_new
use Rattle.demands.specs.Calls.{Equals}
use Rattle.demands.specs.Clauses.{Claims}
use Rattle.demands.proofs.Kept.{gives}

-- ---- a view holds the two slices

abbrev held : Bor (List ℕ) → Bor (List ℕ) → PoolView → Type 0
held file table z = (z.file ≡ file) × (z.table ≡ table)

module _ (file table : Bor (List ℕ)) where
  pub views-new : (κs : _) → Claims make_new.ended (λ M 𝓤 𝓛. make_new.clauses 𝓛) κs (file, (table, tt)) (λ z e. held file table z ∷ [])
  views-new κs = record { text = λ w g z e. refl }

  pub views-new_once : Equals {E = Unit {0}} (λ z _. held file table z) (record { file = file; table = table })
  views-new_once = gives (λ z e h. λ i. record { file = h.0 i; table = h.1 i })

-- ---- a lookup over it

module _ (v : PoolView) (n : ℕ) where
  pub views-literal : (κs : _) → Claims over_literal.ended (λ M 𝓤 𝓛. over_literal.clauses 𝓛) κs (v, (n, tt)) (λ z e. literal_reads.Learnt κs (v.file, (v.table, (n, tt))) z (v.file, (v.table, (n, tt))) ∷ [])
  views-literal κs = record { text = λ w g z e. refl }

  pub views-text_or_raw : (κs : _) → Claims over_text_or_raw.ended (λ M 𝓤 𝓛. over_text_or_raw.clauses 𝓛) κs (v, (n, tt)) (λ z e. text_or_raw_reads.Learnt κs (v.file, (v.table, (n, tt))) z (v.file, (v.table, (n, tt))) ∷ [])
  views-text_or_raw κs = record { text = λ w g z e. refl }

  pub views-class_name : (κs : _) → Claims over_class_name.ended (λ M 𝓤 𝓛. over_class_name.clauses 𝓛) κs (v, (n, tt)) (λ z e. class_name_reads.Learnt κs (v.file, (v.table, (n, tt))) z (v.file, (v.table, (n, tt))) ∷ [])
  views-class_name κs = record { text = λ w g z e. refl }

  pub views-module_name : (κs : _) → Claims over_module_name.ended (λ M 𝓤 𝓛. over_module_name.clauses 𝓛) κs (v, (n, tt)) (λ z e. module_name_reads.Learnt κs (v.file, (v.table, (n, tt))) z (v.file, (v.table, (n, tt))) ∷ [])
  views-module_name κs = record { text = λ w g z e. refl }

  pub views-package_name : (κs : _) → Claims over_package_name.ended (λ M 𝓤 𝓛. over_package_name.clauses 𝓛) κs (v, (n, tt)) (λ z e. package_name_reads.Learnt κs (v.file, (v.table, (n, tt))) z (v.file, (v.table, (n, tt))) ∷ [])
  views-package_name κs = record { text = λ w g z e. refl }

  pub views-method_type : (κs : _) → Claims over_method_type.ended (λ M 𝓤 𝓛. over_method_type.clauses 𝓛) κs (v, (n, tt)) (λ z e. method_type_reads.Learnt κs (v.file, (v.table, (n, tt))) z (v.file, (v.table, (n, tt))) ∷ [])
  views-method_type κs = record { text = λ w g z e. refl }

  pub views-name_and_type : (κs : _) → Claims over_name_and_type.ended (λ M 𝓤 𝓛. over_name_and_type.clauses 𝓛) κs (v, (n, tt)) (λ z e. name_and_type_reads.Learnt κs (v.file, (v.table, (n, tt))) z (v.file, (v.table, (n, tt))) ∷ [])
  views-name_and_type κs = record { text = λ w g z e. refl }

  pub views-member_reference : (κs : _) → Claims over_member_reference.ended (λ M 𝓤 𝓛. over_member_reference.clauses 𝓛) κs (v, (n, tt)) (λ z e. member_reference_reads.Learnt κs (v.file, (v.table, (n, tt))) z (v.file, (v.table, (n, tt))) ∷ [])
  views-member_reference κs = record { text = λ w g z e. refl }

  pub views-method_handle : (κs : _) → Claims over_method_handle.ended (λ M 𝓤 𝓛. over_method_handle.clauses 𝓛) κs (v, (n, tt)) (λ z e. method_handle_reads.Learnt κs (v.file, (v.table, (n, tt))) z (v.file, (v.table, (n, tt))) ∷ [])
  views-method_handle κs = record { text = λ w g z e. refl }

  pub views-dynamic_constant : (κs : _) → Claims over_dynamic_constant.ended (λ M 𝓤 𝓛. over_dynamic_constant.clauses 𝓛) κs (v, (n, tt)) (λ z e. dynamic_constant_reads.Learnt κs (v.file, (v.table, (n, tt))) z (v.file, (v.table, (n, tt))) ∷ [])
  views-dynamic_constant κs = record { text = λ w g z e. refl }

  pub views-invoke_dynamic : (κs : _) → Claims over_invoke_dynamic.ended (λ M 𝓤 𝓛. over_invoke_dynamic.clauses 𝓛) κs (v, (n, tt)) (λ z e. invoke_dynamic_reads.Learnt κs (v.file, (v.table, (n, tt))) z (v.file, (v.table, (n, tt))) ∷ [])
  views-invoke_dynamic κs = record { text = λ w g z e. refl }

  pub views-utf8_span : (κs : _) → Claims over-utf8-span.ended (λ M 𝓤 𝓛. over-utf8-span.clauses 𝓛) κs (v, (n, tt)) (λ z e. utf8_span_reads.Learnt κs (v.file, (v.table, (n, tt))) z (v.file, (v.table, (n, tt))) ∷ [])
  views-utf8_span κs = record { text = λ w g z e. refl }

  -- a contract of two clauses: these, and as one they are what is promised of the slices
  abbrev part_of : Bor (List ℕ) → List (Type 0)
  part_of z =
      (z.now ≡ bytes_in (lookup v.file.now v.table.now (bytes_at n)))
      ∷ ((z.ref_ptr.0 ≡ v.file.ref_ptr.0) × (z.ref_ptr.1 ≡ v.file.ref_ptr.1 + (span_in (lookup v.file.now v.table.now (span_at n))).from)) ∷ []

  pub views-utf8_part : (κs : _) → Claims over-utf8-part.ended (λ M 𝓤 𝓛. over-utf8-part.clauses 𝓛) κs (v, (n, tt)) (λ z e. part_of z)
  views-utf8_part κs = record { text = λ w g z e. refl }

  pub views-utf8_part_same : (κs : _) (z : Bor (List ℕ)) → utf8_part_reads.Learnt κs (v.file, (v.table, (n, tt))) z (v.file, (v.table, (n, tt))) ≡ AllOf (part_of z)
  views-utf8_part_same κs z = refl

  module _ (list : MutBor (List ℕ)) where
    abbrev listed : Result ℕ Refusal → MutBor (List ℕ) → List (Type 0)
    listed z left =
        let room = length list.now in
        let x = dependants_of v.file.now v.table.now n room in
        Is answered (mapped length x) z ∷ (left.now ≡ after 0 (λ xs. xs) room x) ∷ []

    pub views-dependants : (κs : _) → Claims over_dependants.ended (λ M 𝓤 𝓛. over_dependants.clauses 𝓛) κs (v, (n, (list, tt))) (λ z e. listed z e.1.1.0)
    views-dependants κs = record { text = λ w g z e. refl }

    pub views-dependants_same : (κs : _) (z : Result ℕ Refusal) (left : MutBor (List ℕ)) → dependants_reads.Learnt κs (v.file, (v.table, (n, (list, tt)))) z (v.file, (v.table, (n, (left, tt)))) ≡ AllOf (listed z left)
    views-dependants_same κs z left = refl
