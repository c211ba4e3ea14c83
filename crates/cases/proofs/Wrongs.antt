-- No answer of the table of wrong ones is what the definition answers, so no call that keeps its contract gives it. Assumes nothing.
use Prim.Native.Nat.{ℕ}
use mathlib.Core.Path.{◌≡◌, refl, sym, ◌∙◌, ap}
use mathlib.Core.List.{List, [], ◌∷◌}
use mathlib.Core.Bool.{true, ◌&&◌, true≢false}
use lib.Ieee.{nan_bits}
use borrow.Author.Tests.{not-true}
use Rattle.reads.specs.Answer as answers
use Rattle.reads.specs.Bytes as reads
use Rattle.reads.specs.Tables as tables
use Rattle.reads.specs.Promise.{Reading, Is}
use Rattle.text.specs.Text as text
use Rattle.descriptors.specs.Descriptors as descriptors
use Rattle.pool.specs.Kinds as kind
use Rattle.pool.specs.Named as named
use Rattle.pool.specs.Rows as rows
use Rattle.pool.specs.Pool as pool
use Rattle.slot.specs.Slots as slot
use Rattle.checks.specs.Checks as checks
use Rattle.handed.specs.Handed as handed
use Rattle.literal.specs.Values as literal
use Rattle.values.specs.Lookups as values
use Rattle.lookups.specs.Lookups as lookups
use Rattle.reach.specs.Reach as reach
use Rattle.dependants.specs.Dependants as dependants
use Rattle.bootstrap.specs.Bootstrap as bootstrap
use Rattle.bootstrap.specs.Indices as indices
use Rattle.reads.specs.Records as records
use Rattle.attributes.specs.Attributes as attributes
use Rattle.member.specs.Member as member
use Rattle.class_head.specs.Header as header
use Rattle.ascii.specs.Ascii as plain
use Rattle.class.specs.Members as members
use Rattle.class.specs.Columns as columns
use Rattle.class.specs.Class as class
use Rattle.records.specs.Records as members-as-records
use Rattle.class_records.specs.ClassRecords as class-records
use Rattle.cells.specs.Cells as cells
use Rattle.byte_tables.specs.Afresh as afresh
use Rattle.text.proofs.Names.{decides, same_eq}
use Rattle.text.proofs.Laws.{and_both}
use Rattle.listing.specs.Forms as forms
use Rattle.listing.specs.Listing as listing
use Rattle.cases.specs.Wrongs.{Row, apart, holds, rejects, Told, Rejected}
use Rattle.cases.specs.WrongNative.{wrongs}

-- answers whose numbers differ are two
pub told : {A : Type 0} (code : A → List ℕ) (a b : A) → apart (code a) (code b) ≡ true → a ≡ b → ⊥
told code a b h e = true≢false (decides true (code a) (code b) ((λ _. ap code e), (λ _. refl)) ∙ not-true (text.same (code a) (code b)) h)

-- what the computed test says of a row
row_told : (r : Row) → holds r ≡ true → Told r
row_told r h =
    let a = and_both (text.same (r.code r.right) (r.code r.said)) (apart (r.code r.right) (r.code r.wrong) && (apart (r.code r.right) (r.code r.worse) && apart (r.code r.wrong) (r.code r.worse))) h in
    let b = and_both (apart (r.code r.right) (r.code r.wrong)) (apart (r.code r.right) (r.code r.worse) && apart (r.code r.wrong) (r.code r.worse)) a.1 in
    let c = and_both (apart (r.code r.right) (r.code r.worse)) (apart (r.code r.wrong) (r.code r.worse)) b.1 in
    record {
      answers = same_eq (r.code r.right) (r.code r.said) a.0;
      not_wrong = told r.code r.right r.wrong b.0;
      not_worse = told r.code r.right r.worse c.0;
      two = told r.code r.wrong r.worse c.1;
    }

pub rejected : (rs : List Row) → rejects rs ≡ true → Rejected rs
rejected [] h = tt
rejected (r ∷ rs) h = let x = and_both (holds r) (rejects rs) h in (row_told r x.0, rejected rs x.1)

pub ruled_out : Rejected wrongs
unfolding text.same reads.within reads.u1 reads.u2 reads.u4 reads.skipped text.one_of text.none_of text.before text.begins text.form_length
    text.covered text.text_form text.is_text text.unqualified plain.ascii text.plain text.onto text.split text.all_of text.binary text.follows
    text.walked text.whole text.is_init text.is_clinit text.is_bootstrap_methods text.method_name text.escape text.module_byte text.module_form
    text.module_name descriptors.stands descriptors.class_length descriptors.on_more descriptors.base_length descriptors.type_length descriptors.depth
    descriptors.field_descriptor descriptors.array_descriptor descriptors.return_descriptor descriptors.closing descriptors.returned
    descriptors.method_descriptor descriptors.returns_void descriptors.takes_nothing answers.each tables.padded kind.has named.kind_of rows.row_of pool.second_width
    pool.wide pool.entry_at pool.slot_at pool.entries pool.all_entries pool.header_of pool.read_pool slot.tag_of slot.field slot.bytes_of slot.of_kind
    slot.text_at slot.text_of slot.class_name slot.class_text slot.typed checks.reference checks.references checks.handled checks.handle checks.member
    checks.name_and_type checks.obey checks.checked checks.pool handed.agree handed.judged handed.handed handed.lookup handed.asked literal.twos
    literal.single literal.twofold literal.number_at values.literal_of values.literal_at values.text_at values.bytes_at values.cut values.span_of
    values.span_at lookups.name_slot lookups.named lookups.named_at lookups.member_of lookups.member_at lookups.handle_at lookups.indexed_at reach.named
    reach.refers_to reach.any_of reach.reaches reach.sieve reach.dependants_in reach.needs_in dependants.dependants_at nan_bits bootstrap.is_bootstrap
    bootstrap.body_u2 bootstrap.index_at bootstrap.steps bootstrap.method_at bootstrap.bootstrap_body bootstrap.own_rule indices.bootstraps
    indices.below_each indices.dynamic indices.bootstrap_index indices.bootstrap_indices indices.joined indices.gathered indices.judged records.records
    records.placed slot.utf8_at attributes.attribute_at attributes.ruled attributes.record_at member.masked member.good_name member.good_type
    member.good_text member.shape member.good_shape member.alike member.twice member.text_in member.parts_at member.member_at header.class_at header.super_at
    header.head_at header.interface_at header.interfaces_at members.whole_at members.sort_at columns.member_room class.end_at class.own_at class.tables_at
    class.marked class.class_flags class.front_at class.class_file members-as-records.member_of members-as-records.attribute_of
    members-as-records.records_from class-records.attributes_of cells.cells_in cells.bytes_for cells.as_bytes cells.written afresh.afresh afresh.taken
    forms.form_of forms.num_of listing.first_of listing.second_of listing.up_to listing.listed_at
ruled_out = rejected wrongs refl

-- a call whose contract says `Is w a` does not answer what is read as b, where a and b are two
pub never_said : {R A : Type 0} (w : Reading R A) (a b : A) → (a ≡ b → ⊥) → (r : R) → Is w a r → Is w b r → ⊥
never_said w a b two r p q = two (sym p ∙ q)
