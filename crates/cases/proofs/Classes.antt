-- Each worked class is answered as is written, and not in either of the two wrong ways. Assumes nothing.
use mathlib.Core.Path.{refl}
use Rattle.reads.specs.Answer as answers
use Rattle.reads.specs.Bytes as reads
use Rattle.reads.specs.Tables as tables
use Rattle.text.specs.Text as text
use Rattle.descriptors.specs.Descriptors as descriptors
use Rattle.pool.specs.Kinds as kind
use Rattle.pool.specs.Rows as rows
use Rattle.pool.specs.Pool as pool
use Rattle.slot.specs.Slots as slot
use Rattle.checks.specs.Checks as checks
use Rattle.bootstrap.specs.Bootstrap as bootstrap
use Rattle.bootstrap.specs.Indices as indices
use Rattle.reads.specs.Records as records
use Rattle.attributes.specs.Attributes as attributes
use Rattle.member.specs.Member as member
use Rattle.class_head.specs.Header as header
use Rattle.class.specs.Members as members
use Rattle.class.specs.Class as class
use Rattle.cases.specs.Wrongs.{Rejected}
use Rattle.cases.specs.Classes.{worked}
use Rattle.cases.proofs.Wrongs.{rejected}

pub worked_out : Rejected worked
unfolding text.same reads.within reads.u1 reads.u2 reads.u4 reads.skipped text.one_of text.none_of text.before text.begins text.form_length
    text.covered text.text_form text.is_text text.unqualified text.plain text.onto text.split text.all_of text.binary text.follows
    text.walked text.whole text.is_init text.is_clinit text.is_bootstrap_methods text.method_name descriptors.stands descriptors.class_length
    descriptors.on_more descriptors.base_length descriptors.type_length descriptors.depth descriptors.field_descriptor descriptors.array_descriptor
    descriptors.return_descriptor descriptors.closing descriptors.returned descriptors.method_descriptor descriptors.returns_void
    descriptors.takes_nothing answers.each tables.padded kind.has rows.row_of pool.second_width pool.wide pool.entry_at pool.slot_at pool.entries
    pool.all_entries pool.header_of pool.read_pool slot.tag_of slot.field slot.bytes_of slot.of_kind slot.text_at slot.text_of slot.class_name
    slot.class_text slot.typed checks.reference checks.references checks.handled checks.handle checks.member checks.name_and_type checks.obey
    checks.checked checks.pool bootstrap.is_bootstrap bootstrap.body_u2 bootstrap.index_at bootstrap.steps bootstrap.method_at
    bootstrap.bootstrap_body bootstrap.own_rule indices.bootstraps indices.below_each indices.dynamic indices.bootstrap_index
    indices.bootstrap_indices records.records slot.utf8_at attributes.attribute_at attributes.ruled attributes.record_at member.masked
    member.good_name member.good_type member.good_text member.shape member.good_shape member.alike member.twice member.text_in member.parts_at
    member.member_at header.class_at header.super_at header.head_at header.interface_at header.interfaces_at members.whole_at members.sort_at
    class.marked class.class_flags class.front_at class.end_at class.own_at class.tables_at class.class_file
worked_out = rejected worked refl
