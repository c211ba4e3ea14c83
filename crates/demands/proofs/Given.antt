-- Files that are refused with each number: no list of numbers has one that is never given. Assumes nothing.
use Prim.Native.Nat.{ℕ, ◌<◌}
use mathlib.Core.Path.{◌≡◌, refl}
use mathlib.Core.Bool.{true}
use mathlib.Core.List.Memᴰ
use mathlib.Core.List.{List, [], ◌∷◌, ◌++◌}
use mathlib.Core.Logic.{⊎_elim}
use lib.ListN.{length, replicate, length-replicate}
use native.Mathlib.Omega.{arith}
use borrow.Author.Tests.{lt-leb}
use Rattle.reads.specs.Answer.{Answer, refuse, each}
use Rattle.reads.specs.Bytes.{within, u1, u2, u4, skipped}
use Rattle.text.specs.Text.{one_of, none_of, before, same, begins, form_length, covered, text_form, is_text, unqualified, onto, split, all_of, binary, follows, walked, whole, is_init, is_clinit, bootstrap_methods, is_bootstrap_methods, method_name, escape, module_byte, module_form, module_name}
use Rattle.descriptors.specs.Descriptors.{stands, class_length, on_more, base_length, type_length, depth, field_descriptor, array_descriptor, return_descriptor, closing, returned, method_descriptor, returns_void, takes_nothing}
use Rattle.pool.specs.Kinds.{has}
use Rattle.pool.specs.Rows.{row_of}
use Rattle.pool.specs.Pool.{Pool, second_width, wide, entry_at, slot_at, entries, all_entries, header_of, read_pool}
use Rattle.slot.specs.Slots.{tag_of, field, bytes_of, of_kind, text_at, utf8_at, text_of, class_name, class_text, typed}
use Rattle.checks.specs.Checks.{reference, references, handled, handle, member, name_and_type, obey, checked, pool}
use Rattle.handed.specs.Handed.{agree, judged, no_limit, handed, lookup}
use Rattle.bootstrap.specs.Bootstrap.{is_bootstrap, body_u2, index_at, steps, method_at, bootstrap_body, own_rule}
use Rattle.bootstrap.specs.Indices.{bootstraps, below_each, dynamic, bootstrap_index, bootstrap_indices}
use Rattle.reads.specs.Records.{records}
use Rattle.attributes.specs.Attributes.{attribute_at, ruled, record_at}
use Rattle.member.specs.Member.{masked, good_name, good_type, good_text, shape, good_shape, alike, twice, text_in, parts_at, member_at}
use Rattle.class_head.specs.Header.{class_at, super_at, head_at, interface_at, interfaces_at}
use Rattle.class.specs.Members.{whole_at, sort_at}
use Rattle.class.specs.Class.{Rooms, marked, front_at, end_at, own_at, tables_at, class_file}
use Rattle.reach.specs.Reach.{◌∈◌, named, refers_to, any_of, reaches, sieve, dependants_in}
use Rattle.dependants.specs.Dependants.{dependants_at, dependants}
use Rattle.cases.specs.Cases.{at_major, file_e, file_o, table_o}
use Rattle.demands.specs.Numbers.{of_pool, of_handed, of_dependants, of_file}
use Rattle.demands.proofs.Only.{covers, covered as has_all}

-- each number of a list
abbrev Each : (ℕ → Type 0) → List ℕ → Type 0
Each P [] = Unit {0}
Each P (n ∷ ns) = P n × Each P ns

infixr 5 ◌&◌
◌&◌ : {A B : Type 0} → A → B → A × B
◌&◌ a b = (a, b)

one_held : (P : ℕ → Type 0) (ns : List ℕ) → Each P ns → (n : ℕ) → n ∈ ns → P n
one_held P [] h n m = absurd (Memᴰ.not-nil m)
one_held P (k ∷ ks) h n m = ⊎_elim (λ e. rw e h.0) (λ l. one_held P ks h.1 n l) (Memᴰ.cases_cons m)

-- .. and each of another list that has no further ones
each_of : (P : ℕ → Type 0) (ns : List ℕ) → Each P ns → (ms : List ℕ) → covers ns ms ≡ true → (n : ℕ) → n ∈ ms → P n
each_of P ns h ms k n m = one_held P ns h n (has_all ns ms k n m)

-- ---- the pool call

abbrev PoolGives : ℕ → Type 0
PoolGives nr = (s : List ℕ) × (room : ℕ) × (place : ℕ) × (refuse nr place ≡ pool s room)

abbrev from2 : List ℕ
from2 = 2 ∷ 3 ∷ 4 ∷ 5 ∷ 6 ∷ 7 ∷ 8 ∷ 9 ∷ 10 ∷ 11 ∷ []

some_pools : Each PoolGives from2
unfolding one_of none_of before same begins form_length covered text_form is_text unqualified onto split all_of binary follows walked whole is_init is_clinit
    method_name escape module_byte module_form module_name stands class_length on_more base_length type_length depth field_descriptor array_descriptor
    return_descriptor closing returned method_descriptor returns_void takes_nothing within u1 u2 u4 skipped each row_of second_width wide entry_at slot_at
    entries all_entries header_of read_pool tag_of field bytes_of reference references has of_kind handled handle text_at text_of class_name class_text typed
    member name_and_type obey checked pool
some_pools =
    ([], 1, 0, refl)
    & (0 ∷ 0 ∷ 0 ∷ 0 ∷ [], 1, 0, refl)
    & (at_major 50 (0 ∷ 2 ∷ 0x10 ∷ 0 ∷ 0 ∷ []), 2, 10, refl)
    & (at_major 52 (0 ∷ 1 ∷ []), 0, 0, refl)
    & (at_major 52 (0 ∷ 2 ∷ 7 ∷ 0 ∷ 1 ∷ []), 3, 1, refl)
    & (at_major 52 (0 ∷ 2 ∷ 7 ∷ 0 ∷ 2 ∷ []), 3, 1, refl)
    & (at_major 52 (0 ∷ 2 ∷ 7 ∷ 0 ∷ 0 ∷ []), 3, 1, refl)
    & (at_major 52 (0 ∷ 3 ∷ 7 ∷ 0 ∷ 2 ∷ 1 ∷ 0 ∷ 3 ∷ 0xED ∷ 0xA0 ∷ 0x80 ∷ []), 3, 1, refl)
    & (at_major 52 (0 ∷ 3 ∷ 7 ∷ 0 ∷ 2 ∷ 1 ∷ 0 ∷ 0 ∷ []), 3, 1, refl)
    & (at_major 52 (0 ∷ 3 ∷ 7 ∷ 0 ∷ 2 ∷ 1 ∷ 0 ∷ 2 ∷ 0x5B ∷ 0x56 ∷ []), 3, 1, refl)
    & tt

-- a file that is too long
long_read : (s : List ℕ) (room : ℕ) → 16777216 < length s → refuse 1 0 ≡ read_pool s room
unfolding read_pool header_of
long_read s room h = rw (lt-leb (length s) 16777216 h) refl

long_pool : (n : ℕ) → 16777216 < n → PoolGives 1
unfolding pool
long_pool n h = (replicate n 0, 0, 0, rw (← long_read (replicate n 0) 0 (omega (arith, length-replicate {A = ℕ} n 0))) refl)

pub pool_gives : (nr : ℕ) → nr ∈ of_pool → PoolGives nr
pool_gives = each_of PoolGives (1 ∷ from2) (long_pool 16777217 (omega arith) & some_pools) of_pool refl

-- ---- a handed table, and with it every lookup

abbrev HandedGives : ℕ → Type 0
HandedGives nr = (s : List ℕ) × (table : List ℕ) × (place : ℕ) × (refuse nr place ≡ handed s table)

long_handed : (n : ℕ) → 16777216 < n → HandedGives 1
unfolding handed
long_handed n h = (replicate n 0, [], 0, rw (← long_read (replicate n 0) no_limit (omega (arith, length-replicate {A = ℕ} n 0))) refl)

abbrev but5 : List ℕ
but5 = 2 ∷ 3 ∷ 4 ∷ 6 ∷ 7 ∷ 8 ∷ 9 ∷ 10 ∷ 11 ∷ 12 ∷ []

some_handed : Each HandedGives but5
unfolding one_of none_of before same begins form_length covered text_form is_text unqualified onto split all_of binary follows walked whole is_init is_clinit
    method_name escape module_byte module_form module_name stands class_length on_more base_length type_length depth field_descriptor array_descriptor
    return_descriptor closing returned method_descriptor returns_void takes_nothing within u1 u2 u4 skipped each row_of second_width wide entry_at slot_at
    entries all_entries header_of read_pool tag_of field bytes_of reference references has of_kind handled handle text_at text_of class_name class_text typed
    member name_and_type obey checked pool agree judged handed
some_handed =
    ([], [], 0, refl)
    & (0 ∷ 0 ∷ 0 ∷ 0 ∷ [], [], 0, refl)
    & (at_major 50 (0 ∷ 2 ∷ 0x10 ∷ 0 ∷ 0 ∷ []), [], 10, refl)
    & (at_major 52 (0 ∷ 2 ∷ 7 ∷ 0 ∷ 1 ∷ []), 0 ∷ 10 ∷ [], 1, refl)
    & (at_major 52 (0 ∷ 2 ∷ 7 ∷ 0 ∷ 2 ∷ []), 0 ∷ 10 ∷ [], 1, refl)
    & (at_major 52 (0 ∷ 2 ∷ 7 ∷ 0 ∷ 0 ∷ []), 0 ∷ 10 ∷ [], 1, refl)
    & (at_major 52 (0 ∷ 3 ∷ 7 ∷ 0 ∷ 2 ∷ 1 ∷ 0 ∷ 3 ∷ 0xED ∷ 0xA0 ∷ 0x80 ∷ []), 0 ∷ 10 ∷ 13 ∷ [], 1, refl)
    & (at_major 52 (0 ∷ 3 ∷ 7 ∷ 0 ∷ 2 ∷ 1 ∷ 0 ∷ 0 ∷ []), 0 ∷ 10 ∷ 13 ∷ [], 1, refl)
    & (at_major 52 (0 ∷ 3 ∷ 7 ∷ 0 ∷ 2 ∷ 1 ∷ 0 ∷ 2 ∷ 0x5B ∷ 0x56 ∷ []), 0 ∷ 10 ∷ 13 ∷ [], 1, refl)
    & (file_e, 0 ∷ 11 ∷ [], 1, refl)
    & tt

handed_gives : (nr : ℕ) → nr ∈ of_handed → HandedGives nr
handed_gives = each_of HandedGives (1 ∷ but5) (long_handed 16777217 (omega arith) & some_handed) of_handed refl

pub lookup_gives : {A : Type 0} (f : Pool → Answer A) (nr : ℕ) → nr ∈ of_handed → (s : List ℕ) × (table : List ℕ) × (place : ℕ) × (refuse nr place ≡ lookup s table f)
unfolding lookup
lookup_gives f nr m = let h = handed_gives nr m in (h.0, h.1, h.2, rw (← h.3) refl)

-- ---- the dependants

abbrev DependantsGives : ℕ → Type 0
DependantsGives nr = (s : List ℕ) × (table : List ℕ) × (n : ℕ) × (room : ℕ) × (place : ℕ) × (refuse nr place ≡ dependants s table n room)

list_too_long : DependantsGives 13
unfolding one_of none_of before same begins form_length covered text_form is_text unqualified onto split all_of binary follows walked whole is_init is_clinit
    method_name escape module_byte module_form module_name stands class_length on_more base_length type_length depth field_descriptor array_descriptor
    return_descriptor closing returned method_descriptor returns_void takes_nothing within u1 u2 u4 skipped each row_of second_width wide entry_at slot_at
    entries all_entries header_of read_pool tag_of field bytes_of reference references has of_kind handled handle text_at text_of class_name class_text typed
    member name_and_type obey checked pool agree judged handed lookup named refers_to any_of reaches sieve dependants_in dependants_at
list_too_long = (file_o, table_o, 5, 3, 4, refl)

not_listed : (nr : ℕ) → nr ∈ of_handed → DependantsGives nr
not_listed nr m = let h = lookup_gives (dependants_at 0 0) nr m in (h.0, h.1, 0, 0, h.2, h.3)

pub dependants_gives : (nr : ℕ) → nr ∈ of_dependants → DependantsGives nr
dependants_gives nr m = ⊎_elim (λ k. not_listed nr k) (λ k. let z = Memᴰ.eq_of_singleton k in rw z list_too_long) (Memᴰ.append_cases of_handed m)

-- ---- a whole file

abbrev FileGives : ℕ → Type 0
FileGives nr = (s : List ℕ) × (rooms : Rooms) × (place : ℕ) × (refuse nr place ≡ class_file s rooms)

abbrev with_rooms : ℕ → ℕ → ℕ → ℕ → Rooms
with_rooms c i m a = record { cells = c; interfaces = i; members = m; attributes = a }

-- class A, without flags and without a super class, and with the texts A and I
abbrev plain : List ℕ → List ℕ
plain rest = at_major 52 (0 ∷ 4 ∷ 7 ∷ 0 ∷ 2 ∷ 1 ∷ 0 ∷ 1 ∷ 0x41 ∷ 1 ∷ 0 ∷ 1 ∷ 0x49 ∷ 0 ∷ 0 ∷ 0 ∷ 1 ∷ 0 ∷ 0 ∷ rest)

-- ... with the texts A, <init> and ()I
abbrev making : List ℕ → List ℕ
making rest = at_major 52 (0 ∷ 5 ∷ 7 ∷ 0 ∷ 2 ∷ 1 ∷ 0 ∷ 1 ∷ 0x41 ∷ 1 ∷ 0 ∷ 6 ∷ 0x3C ∷ 0x69 ∷ 0x6E ∷ 0x69 ∷ 0x74 ∷ 0x3E ∷ 1 ∷ 0 ∷ 3 ∷ 0x28 ∷ 0x29 ∷ 0x49 ∷ 0 ∷ 0 ∷ 0 ∷ 1 ∷ 0 ∷ 0 ∷ rest)

-- ... with an InvokeDynamic, and the texts A, ()V and BootstrapMethods
abbrev calling : List ℕ → List ℕ
calling rest = at_major 52 (0 ∷ 7 ∷ 7 ∷ 0 ∷ 2 ∷ 1 ∷ 0 ∷ 1 ∷ 0x41 ∷ 18 ∷ 0 ∷ 0 ∷ 0 ∷ 4 ∷ 12 ∷ 0 ∷ 2 ∷ 0 ∷ 5 ∷ 1 ∷ 0 ∷ 3 ∷ 0x28 ∷ 0x29 ∷ 0x56 ∷ 1 ∷ 0 ∷ 16 ∷ bootstrap_methods ++ 0 ∷ 0 ∷ 0 ∷ 1 ∷ 0 ∷ 0 ∷ rest)

abbrev from13 : List ℕ
from13 = 13 ∷ 14 ∷ 15 ∷ 16 ∷ 17 ∷ 18 ∷ []

some_files : Each FileGives from13
unfolding one_of none_of before same begins form_length covered text_form is_text unqualified onto split all_of binary follows walked whole is_init is_clinit
    method_name escape module_byte module_form module_name stands class_length on_more base_length type_length depth field_descriptor array_descriptor
    return_descriptor closing returned method_descriptor returns_void takes_nothing within u1 u2 u4 skipped each row_of second_width wide entry_at slot_at
    entries all_entries header_of read_pool tag_of field bytes_of reference references has of_kind handled handle text_at text_of class_name class_text typed
    member name_and_type obey checked pool is_bootstrap_methods records utf8_at attribute_at ruled record_at is_bootstrap body_u2 index_at steps method_at
    bootstrap_body own_rule bootstraps below_each dynamic bootstrap_index bootstrap_indices masked good_name good_type good_text shape good_shape alike twice
    text_in parts_at member_at class_at super_at head_at interface_at interfaces_at whole_at sort_at end_at own_at tables_at marked front_at class_file
some_files =
    (plain (0 ∷ 1 ∷ 0 ∷ 1 ∷ []), with_rooms 4 0 0 0, 29, refl)
    & (plain (0 ∷ 0 ∷ 0 ∷ 2 ∷ 0 ∷ 0 ∷ 0 ∷ 2 ∷ 0 ∷ 3 ∷ 0 ∷ 0 ∷ 0 ∷ 0 ∷ 0 ∷ 2 ∷ 0 ∷ 3 ∷ 0 ∷ 0 ∷ []), with_rooms 4 0 2 0, 39, refl)
    & (making (0 ∷ 0 ∷ 0 ∷ 0 ∷ 0 ∷ 1 ∷ 0 ∷ 0 ∷ 0 ∷ 3 ∷ 0 ∷ 4 ∷ 0 ∷ 0 ∷ []), with_rooms 5 0 1 0, 44, refl)
    & (calling (0 ∷ 0 ∷ 0 ∷ 0 ∷ 0 ∷ 0 ∷ 0 ∷ 0 ∷ []), with_rooms 7 0 0 0, 3, refl)
    & (calling (0 ∷ 0 ∷ 0 ∷ 0 ∷ 0 ∷ 0 ∷ 0 ∷ 1 ∷ 0 ∷ 6 ∷ 0 ∷ 0 ∷ 0 ∷ 2 ∷ 0 ∷ 0 ∷ []), with_rooms 7 0 0 1, 3, refl)
    & (plain (0 ∷ 0 ∷ 0 ∷ 0 ∷ 0 ∷ 0 ∷ 0 ∷ 0 ∷ 0 ∷ []), with_rooms 4 0 0 0, 35, refl)
    & tt

not_pool : (nr : ℕ) → nr ∈ of_pool → FileGives nr
unfolding class_file front_at
not_pool nr m = let h = pool_gives nr m in (h.0, with_rooms h.1 0 0 0, h.2, rw (← h.3) refl)

pub file_gives : (nr : ℕ) → nr ∈ of_file → FileGives nr
file_gives nr m = ⊎_elim (λ k. not_pool nr k) (λ k. one_held FileGives from13 some_files nr k) (Memᴰ.append_cases of_pool (has_all (of_pool ++ from13) of_file refl nr m))
