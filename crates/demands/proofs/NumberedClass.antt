-- Which numbers the file after the pool can be refused with. Assumes nothing.
use mathlib.Core.Path.{◌≡◌, refl}
use mathlib.Core.Bool.{Bool, true, false, not}
use mathlib.Core.List.{List, ◌++◌}
use Prim.Native.Nat.{ℕ, ◌+◌}
use lib.ListN.{length}
use lib.Dec.{leb, ltb, eqb}
use Rattle.reads.specs.Answer.{require}
use Rattle.reads.specs.Bytes.{u2, u4, skipped}
use Rattle.text.specs.Text.{binary}
use Rattle.pool.specs.Pool.{Pool, slots}
use Rattle.slot.specs.Slots.{tag_of, field, bytes_of, in_range, of_kind, utf8_at}
use Rattle.checks.specs.Checks.{pool}
use Rattle.bootstrap.specs.Bootstrap.{is_bootstrap, handles, loadable, body_u2, index_at, steps, method_at, bootstrap_body, own_body, own_rule}
use Rattle.bootstrap.specs.Indices.{bootstraps, below_each, dynamic, bootstrap_index, bootstrap_indices}
use Rattle.reads.specs.Records.{column}
use Rattle.attributes.specs.Attributes.{attribute_at, ruled, record_at, body_end, framed}
use Rattle.member.specs.declared.Sort.{Sort}
use Rattle.member.specs.Member.{good_text, good_shape, twice, text_in, parts_at, member_at}
use Rattle.class_head.specs.Header.{class_at, super_at, head_at, interface_at, past, interfaces_at}
use Rattle.class.specs.Members.{Reached, whole_at, reach, sort_at, a_field, a_method}
use Rattle.class.specs.Class.{Rooms, marked, front_at, end_at, own_at, tables_at, class_file}
use Rattle.demands.specs.Calls.{Only, OnlyAt}
use Rattle.demands.specs.Numbers.{of_pool, of_end, of_body, of_indices, of_index, of_attribute, of_record, of_own, of_parts, of_member, of_members, of_class, of_head, of_interfaces, of_file}
use Rattle.demands.proofs.Only.{among, covers, done, then, need, pick, all, stepped, many, need_here, wide, wide_here, only}
use Rattle.demands.proofs.Numbered.{u2_at, u4_at, skipped_at, range_at, kind_only_at, text_only_at, pool_only}

-- ---- BootstrapMethods

module _ (p : Pool) (at end : ℕ) where
  pub body_u2_at : (i : ℕ) → OnlyAt of_end at (body_u2 p at end i)
  unfolding body_u2
  body_u2_at i = then (require (leb (i + 2) end) 18 at) _ (need_here (leb (i + 2) end) 18 at refl) (λ _ _. done _)

  index_only : (allowed i : ℕ) → Only of_body (index_at allowed p at end i)
  unfolding index_at
  index_only allowed i =
      then (body_u2 p at end i) _ (wide (only (body_u2_at i)) refl) (λ m _.
      then (in_range p i m) _ (wide (only (range_at p i m)) refl) (λ _ _.
      then (of_kind p i allowed m) _ (wide (only (kind_only_at p i allowed m)) refl) (λ _ _. done _)))

  method_only : (i : ℕ) → Only of_body (method_at p at end i)
  unfolding method_at
  method_only i =
      then (index_at handles p at end i) _ (index_only handles i) (λ j _.
      then (body_u2 p at end j) _ (wide (only (body_u2_at j)) refl) (λ k _.
      stepped (index_at loadable p at end) k (j + 2) (index_only loadable)))

  body_only : (start : ℕ) → Only of_body (bootstrap_body p at start end)
  unfolding bootstrap_body
  body_only start =
      then (body_u2 p at end start) _ (wide (only (body_u2_at start)) refl) (λ n _.
      then (steps (method_at p at end) n (start + 2)) _ (stepped (method_at p at end) n (start + 2) method_only) (λ next _.
      need (eqb next end) 18 at refl))

pub own_body_only : (p : Pool) (at name start end : ℕ) → Only of_body (own_body p at name start end)
own_body_only p at name start end = pick (is_bootstrap p name) _ _ (body_only p at end start) (done _)

pub own_only : (p : Pool) (at name start size : ℕ) → Only of_body (own_rule p at name start size)
unfolding own_rule
own_only p at name start size = own_body_only p at name start (start + size)

pub indices_only : (p : Pool) (names bodies : List ℕ) → Only of_indices (bootstrap_indices p names bodies)
unfolding bootstrap_indices bootstrap_index
indices_only p names bodies = all (slots p) 0 _ (λ n.
    pick (dynamic (tag_of p n)) _ _
    (then (require (below_each p (field p n 1) names bodies) 17 n) _ (need (below_each p (field p n 1) names bodies) 17 n refl) (λ _ _. need (eqb (bootstraps p names bodies) 1) 16 n refl))
    (done _))

-- ---- attributes

pub index_of_at : (p : Pool) (place m : ℕ) → OnlyAt of_index place (utf8_at p place m)
unfolding utf8_at
index_of_at p place m = then (in_range p place m) _ (wide_here (range_at p place m) refl) (λ _ _. wide_here (text_only_at p place m) refl)

attribute_only : (p : Pool) (at : ℕ) → Only of_attribute (attribute_at p at)
unfolding attribute_at
attribute_only p at =
    then (u2 p.file at) _ (wide (only (u2_at p.file at)) refl) (λ m _.
    then (utf8_at p at m) _ (wide (only (index_of_at p at m)) refl) (λ _ _.
    then (u4 p.file (at + 2)) _ (wide (only (u4_at p.file (at + 2))) refl) (λ size _.
    then (skipped p.file (at + 6) size) _ (wide (only (skipped_at p.file (at + 6) size)) refl) (λ _ _. done _))))

-- a member's attributes are not looked into
record_only : (p : Pool) (room n at : ℕ) → Only of_record (record_at false p room n at)
unfolding record_at ruled
record_only p room n at =
    then (attribute_at p at) _ (wide (attribute_only p at) refl) (λ a _.
    then (require (ltb n room) 13 at) _ (need (ltb n room) 13 at refl) (λ _ _. done _))

pub own_record_only : (own : Bool) (p : Pool) (room n at : ℕ) → Only of_own (record_at own p room n at)
unfolding record_at ruled
own_record_only own p room n at =
    then (attribute_at p at) _ (wide (attribute_only p at) refl) (λ a _.
    then (ruled own p at a) _ (pick own _ _ (wide (own_only p at a.name a.start a.size) refl) (done _)) (λ _ _.
    then (require (ltb n room) 13 at) _ (need (ltb n room) 13 at refl) (λ _ _. done _)))

framed_only : (p : Pool) (room k n at : ℕ) → Only of_record (framed false p room k n at)
framed_only p room k n at = many (record_at false p room) body_end k n at (record_only p room)

own_framed_only : (p : Pool) (room k n at : ℕ) → Only of_own (framed true p room k n at)
own_framed_only p room k n at = many (record_at true p room) body_end k n at (own_record_only true p room)

-- ---- members

module _ (k : Sort) (p : Pool) where
  pub text_in_at : (nr place m : ℕ) {ns : List ℕ} → covers ns of_index ≡ true → among nr ns ≡ true → OnlyAt ns place (text_in k nr p place m)
  unfolding text_in
  text_in_at nr place m h g = then (utf8_at p place m) _ (wide_here (index_of_at p place m) h) (λ _ _. need_here (good_text k nr (bytes_of p m)) nr place g)

  parts_only : (at name type : ℕ) → Only of_parts (parts_at k p at name type)
  unfolding parts_at
  parts_only at name type =
      then (text_in k 10 p (at + 2) name) _ (only (text_in_at 10 (at + 2) name refl refl)) (λ _ _.
      then (text_in k 11 p (at + 4) type) _ (only (text_in_at 11 (at + 4) type refl refl)) (λ _ _.
      need (good_shape k p name type) 15 at refl))

  pub member_only : (room n at : ℕ) (names types : List ℕ) → Only of_member (member_at k p room n at names types)
  unfolding member_at
  member_only room n at names types =
      then (u2 p.file at) _ (wide (only (u2_at p.file at)) refl) (λ flags _.
      then (u2 p.file (at + 2)) _ (wide (only (u2_at p.file (at + 2))) refl) (λ name _.
      then (u2 p.file (at + 4)) _ (wide (only (u2_at p.file (at + 4))) refl) (λ type _.
      then (parts_at k p at name type) _ (wide (parts_only at name type) refl) (λ _ _.
      then (require (not (twice p name type names types)) 14 at) _ (need (not (twice p name type names types)) 14 at refl) (λ _ _.
      then (require (ltb n room) 13 at) _ (need (ltb n room) 13 at refl) (λ _ _.
      then (u2 p.file (at + 6)) _ (wide (only (u2_at p.file (at + 6))) refl) (λ _ _. done _)))))))

  whole_only : (room limit n : ℕ) (s : Reached) → Only of_members (whole_at k p room limit n s)
  unfolding whole_at
  whole_only room limit n s =
      then (member_at k p room n s.at s.names s.types) _ (wide (member_only room n s.at s.names s.types) refl) (λ m _.
      then (framed false p limit m.count s.used (s.at + 8)) _ (wide (framed_only p limit m.count s.used (s.at + 8)) refl) (λ _ _. done _))

  sort_only : (room limit n at used : ℕ) → Only of_members (sort_at k p room limit n at used)
  unfolding sort_at
  sort_only room limit n at used = then (u2 p.file at) _ (wide (only (u2_at p.file at)) refl) (λ c _. many (whole_at k p room limit) reach c n _ (whole_only room limit))

-- ---- the header and the interfaces

module _ (p : Pool) where
  pub class_only_at : (place m : ℕ) → OnlyAt of_class place (class_at p place m)
  unfolding class_at
  class_only_at place m =
      then (in_range p place m) _ (wide_here (range_at p place m) refl) (λ _ _.
      then (of_kind p place _ m) _ (wide_here (kind_only_at p place _ m) refl) (λ _ _.
      need_here (binary (bytes_of p (field p m 1))) 10 place refl))

  pub super_only_at : (place m : ℕ) → OnlyAt of_class place (super_at p place m)
  unfolding super_at
  super_only_at place m = pick (eqb m 0) _ _ (done _) (class_only_at place m)

  pub head_only : (at : ℕ) → Only of_head (head_at p at)
  unfolding head_at
  head_only at =
      then (u2 p.file at) _ (wide (only (u2_at p.file at)) refl) (λ flags _.
      then (u2 p.file (at + 2)) _ (wide (only (u2_at p.file (at + 2))) refl) (λ this _.
      then (class_at p (at + 2) this) _ (wide (only (class_only_at (at + 2) this)) refl) (λ _ _.
      then (u2 p.file (at + 4)) _ (wide (only (u2_at p.file (at + 4))) refl) (λ super _.
      then (super_at p (at + 4) super) _ (wide (only (super_only_at (at + 4) super)) refl) (λ _ _. done _)))))

  interface_only : (room n at : ℕ) → Only of_interfaces (interface_at p room n at)
  unfolding interface_at
  interface_only room n at =
      then (u2 p.file at) _ (wide (only (u2_at p.file at)) refl) (λ m _.
      then (class_at p at m) _ (wide (only (class_only_at at m)) refl) (λ _ _.
      then (require (ltb n room) 13 at) _ (need (ltb n room) 13 at refl) (λ _ _. done _)))

  pub interfaces_only : (room at : ℕ) → Only of_interfaces (interfaces_at p room at)
  unfolding interfaces_at
  interfaces_only room at = then (u2 p.file at) _ (wide (only (u2_at p.file at)) refl) (λ k _. many (interface_at p room) past k 0 (at + 2) (interface_only room))

-- ---- what comes after them, and the whole file

module _ (p : Pool) where
  end_only : (end : ℕ) (names bodies : List ℕ) → Only (of_end ++ of_indices) (end_at p end names bodies)
  unfolding end_at
  end_only end names bodies = then (require (eqb end (length p.file)) 18 end) _ (need (eqb end (length p.file)) 18 end refl) (λ _ _. wide (indices_only p names bodies) refl)

  own_at_only : (limit used at : ℕ) → Only (of_own ++ of_indices) (own_at p limit used at)
  unfolding own_at
  own_at_only limit used at =
      then (u2 p.file at) _ (wide (only (u2_at p.file at)) refl) (λ k _.
      then (framed true p limit k used (at + 2)) _ (wide (own_framed_only p limit k used (at + 2)) refl) (λ own _.
      then (end_at p own.end (column (λ a. a.name) own) (column (λ a. a.start) own)) _ (wide (end_only own.end (column (λ a. a.name) own) (column (λ a. a.start) own)) refl) (λ _ _. done _)))

  tables_only : (interface : Bool) (room limit at : ℕ) → Only (of_members ++ of_own ++ of_indices) (tables_at interface p room limit at)
  unfolding tables_at
  tables_only interface room limit at =
      then (sort_at a_field p room limit 0 at 0) _ (wide (sort_only a_field p room limit 0 at 0) refl) (λ fs _.
      let m = a_method interface in
      then (sort_at m p room limit (length fs.list) fs.end.at fs.end.used) _ (wide (sort_only m p room limit (length fs.list) fs.end.at fs.end.used) refl) (λ ms _.
      then (own_at p limit ms.end.used ms.end.at) _ (wide (own_at_only limit ms.end.used ms.end.at) refl) (λ _ _. done _)))

module _ (s : List ℕ) where
  front_only : (room len : ℕ) → Only (of_pool ++ of_interfaces) (front_at s room len)
  unfolding front_at
  front_only room len =
      then (pool s room) _ (wide (pool_only s room) refl) (λ w _.
      then (head_at w.pool w.next) _ (wide (head_only w.pool w.next) refl) (λ _ _.
      then (interfaces_at w.pool len (w.next + 6)) _ (wide (interfaces_only w.pool len (w.next + 6)) refl) (λ _ _. done _)))

  pub file_only : (rooms : Rooms) → Only of_file (class_file s rooms)
  unfolding class_file
  file_only rooms =
      then (front_at s rooms.cells rooms.interfaces) _ (wide (front_only rooms.cells rooms.interfaces) refl) (λ f _.
      let i = marked f.head.flags in
      then (tables_at i f.pool.pool rooms.members rooms.attributes f.next) _ (wide (tables_only f.pool.pool i rooms.members rooms.attributes f.next) refl) (λ _ _. done _))
