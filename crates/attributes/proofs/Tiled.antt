-- Attributes that were framed tile the file in order: every name is a Utf8 text of the pool, every body lies in the file. Assumes nothing.
use mathlib.Core.Path.{◌≡◌, refl, sym, subst}
use mathlib.Core.Bool.{Bool, true}
use mathlib.Core.List.{List, [], ◌∷◌}
use Prim.Native.Nat.{ℕ, zero, suc, ◌+◌, ◌*◌, ◌≤◌}
use native.Mathlib.Omega.{arith}
use lib.ListN.{length}
use lib.Dec.{ltb, eqb}
use borrow.Author.Tests.{ltb-true, eqb-true}
use Rattle.reads.specs.Answer.{accept, fine}
use Rattle.reads.specs.Bytes.{u2, u4, skipped}
use Rattle.reads.proofs.Answers.{same, first, held, required}
use Rattle.reads.proofs.Leaves.{skipped_in}
use Rattle.text.specs.Text.{is_text}
use Rattle.pool.specs.Kinds as kind
use Rattle.pool.specs.Pool.{Pool, slots}
use Rattle.pool.proofs.Sets.{all_at}
use Rattle.slot.specs.Slots.{tag_of, bytes_of, of_kind, text_at, utf8_at}
use Rattle.attributes.specs.declared.Attribute.{Attribute}
use Rattle.reads.specs.Records.{Many, records}
use Rattle.attributes.specs.Attributes.{attribute_at, ruled, record_at, body_end, framed}
use Rattle.attributes.specs.Sound.{Named, Sound, Tiles}

-- ---- one attribute

utf8_only : (t : ℕ) → kind.has (kind.set_of (kind.utf8 ∷ [])) t ≡ true → t ≡ kind.utf8
unfolding kind.has
utf8_only t e = eqb-true t kind.utf8 (all_at (kind.set_of (kind.utf8 ∷ [])) (λ u. eqb u kind.utf8) refl t e)

pub named_by : (p : Pool) (place m : ℕ) → fine ≡ utf8_at p place m → Named p m
unfolding utf8_at text_at of_kind
named_by p place m e =
    let a = held (ltb m (slots p)) 7 place _ tt e in
    let b = held (kind.has (kind.set_of (kind.utf8 ∷ [])) (tag_of p m)) 8 place _ tt a.1 in
    record {
      slot = ltb-true m (slots p) a.0;
      utf8 = utf8_only (tag_of p m) b.0;
      text = required (is_text (bytes_of p m)) 9 place b.1;
    }

pub attribute_sound : (p : Pool) (at : ℕ) (a : Attribute) → accept a ≡ attribute_at p at → Sound p at a
unfolding attribute_at
attribute_sound p at a e =
    let m = first (u2 p.file at) _ a e in
    let n = first (utf8_at p at m.0) _ a m.2 in
    let s = first (u4 p.file (at + 2)) _ a n.2 in
    let b = first (skipped p.file (at + 6) s.0) _ a s.2 in
    subst (λ (x : Attribute). Sound p at x) (sym (same b.2))
    (record {
      named = named_by p at m.0 n.1;
      begins = refl;
      inside = (skipped_in p.file (at + 6) s.0 b.0 b.1).0;
    })

-- its body lies in the file
pub body_fits : (p : Pool) (at : ℕ) (a : Attribute) → accept a ≡ attribute_at p at → a.start + a.size ≤ length p.file
body_fits p at a e = (attribute_sound p at a e).inside

pub record_sound : (own : Bool) (p : Pool) (room n at : ℕ) (a : Attribute) → accept a ≡ record_at own p room n at → Sound p at a
unfolding record_at
record_sound own p room n at a e =
    let t = first (attribute_at p at) _ a e in
    let u = first (ruled own p at t.0) _ a t.2 in
    let v = held (ltb n room) 13 at _ a u.2 in
    subst (λ (x : Attribute). Sound p at x) (sym (same v.1)) (attribute_sound p at t.0 t.1)

-- ---- all

module _ (own : Bool) (p : Pool) (room : ℕ) where
  pub tiled : (k n at : ℕ) (m : Many Attribute ℕ) → accept m ≡ framed own p room k n at → Tiles p at m.list m.end
  unfolding records
  tiled zero n at m e = subst (λ (x : Many Attribute ℕ). Tiles p at x.list x.end) (sym (same e)) refl
  tiled (suc k) n at m e =
      let t = first (record_at own p room n at) _ m e in
      let u = first (framed own p room k (n + 1) (body_end t.0 at)) _ m t.2 in
      subst (λ (x : Many Attribute ℕ). Tiles p at x.list x.end) (sym (same u.2))
      (record_sound own p room n at t.0 t.1, tiled k (n + 1) (body_end t.0 at) u.0 u.1)

-- tiles reach at least six bytes further each, and no further than the file
module _ (p : Pool) where
  pub tiles_far : (at : ℕ) (list : List Attribute) (end : ℕ) → Tiles p at list end → at + length list * 6 ≤ end
  tiles_far at [] end h = omega arith
  tiles_far at (a ∷ rest) end h = omega (arith, tiles_far (a.start + a.size) rest end h.1, h.0.begins)

  pub tiles_in : (at : ℕ) (list : List Attribute) (end : ℕ) → at ≤ length p.file → Tiles p at list end → end ≤ length p.file
  tiles_in at [] end l h = omega arith
  tiles_in at (a ∷ rest) end l h = tiles_in (a.start + a.size) rest end h.0.inside h.1
