-- `descriptors::base_length` meets its contract. The first byte decides. Assumes nothing.
use Prim.Native.Nat.{◌<◌}
use native.Mathlib.Omega.{arith}
use mathlib.Core.Path.{sym}
use lib.ListN.{length, drop, length-drop}
use borrow.Author.Tests.{eq-eqb, ne_eqb}
use Rattle.descriptors.proofs.Types.{class_in, base_none, base_some, more_no, more_yes}
use Rattle.text.proofs.Runs.{part}
use Rattle.descriptors.proofs.base_length.Goals as goal

pub returns-then-s-eq0 : goal.returns-then-s-eq0
returns-then-s-eq0 c = sym (base_none _ c.if-s-eq0.true)

pub returns-then-is_letter : goal.returns-then-is_letter
returns-then-is_letter c =
    let h : 0 < length c.args.s.now = omega arith in
    simp (base_some, ← c.is_letter.ensures, c.if-is_letter.true)

pub returns-then-b-ne76 : goal.returns-then-b-ne76
returns-then-b-ne76 c =
    let h : 0 < length c.args.s.now = omega arith in
    simp (base_some, ← c.is_letter.ensures, c.if-is_letter.false, ne_eqb _ _ c.if-b-ne76.true)

pub overflow_add-result : goal.overflow_add-result
overflow_add-result c =
    let e = rw part at c.class_length-n.ensures in
    omega (arith, class_in (drop 1 c.args.s.now), length-drop 1 c.args.s.now)

pub returns-then-n-eq0 : goal.returns-then-n-eq0
returns-then-n-eq0 c =
    let h : 0 < length c.args.s.now = omega arith in
    let e = rw part at c.class_length-n.ensures in
    simp (base_some, ← c.is_letter.ensures, c.if-is_letter.false, eq-eqb _ _ c.if-b-ne76.false, ← e) (more_no _ _ c.if-n-eq0.true)

pub returns-else-n-eq0 : goal.returns-else-n-eq0
returns-else-n-eq0 c =
    let h : 0 < length c.args.s.now = omega arith in
    let e = rw part at c.class_length-n.ensures in
    simp (base_some, ← c.is_letter.ensures, c.if-is_letter.false, eq-eqb _ _ c.if-b-ne76.false, ← e) (more_yes _ _ c.if-n-eq0.false)
