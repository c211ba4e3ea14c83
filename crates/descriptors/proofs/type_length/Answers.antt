-- `descriptors::type_length` meets its contract. A field type is its `[` and a type with none. Assumes nothing.
use native.Mathlib.Omega.{arith}
use Rattle.descriptors.proofs.Types.{depth_le, base_fits, type_depth, more_no, more_yes}
use Rattle.text.proofs.Runs.{part}
use Rattle.descriptors.proofs.type_length.Goals as goal

pub slice_bounds-base_length-count : goal.slice_bounds-base_length-count
slice_bounds-base_length-count c = omega (arith, depth_le c.args.s.now)

pub slice_bounds-base_length-start : goal.slice_bounds-base_length-start
slice_bounds-base_length-start c = omega (arith, depth_le c.args.s.now)

pub overflow_add-result : goal.overflow_add-result
overflow_add-result c =
    let e = rw (part, c.dimensions-d.ensures) at c.base_length-n.ensures in
    omega (arith, base_fits c.args.s.now)

pub returns-then-n-eq0 : goal.returns-then-n-eq0
returns-then-n-eq0 c = simp (type_depth, ← c.dimensions-d.ensures, ← (rw part at c.base_length-n.ensures)) (more_no _ _ c.if-n-eq0.true)

pub returns-else-n-eq0 : goal.returns-else-n-eq0
returns-else-n-eq0 c = simp (type_depth, ← c.dimensions-d.ensures, ← (rw part at c.base_length-n.ensures)) (more_yes _ _ c.if-n-eq0.false)
