-- `script::bytes` meets its contract. Assumes nothing.
use Rattle.std.proofs.Common.{◌<◌, sym, ◌∙◌, ap, arith, length, set, ◌+◌, ◌≡◌}
use Rattle.std.proofs.lemmas.List.{set-get_or, length-set}
use Rattle.script.specs.Script.{filled}
use Rattle.script.proofs.Scripts.{part, filled_short, filled_none, filled_full, filled_on}
use Rattle.script.proofs.bytes.Goals as goal

pub returns-in_default-clause-says : goal.returns-in_default-clause-says
returns-in_default-clause-says c = rw set-get_or (sym (filled_short _ _ _ c.in_default.len_below) ∙ c.loop-n.invariant.1)

pub returns-in_default-join-clause-says : goal.returns-in_default-join-clause-says
returns-in_default-join-clause-says c = rw set-get_or (sym (filled_none _ _ _ c.in-len2-up.len_at_least (omega (arith, c.loop-n-test.true, c.loop-n.auto.out)) c.in_default-join.ensures) ∙ c.loop-n.invariant.1)

pub loop-n-preserved : goal.loop-n-preserved
loop-n-preserved c =
    let room : c.loop-n.n < length c.loop-n.out = omega (arith, c.loop-n-test.true, c.loop-n.auto.out) in
    let rest = ap (λ w. filled w (set c.loop-n.out c.loop-n.n c.in-Some.b) (c.loop-n.n + 1)) (part 2 c.loop-n.left.now) in
    let pair = filled_on c.loop-n.left.now c.loop-n.out c.loop-n.n c.in-Some.b c.in-len2-up.len_at_least room c.in-Some.ensures in
    (simp length-set (omega arith), rest ∙ sym pair ∙ c.loop-n.invariant.1)

pub returns-clause-says : goal.returns-clause-says
returns-clause-says c = let e = filled_full c.loop-n.left.now c.loop-n.out c.loop-n.n (omega arith) in let k : length c.loop-n.out ≡ c.loop-n.n = omega arith in rw k (sym e ∙ c.loop-n.invariant.1)
