-- `bootstrap::gather` meets its contract. Assumes nothing.
use Rattle.std.proofs.Common.{arith, rules, ap, length, ◌∙◌}
use mathlib.Core.Logic.{inl, inr}
use Rattle.slot.specs.Shown.{shown}
use Rattle.bootstrap.specs.declared.Found.{Found}
use Rattle.bootstrap.proofs.Gathered.{gather_go, no_name, no_body, joined_one}
use Rattle.bootstrap.proofs.gather.Goals as goal

pub loop-name-init : goal.loop-name-init
loop-name-init c = search rules

pub join-found-requires : goal.join-found-requires
join-found-requires c = omega (arith, ap length c.in-Some.ensures.steps.0)

pub loop-name-preserved : goal.loop-name-preserved
loop-name-preserved c = (
  gather_go (shown c.args.p.now) c.loop-name.found _ _ _ _ _ _ _ c.in-Some.ensures.steps.0 c.in-Some.ensures.steps.1 c.join-found.ensures ∙ c.loop-name.invariant.0,
  omega (
    arith,
    ap (λ (f : Found). f.count) c.join-found.ensures,
    ap length c.in-Some.ensures.steps.0,
    joined_one (shown c.args.p.now) c.loop-name.found c.in-Some.name.now c.in-Some.body.now,
  ),
)

pub returns : goal.returns
returns c = elim c.in-None.ensures.steps [
  | inl h ↦ no_name (shown c.args.p.now) c.loop-name.found _ _ h.1.0 ∙ c.loop-name.invariant.0
  | inr h ↦ no_body (shown c.args.p.now) c.loop-name.found _ _ h.1.0 ∙ c.loop-name.invariant.0
]
