-- `checks::check_pool` meets its contract. Assumes nothing.
use Rattle.std.proofs.Common.{rules}
use Rattle.slot.specs.Shown.{shown}
use Rattle.checks.specs.Checks.{obey}
use Rattle.checks.proofs.Lower.{rules_do}
use Rattle.checks.proofs.check_pool.Goals as goal

pub returns-in_default : goal.returns-in_default
returns-in_default c = rules_do _ (c.in_default.ensures (λ n. obey (shown c.args.p.now) n) (λ n r l h. search rules))
