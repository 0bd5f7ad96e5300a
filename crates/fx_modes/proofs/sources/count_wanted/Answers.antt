use Rattle.std.proofs.Common.{rules}
use Rattle.fx_modes.proofs.sources.count_wanted.Goals as goal

pub returns-clause-ok : goal.returns-clause-ok
returns-clause-ok c = λ q. (c.in_ok-uses.uses.items, c.in_ok-uses.ensures.ok q, search rules)
