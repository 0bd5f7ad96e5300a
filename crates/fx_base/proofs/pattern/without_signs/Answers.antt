use Rattle.std.proofs.Common.{sym, ◌∙◌}
use Rattle.fx_base.proofs.PatternLemmas.{without_signs-none}
use Rattle.fx_base.proofs.pattern.without_signs.Goals as goal

pub returns-clause-value : goal.returns-clause-value
unfolding lib.Utf8.encode
returns-clause-value c =
    sym (without_signs-none c.loop-next.rest.now (λ r e. c.in_default.ensures.cases r e)) ∙ c.loop-next.invariant.same_rest
