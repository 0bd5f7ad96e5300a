use Rattle.std.proofs.Common.{◌≤◌, ◌∙◌, subst, sym}
use Rattle.fx_modes.proofs.MadeLemmas.{is_numeral, number_read}
use Rattle.fx_modes.proofs.bench.number_of.Goals as goal

pub returns-clause-value : goal.returns-clause-value
returns-clause-value c = c.unwrap_or.ensures ∙ number_read c.args.word.now 0 c.parse.result c.requires c.parse.ensures.value.0

pub returns-clause-small : goal.returns-clause-small
returns-clause-small c =
    subst (λ n. n ≤ 999999)
    (sym (c.unwrap_or.ensures ∙ number_read c.args.word.now 0 c.parse.result c.requires c.parse.ensures.value.0))
    (is_numeral c.args.word.now c.requires).2
