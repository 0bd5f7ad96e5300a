use Rattle.std.proofs.Common.{◌∙◌, ap, arith}
use Rattle.std.proofs.lemmas.List.{take_all}
use Rattle.fx_actions.specs.Asking.{numbers}
use Rattle.fx_actions.proofs.asking.numbers.Goals as goal

pub returns-clause-values : goal.returns-clause-values
returns-clause-values c =
    c.loop-n.invariant.values ∙ ap (numbers c.args.kind) (take_all c.loop-n.n-index c.args.list.now (omega (arith, c.loop-n-test.false)))
