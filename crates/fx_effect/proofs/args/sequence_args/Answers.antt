use Rattle.std.proofs.Common.{IfOk, rules}
use Rattle.std.proofs.lemmas.Result.{IfOk-weaker}
use Rattle.fx_effect.specs.Asked.{AsksSequence}
use Rattle.fx_effect.specs.Asked.{HasRange, HasStep}
use Rattle.fx_effect.proofs.args.sequence_args.Goals as goal

pub returns-clause-asks : goal.returns-clause-asks
returns-clause-asks c =
    let first = c.args.first in
    let last = c.args.last in
    let both : IfOk c.set_of_two.result (λ set. HasRange set first last × HasStep set) = search rules in
    IfOk-weaker c.set_of_two.result (λ set. HasRange set first last × HasStep set) AsksSequence (λ set has. record { first = first; last = last; range = has.0; step = has.1 }) both
