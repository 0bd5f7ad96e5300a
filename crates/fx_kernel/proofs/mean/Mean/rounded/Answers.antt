use Rattle.std.proofs.Common.{◌+◌, ◌*◌, ap, arith, ◌∙◌}
use Rattle.fx_kernel.specs.Samples.{rounded}
use Rattle.fx_kernel.specs.SampleLaws.{rounded_bound}
use Rattle.fx_kernel.proofs.FactorLaws.{quotient_is}
use Rattle.fx_kernel.proofs.mean.Mean.rounded.Goals as goal

pub returns-clause-value : goal.returns-clause-value
returns-clause-value c =
    let count = c.self.inside.count in
    rw (c.from.ensures, c.from-2.ensures, c.self.invariant.value)
    (quotient_is count (2 * c.args.sum + count) c.self.invariant.some c.self.invariant.few (omega arith) ∙ ap (rounded c.args.sum) c.self.view_is)

pub returns-clause-small : goal.returns-clause-small
returns-clause-small c =
    let count = c.self.inside.count in
    rw (c.from.ensures, c.from-2.ensures, c.self.invariant.value)
    (rw (quotient_is count (2 * c.args.sum + count) c.self.invariant.some c.self.invariant.few (omega arith)) (rounded_bound c.args.sum count 65535 c.self.invariant.some (omega arith)))
