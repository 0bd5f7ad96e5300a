use Rattle.fx_kernel.proofs.FourLaws.{four_fit, four_means}
use Rattle.fx_kernel.proofs.mean.Mean.bytes.Goals as goal

pub overflow_cast-result : goal.overflow_cast-result
overflow_cast-result c =
    rw (c.from.ensures, c.from-2.ensures)
    (four_fit c.self.inside.count c.args.by.factor c.args.by.shift c.args.self c.args.sums c.self.view_is c.self.invariant.some c.self.invariant.few c.requires.factor c.fits-sums.0 c.requires.sums)

pub returns-clause-value : goal.returns-clause-value
returns-clause-value c =
    rw (c.from.ensures, c.from-2.ensures)
    (four_means c.self.inside.count c.args.by.factor c.args.by.shift c.args.self c.args.sums c.self.view_is c.self.invariant.some c.self.invariant.few c.requires.factor c.fits-sums.0 c.requires.sums)
