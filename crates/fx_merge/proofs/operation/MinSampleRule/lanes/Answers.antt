use Rattle.std.proofs.Common.{arith}
use Rattle.fx_kernel.proofs.ByteLaws.{least_at}
use Rattle.fx_merge.proofs.operation.MinSampleRule.lanes.Goals as goal

pub returns : goal.returns
returns c i low = least_at c.args.a c.args.b i (omega (arith, c.fits-a.0)) (omega (arith, c.fits-b.0))
