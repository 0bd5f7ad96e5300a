use Rattle.std.proofs.Common.{arith}
use Rattle.fx_kernel.proofs.ByteLaws.{most_at}
use Rattle.fx_merge.proofs.operation.MaxSampleRule.lanes.Goals as goal

pub returns : goal.returns
returns c i low = most_at c.args.a c.args.b i (omega (arith, c.fits-a.0)) (omega (arith, c.fits-b.0))
