use Rattle.std.proofs.Common.{arith}
use Rattle.fx_kernel.proofs.ByteLaws.{lane_low}
use Rattle.fx_merge.proofs.LaneLaws.{sum_at}
use Rattle.fx_merge.proofs.operation.PlusSampleRule.lanes.Goals as goal

pub returns : goal.returns
returns c i low =
    let a = c.args.a in
    let b = c.args.b in
    sum_at a b i (omega (arith, c.fits-a.0)) (omega (arith, c.fits-b.0)) (lane_low a i c.fits-a.1) (lane_low b i c.fits-b.1)
