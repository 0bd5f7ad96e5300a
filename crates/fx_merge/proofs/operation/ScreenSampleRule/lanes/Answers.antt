use Rattle.fx_kernel.proofs.ByteLaws.{lane_low}
use Rattle.fx_merge.proofs.LaneLaws.{screen_at}
use Rattle.fx_merge.proofs.operation.ScreenSampleRule.lanes.Goals as goal

pub returns : goal.returns
returns c i low =
    screen_at c.args.a c.args.b c.product.result i c.fits-a.0 c.fits-b.0 c.product.ensures.len low
    (lane_low c.args.a i c.fits-a.1) (lane_low c.args.b i c.fits-b.1) (c.product.ensures.value i low)
