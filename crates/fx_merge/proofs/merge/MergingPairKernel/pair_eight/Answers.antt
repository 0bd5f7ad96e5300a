use Rattle.fx_merge.proofs.LaneLaws.{eight_pixels}
use Rattle.fx_merge.proofs.merge.MergingPairKernel.pair_eight.Goals as goal

pub returns : goal.returns
returns g c =
    eight_pixels g.R.SampleRule.operation c.alphas.result c.args.first c.args.second c.lanes.result c.fits-first.0
    c.alphas.ensures.value c.lanes.ensures
