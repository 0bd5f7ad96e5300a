use Rattle.fx_time.proofs.DifferLaws.{gap_pixels}
use Rattle.fx_time.proofs.framediff.DifferingPairKernel.pair_eight.Goals as goal

pub returns : goal.returns
returns c = gap_pixels c.args.first c.args.second c.fits-first.0 c.fits-second.0 c.fits-first.1 c.fits-second.1
