use Rattle.fx_point.proofs.Places.{recoloured_row}
use Rattle.fx_point.proofs.lanes.recoloured.Goals as goal

pub returns : goal.returns
returns c = λ of is. recoloured_row of c.args.pixels c.args.made c.fits-pixels.0 c.fits-made.0 is
