use Rattle.fx_area.proofs.ShortLaws.{swapped_at}
use Rattle.fx_area.proofs.shorts.swapped.Goals as goal

pub returns-clause-value : goal.returns-clause-value
returns-clause-value c i low = swapped_at c.args.bytes i c.fits-bytes.0 low
