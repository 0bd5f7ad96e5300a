use Rattle.fx_kernel.proofs.ByteLaws.{alphas_at}
use Rattle.fx_kernel.proofs.lanes.alphas.Goals as goal

pub returns-clause-value : goal.returns-clause-value
returns-clause-value c i low = alphas_at c.args.pixels i c.fits-pixels.0 low
