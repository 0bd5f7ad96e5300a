use Rattle.std.proofs.Common.{◌-◌}
use Rattle.fx_kernel.proofs.LaneLaws.{blend_at, blends_long, blends_fit}
use Rattle.fx_kernel.proofs.blend.blend_lanes.Goals as goal

pub overflow_cast-result : goal.overflow_cast-result
overflow_cast-result c = blends_fit 32 c.args.level c.args.from c.args.to c.requires c.fits-from.1 c.fits-to.1

pub returns-clause-len : goal.returns-clause-len
returns-clause-len c =
    blends_long 32 (65536 - c.args.level) c.args.level c.args.from c.args.to c.fits-from.0 c.fits-to.0

pub returns-clause-value : goal.returns-clause-value
returns-clause-value c i low =
    blend_at 32 c.args.level c.args.from c.args.to i c.requires c.fits-from.0 c.fits-to.0 low c.fits-from.1 c.fits-to.1
