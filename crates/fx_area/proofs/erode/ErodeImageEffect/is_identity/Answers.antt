use Rattle.std.proofs.Common.{codes}
use Rattle.fx_area.specs.ErodeLaws.{radius_few}
use Rattle.fx_area.proofs.erode.ErodeImageEffect.is_identity.Goals as goal

pub radius-requires : goal.radius-requires
radius-requires c =
    radius_few (codes "erode") c.requires.asked.lawful.context c.args.values.now c.requires.asked.lawful.there
