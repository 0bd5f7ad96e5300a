use Rattle.std.proofs.Common.{codes}
use Rattle.fx_area.specs.ErodeLaws.{radius_few}
use Rattle.fx_area.proofs.dilate.DilateImageEffect.is_identity.Goals as goal

pub radius-requires : goal.radius-requires
radius-requires c =
    radius_few (codes "dilate") c.requires.asked.lawful.context c.args.values.now c.requires.asked.lawful.there
