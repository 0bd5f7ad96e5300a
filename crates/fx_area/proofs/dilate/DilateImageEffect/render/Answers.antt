use Rattle.std.proofs.Common.{codes}
use Rattle.fx_area.specs.ErodeLaws.{radius_few}
use Rattle.fx_area.proofs.dilate.DilateImageEffect.render.Goals as goal

pub render_extreme-requires-clause-few : goal.render_extreme-requires-clause-few
render_extreme-requires-clause-few c =
    radius_few (codes "dilate") c.requires.may.context c.args.values.now c.requires.may.lawful
