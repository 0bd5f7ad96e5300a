use Rattle.fx_scene.proofs.Outside.{outside_zero}
use Rattle.fx_scene.proofs.laws.zero_outside_area.Goals as goal

pub returns : goal.returns
returns c nodes ok = outside_zero nodes ok
