use Rattle.fx_scene.specs.Scenes.{graph_shown}
use Rattle.fx_scene.specs.Uses.{wanting}
use Rattle.fx_scene.proofs.UseLemmas.{uses_tell}
use Rattle.fx_scene.proofs.take_laws.uses_tell.Goals as goal

pub returns : goal.returns
returns g c takes first count = uses_tell (wanting g.E.ImageEffect.meaning (graph_shown c.args.graph.now) takes first count)
