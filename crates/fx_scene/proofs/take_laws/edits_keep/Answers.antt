use Rattle.fx_scene.specs.Scenes.{graph_shown}
use Rattle.fx_scene.proofs.EditLemmas.{edits_keep}
use Rattle.fx_scene.proofs.take_laws.edits_keep.Goals as goal

pub returns : goal.returns
returns g c takes =
    let graph = c.args.graph.now in
    edits_keep g.E.ImageEffect.meaning (graph_shown graph) takes graph.kept
