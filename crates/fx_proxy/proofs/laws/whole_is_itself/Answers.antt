use Rattle.fx_scene.specs.Scenes.{graph_shown}
use Rattle.fx_proxy.proofs.WholeLemmas.{rendered_whole}
use Rattle.fx_proxy.proofs.laws.whole_is_itself.Goals as goal

pub returns : goal.returns
returns g c = λ images whole.
    let graph = c.args.graph.now in
    rendered_whole g.E.ImageEffect.meaning g.E.Catalogue.number_of (graph_shown graph) c.args.takes.now.list.items images
    graph.extent c.requires.lengths graph.kept c.requires.edits whole
