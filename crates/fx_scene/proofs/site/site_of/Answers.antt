use Rattle.std.proofs.Common.{arith}
use Rattle.std.proofs.lemmas.List.{length-map}
use Rattle.fx_graph.specs.Shown.{shown}
use Rattle.fx_scene.specs.Scenes.{graph_shown, images_in}
use Rattle.fx_scene.proofs.NodesLemmas.{are_nodes}
use Rattle.fx_scene.proofs.StoreLemmas.{store_images}
use Rattle.fx_scene.proofs.SiteLemmas.{same_nodes}
use Rattle.fx_scene.proofs.site.site_of.Goals as goal

pub returns-clause-nodes : goal.returns-clause-nodes
returns-clause-nodes g c =
    let m = g.E.ImageEffect.meaning in
    let graph = c.graph.result.now in
    let store = c.store.result.now in
    let few = graph.rendered.few in
    let long = length-map graph.nodes.items shown in
    let bound = g.met.E.ImageEffect in
    are_nodes m graph.project (graph.depth, graph.components) (graph_shown graph).nodes (images_in store) bound.laws graph.extent (omega (arith, few, long))
    (store_images store store.sound) graph.kept

pub returns-clause-same : goal.returns-clause-same
returns-clause-same g c =
    same_nodes g.E.ImageEffect.meaning (graph_shown c.graph.result.now) c.args.scene.now.graph c.store.result.now c.args.scene.now.store c.graph.ensures.shown c.store.ensures
