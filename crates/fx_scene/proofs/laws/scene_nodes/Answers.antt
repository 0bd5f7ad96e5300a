use Rattle.std.proofs.Common.{◌≤◌, length, arith, subst}
use Rattle.std.proofs.lemmas.List.{length-map}
use Rattle.fx_seq.specs.declared.store.Store.{Store}
use Rattle.fx_graph.specs.Shown.{GraphShown, shown}
use Rattle.fx_scene.specs.Nodes.{AreNodes}
use Rattle.fx_scene.specs.Scenes.{graph_nodes, graph_shown, images_in}
use Rattle.fx_scene.proofs.NodesLemmas.{are_nodes}
use Rattle.fx_scene.proofs.StoreLemmas.{store_images}
use Rattle.fx_scene.proofs.laws.scene_nodes.Goals as goal

pub returns-clause-nodes : goal.returns-clause-nodes
returns-clause-nodes g c =
    let m = g.E.ImageEffect.meaning in
    let graph = c.graph-graph.result.now in
    let store = c.store-store.result.now in
    let few = graph.rendered.few in
    let long = length-map graph.nodes.items shown in
    let bound = g.met.E.ImageEffect in
    subst (λ (s : GraphShown _). AreNodes (graph_nodes m s (images_in c.args.scene.now.store))) c.graph-graph.ensures.shown
    (subst (λ (s : Store). AreNodes (graph_nodes m (graph_shown graph) (images_in s))) c.store-store.ensures
    (are_nodes m graph.project (graph.depth, graph.components) (graph_shown graph).nodes (images_in store) bound.laws graph.extent (omega (arith, few, long))
    (store_images store store.sound) graph.kept))
