use Rattle.std.proofs.Common.{sym, subst, arith}
use Rattle.std.proofs.lemmas.List.{length-map}
use Rattle.fx_graph.specs.Shown.{shown}
use Rattle.fx_scene.specs.Nodes.{AreNodes}
use Rattle.fx_scene.specs.Scenes.{graph_shown, images_in}
use Rattle.fx_scene.proofs.NodesLemmas.{are_nodes}
use Rattle.fx_scene.proofs.SiteLemmas.{same_nodes}
use Rattle.fx_scene.proofs.StoreLemmas.{store_images}
use Rattle.fx_tile.proofs.setup.Setup.of.Goals as goal

pub returns-clause-setup : goal.returns-clause-setup
returns-clause-setup g c =
    let m = g.E.ImageEffect.meaning in
    let graph = c.graph.result.now in
    let store = c.store.result.now in
    let few = graph.rendered.few in
    let long = length-map graph.nodes.items shown in
    let bound = g.met.E.ImageEffect in
    let nodes = are_nodes m graph.project (graph.depth, graph.components) (graph_shown graph).nodes (images_in store) bound.laws graph.extent (omega (arith, few, long))
    (store_images store store.sound) graph.kept in
    record {
      graph = sym c.graph.ensures.shown;
      store = sym c.store.ensures;
      nodes = subst AreNodes (same_nodes m (graph_shown graph) c.args.scene.now.graph store c.args.scene.now.store c.graph.ensures.shown c.store.ensures) nodes;
      life = c.requires.life;
      regions = c.requires.regions.made;
      holds = c.requires.regions.holds;
      keeps = record { is = c.scene_is.ensures; made = c.scene_tiles.ensures.made; right = c.scene_tiles.ensures.right };
      name = c.requires.name;
      whole_name = c.requires.whole_name;
      gates = c.requires.gates;
    }
