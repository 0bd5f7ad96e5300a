use Rattle.std.proofs.Common.{length, arith}
use Rattle.std.proofs.lemmas.List.{length-map}
use Rattle.fx_graph.specs.Shown.{shown}
use Rattle.fx_scene.specs.Scenes.{graph_shown}
use Rattle.fx_scene.proofs.HeldLemmas.{held_suffice}
use Rattle.fx_scene.proofs.take_laws.held_suffice.Goals as goal

pub returns : goal.returns
returns g c =
    let graph = c.args.graph.now in
    let few = graph.rendered.few in
    let long = length-map graph.nodes.items shown in
    let bound = g.met.E.ImageEffect in
    held_suffice g.E.ImageEffect.meaning (graph_shown graph) (graph.depth, graph.components) bound.laws graph.extent (omega (arith, few, long)) graph.kept
