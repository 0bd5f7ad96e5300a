use Rattle.std.proofs.Common.{length, arith}
use Rattle.std.proofs.lemmas.List.{length-map}
use Rattle.fx_graph.specs.Shown.{shown}
use Rattle.fx_scene.specs.Scenes.{graph_shown}
use Rattle.fx_region.proofs.HeldLemmas.{ends_reached, ends_stay}
use Rattle.fx_region.proofs.held_laws.ends_stay.Goals as goal

pub returns-clause-stay : goal.returns-clause-stay
returns-clause-stay g c =
    let graph = c.args.graph.now in
    let few = graph.rendered.few in
    let long = length-map graph.nodes.items shown in
    let bound = g.met.E.ImageEffect in
    ends_stay g.E.ImageEffect.meaning (graph_shown graph) (graph.depth, graph.components) bound.laws graph.extent (omega (arith, few, long)) graph.kept

pub returns-clause-reached : goal.returns-clause-reached
returns-clause-reached g c =
    let graph = c.args.graph.now in
    let few = graph.rendered.few in
    let long = length-map graph.nodes.items shown in
    let bound = g.met.E.ImageEffect in
    ends_reached g.E.ImageEffect.meaning (graph_shown graph) (graph.depth, graph.components) bound.laws graph.extent (omega (arith, few, long)) graph.kept
