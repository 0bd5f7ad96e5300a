use Rattle.std.proofs.Common.{length, arith}
use Rattle.std.proofs.lemmas.List.{length-map}
use Rattle.fx_graph.specs.Shown.{shown}
use Rattle.fx_scene.specs.Scenes.{graph_shown}
use Rattle.fx_scene.proofs.MadeLemmas.{made_is_right, right_is_made}
use Rattle.fx_scene.proofs.take_laws.made_is_right.Goals as goal

pub returns-clause-made : goal.returns-clause-made
returns-clause-made g c takes are =
    let graph = c.args.graph.now in
    let few = graph.rendered.few in
    let long = length-map graph.nodes.items shown in
    let bound = g.met.E.ImageEffect in
    made_is_right g.E.ImageEffect.meaning (graph_shown graph) takes bound.laws graph.extent (omega (arith, few, long)) are

pub returns-clause-right : goal.returns-clause-right
returns-clause-right g c takes are =
    let graph = c.args.graph.now in
    let few = graph.rendered.few in
    let long = length-map graph.nodes.items shown in
    let bound = g.met.E.ImageEffect in
    right_is_made g.E.ImageEffect.meaning (graph_shown graph) takes bound.laws graph.extent (omega (arith, few, long)) are
