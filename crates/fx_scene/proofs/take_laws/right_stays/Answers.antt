use Rattle.std.proofs.Common.{length, arith}
use Rattle.std.proofs.lemmas.List.{length-map}
use Rattle.fx_graph.specs.Shown.{shown}
use Rattle.fx_scene.specs.Scenes.{graph_shown}
use Rattle.fx_scene.proofs.RightLemmas.{right_by_one, right_stays}
use Rattle.fx_scene.proofs.take_laws.right_stays.Goals as goal

pub returns-clause-one : goal.returns-clause-one
returns-clause-one g c takes are =
    let graph = c.args.graph.now in
    let few = graph.rendered.few in
    let long = length-map graph.nodes.items shown in
    let bound = g.met.E.ImageEffect in
    right_by_one g.E.ImageEffect.meaning (graph_shown graph) takes bound.laws graph.extent (omega (arith, few, long)) are

pub returns-clause-more : goal.returns-clause-more
returns-clause-more g c takes are =
    let graph = c.args.graph.now in
    let few = graph.rendered.few in
    let long = length-map graph.nodes.items shown in
    let bound = g.met.E.ImageEffect in
    right_stays g.E.ImageEffect.meaning (graph_shown graph) takes bound.laws graph.extent (omega (arith, few, long)) are
