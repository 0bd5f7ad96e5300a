use Rattle.std.proofs.Common.{◌≤◌, length, arith}
use Rattle.std.proofs.lemmas.List.{length-map}
use Rattle.fx_base.specs.declared.limits.TheConstants.{MOST_NODES}
use Rattle.fx_graph.specs.Shown.{shown}
use Rattle.fx_scene.specs.Scenes.{graph_shown}
use Rattle.fx_scene.proofs.DependLemmas.{pictures_depend, value_depends}
use Rattle.fx_scene.proofs.laws.value_depends_on_reach.Goals as goal

pub returns-clause-values : goal.returns-clause-values
returns-clause-values g c =
    let graph = c.args.graph.now in
    let few = graph.rendered.few in
    let long = length-map graph.nodes.items shown in
    let bound = g.met.E.ImageEffect in
    value_depends g.E.ImageEffect.meaning (graph_shown graph) (graph.depth, graph.components) bound.laws graph.extent (omega (arith, few, long)) graph.kept

pub returns-clause-pictures : goal.returns-clause-pictures
returns-clause-pictures g c =
    let graph = c.args.graph.now in
    let few = graph.rendered.few in
    let long = length-map graph.nodes.items shown in
    let bound = g.met.E.ImageEffect in
    pictures_depend g.E.ImageEffect.meaning (graph_shown graph) (graph.depth, graph.components) bound.laws graph.extent (omega (arith, few, long)) graph.kept
