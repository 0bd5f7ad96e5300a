use Rattle.std.proofs.Common.{arith}
use Rattle.std.proofs.lemmas.List.{length-map}
use Rattle.fx_graph.specs.Shown.{shown}
use Rattle.fx_scene.specs.Depends.{AreImages}
use Rattle.fx_scene.specs.Nodes.{AreNodes}
use Rattle.fx_scene.specs.Scenes.{Images, graph_nodes, graph_shown, no_images}
use Rattle.fx_scene.proofs.NodesLemmas.{are_nodes}
use Rattle.fx_scene.proofs.RightLemmas.{none_are}
use Rattle.fx_region.proofs.HeldLemmas.{ends_same, needs_same}
use Rattle.fx_plan.proofs.laws.ends_agree.Goals as goal

pub returns : goal.returns
returns g c = λ a b t is_a is_b agree n u r reached.
    let graph = c.args.graph.now in
    let few = graph.rendered.few in
    let long = length-map graph.nodes.items shown in
    let bound = g.met.E.ImageEffect in
    let meaning = g.E.ImageEffect.meaning in
    let s = graph_shown graph in
    let over : (images : Images) → AreImages images → AreNodes (graph_nodes meaning s images) = λ images are.
    are_nodes meaning s.project (graph.depth, graph.components) s.nodes images bound.laws graph.extent (omega (arith, few, long)) are graph.kept in (
      ends_same meaning s a b s.output t t (over a is_a) (over b is_b) (over no_images none_are) agree n u r reached,
      λ side. needs_same meaning s a b s.output t t (over a is_a) (over b is_b) (over no_images none_are) agree side n u r reached,
    )
