use Rattle.std.proofs.Common.{length}
use Rattle.fx_scene.specs.Rows.{graph_with, rows_in}
use Rattle.fx_scene.specs.Scenes.{graph_nodes, graph_shown, no_images}
use Rattle.fx_scene.proofs.ReachLemmas.{IsOpening}
use Rattle.fx_scene.proofs.RankLemmas.{top}
use Rattle.fx_scene.proofs.StepLemmas.{HasPlaces}
use Rattle.fx_scene.proofs.reaching.reach_with.Given as goal

abbrev pub invariant-loop-node_frame : goal.invariant-loop-node_frame
invariant-loop-node_frame g l =
    let nodes = graph_nodes g.E.ImageEffect.meaning (graph_with (graph_shown l.graph) (rows_in l.rows)) no_images in
    let count = length l.graph.nodes.items in
    IsOpening nodes l.graph.output l.fn.first l.fn.last l.pending l.reached
    × HasPlaces count l.pending × HasPlaces count l.reached

abbrev pub decreases-loop-node_frame : goal.decreases-loop-node_frame
decreases-loop-node_frame g l = top l.pending.keys
