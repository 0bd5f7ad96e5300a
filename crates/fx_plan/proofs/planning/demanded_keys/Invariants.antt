use Rattle.std.proofs.Common.{◌+◌}
use Rattle.fx_scene.specs.Sites.{scene_nodes}
use Rattle.fx_plan.specs.Keys.{AreRenders}
use Rattle.fx_plan.proofs.PlanLemmas.{IsPlanning}
use Rattle.fx_plan.proofs.RankLemmas.{top}
use Rattle.fx_plan.proofs.planning.demanded_keys.Given as goal

abbrev pub invariant-loop-key : goal.invariant-loop-key
invariant-loop-key g l =
    let nodes = scene_nodes g.E.ImageEffect.meaning l.scene in
    let graph = l.scene.graph in
    IsPlanning nodes graph.output l.grid graph.project l.fn.frame l.pending l.demanded
    × AreRenders nodes l.regions (graph.output + 1) l.pending × AreRenders nodes l.regions (graph.output + 1) l.demanded

abbrev pub decreases-loop-key : goal.decreases-loop-key
decreases-loop-key g l = top l.pending.keys
