use Rattle.std.proofs.Common.{◌+◌, take, All}
use Rattle.std.specs.List.{flat_map}
use Rattle.fx_base.specs.Bounds.{Bounds}
use Rattle.fx_base.specs.Rect.{meet}
use Rattle.fx_region.specs.Ends.{end_of}
use Rattle.fx_scene.specs.Sites.{scene_nodes}
use Rattle.fx_plan.specs.Keys.{Adds, IsRenderEntry}
use Rattle.fx_plan.specs.Plan.{entry_at}
use Rattle.fx_plan.proofs.planning.add_window.Given as goal

abbrev pub invariant-loop-tile : goal.invariant-loop-tile
invariant-loop-tile g l =
    let nodes = scene_nodes g.E.ImageEffect.meaning l.scene in
    let graph = l.scene.graph in
    let entries =
    flat_map (λ (tile : Bounds). entry_at (end_of nodes graph.output l.fn.frame (meet graph.project tile))) (take l.tile-index l.tile-items) in
    Adds entries l.fn.pending l.pending × All (IsRenderEntry nodes l.regions (graph.output + 1)) entries
