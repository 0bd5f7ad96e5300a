use Rattle.std.proofs.Common.{◌+◌, subst, w64, All}
use Rattle.std.proofs.lemmas.Int.{to_z-of_z}
use mir.Val.{SFits}
use Rattle.fx_region.specs.Ends.{EndShown, end_shown}
use Rattle.fx_scene.specs.Sites.{scene_nodes}
use Rattle.fx_plan.specs.Keys.{Adds, IsRenderEntry}
use Rattle.fx_plan.specs.Plan.{entry_at}
use Rattle.fx_plan.proofs.StepLemmas.{end_render}
use Rattle.fx_plan.proofs.planning.add_tile.Goals as goal

pub returns-clause-added : goal.returns-clause-added
returns-clause-added g c =
    let fits : SFits w64 c.args.frame = c.ranges.frame in
    let is = simp to_z-of_z at c.in_ok-end.ensures.end in
    subst (λ (e : EndShown). Adds (entry_at e) c.args.pending.now c.add_end.new.pending) is c.in_ok-add_end.ensures.added

pub returns-clause-renders : goal.returns-clause-renders
returns-clause-renders g c =
    let nodes = scene_nodes g.E.ImageEffect.meaning c.args.scene.now in
    let fits : SFits w64 c.args.frame = c.ranges.frame in
    let is = simp to_z-of_z at c.in_ok-end.ensures.end in
    let n = c.args.node + 1 in
    subst (λ (e : EndShown). All (IsRenderEntry nodes c.args.regions.now n) (entry_at e)) is
    (end_render nodes c.args.regions.now n (end_shown c.in_ok-end.end) c.in_ok-end.ensures.stands c.in_ok-add_end.ensures.rects)
