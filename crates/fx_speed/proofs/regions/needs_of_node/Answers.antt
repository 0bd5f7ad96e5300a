use Rattle.std.proofs.Common.{rules, ◌≡◌, sym, subst, w64}
use Rattle.std.proofs.lemmas.Int.{to_z-of_z}
use mir.Val.{SFits}
use Rattle.fx_base.specs.Bounds.{Bounds}
use Rattle.fx_base.specs.Rect.{IsWithin, meet}
use Rattle.fx_base.proofs.RectLaws.{IsWithin-meet_second}
use Rattle.fx_scene.specs.Sites.{scene_nodes}
use Rattle.fx_speed.proofs.regions.needs_of_node.Goals as goal

-- what both have lies in the second
cut_within : (r a s cut : Bounds) → s ≡ a → cut ≡ meet r s → IsWithin cut a
cut_within r a s cut is both =
    subst (λ (b : Bounds). IsWithin b a) (sym both) (subst (IsWithin (meet r s)) is (IsWithin-meet_second r s))

pub needs_of_tile-requires-clause-within : goal.needs_of_tile-requires-clause-within
needs_of_tile-requires-clause-within g c =
    let nodes = scene_nodes g.E.ImageEffect.meaning c.args.scene.now in
    let fits : SFits w64 c.args.node_frame.frame = search rules in
    let is = simp to_z-of_z at (c.rod-area.ensures.area nodes c.requires.regions.are.right) in
    cut_within c.tile-item.result _ c.rod-area.result c.meet.result is c.meet.ensures.bounds
