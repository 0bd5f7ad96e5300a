use Rattle.std.proofs.Common.{sym, subst, w64, ℤ}
use Rattle.std.proofs.lemmas.Int.{to_z-of_z}
use mir.Val.{SFits}
use Rattle.fx_base.specs.Rect.{IsWithin}
use Rattle.fx_scene.specs.Areas.{area}
use Rattle.fx_scene.specs.Sites.{scene_nodes}
use Rattle.fx_region.proofs.demanding.demand.Goals as goal

pub demand_by-requires-clause-within : goal.demand_by-requires-clause-within
demand_by-requires-clause-within g c =
    let fits : SFits w64 c.args.frame = c.ranges.frame in
    let nodes = scene_nodes g.E.ImageEffect.meaning c.args.scene.now in
    subst (λ (t : ℤ). IsWithin c.args.region (area nodes c.args.node t)) (sym (to_z-of_z w64 _ fits)) c.requires.within

pub returns-clause-needs : goal.returns-clause-needs
returns-clause-needs g c =
    let fits : SFits w64 c.args.frame = c.ranges.frame in
    simp to_z-of_z at c.demand_by.ensures.needs

pub returns-clause-shows : goal.returns-clause-shows
returns-clause-shows g c o is =
    let fits : SFits w64 c.args.frame = c.ranges.frame in
    simp to_z-of_z at (c.demand_by.ensures.shows o is)
