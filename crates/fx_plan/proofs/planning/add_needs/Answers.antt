use Rattle.std.proofs.Common.{◌∙◌, List, map, sym, ap, subst, All, rules, w64}
use Rattle.std.proofs.lemmas.Int.{to_z-of_z}
use mir.Val.{SFits}
use Rattle.std.specs.List.{flat_map}
use Rattle.fx_region.specs.Needs.{NeedShown, need_shown, needs_of}
use Rattle.fx_scene.specs.Sites.{scene_nodes}
use Rattle.fx_region.specs.Stands.{NeedStands}
use Rattle.fx_plan.specs.Keys.{Adds, IsRenderEntry}
use Rattle.fx_plan.specs.Plan.{need_entry}
use Rattle.fx_plan.proofs.StepLemmas.{need_renders}
use Rattle.fx_plan.proofs.planning.add_needs.Goals as goal

pub returns-clause-added : goal.returns-clause-added
returns-clause-added g c =
    let nodes = scene_nodes g.E.ImageEffect.meaning c.args.scene.now in
    let key = c.args.key in
    let fits : SFits w64 c.args.key.frame = search rules in
    let needs = simp to_z-of_z at c.in_ok-needs.ensures.needs in
    let is = ap (map need_shown) c.deref.ensures.value ∙ needs
    ∙ ap (needs_of nodes c.args.grid key.node key.frame) c.region-region.ensures in
    subst (λ (ns : List NeedShown). Adds (flat_map need_entry ns) c.args.pending.now c.add_each.new.pending) is
    c.in_ok-add_each.ensures.added

pub returns-clause-renders : goal.returns-clause-renders
returns-clause-renders g c =
    let nodes = scene_nodes g.E.ImageEffect.meaning c.args.scene.now in
    let key = c.args.key in
    let slice = ap (map need_shown) c.deref.ensures.value in
    let fits : SFits w64 c.args.key.frame = search rules in
    let needs = simp to_z-of_z at c.in_ok-needs.ensures.needs in
    let is = slice ∙ needs ∙ ap (needs_of nodes c.args.grid key.node key.frame) c.region-region.ensures in
    let stand = subst (All (NeedStands nodes c.args.regions.now key.node)) (sym slice) c.in_ok-needs.ensures.stand in
    subst (λ (ns : List NeedShown). All (IsRenderEntry nodes c.args.regions.now key.node) (flat_map need_entry ns)) is
    (need_renders nodes c.args.regions.now key.node _ stand c.in_ok-add_each.ensures.rects)
