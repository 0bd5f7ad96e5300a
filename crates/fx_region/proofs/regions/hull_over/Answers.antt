use Rattle.std.proofs.Common.{◌≡◌, get_or, pos, w64, rules, map, drop, ◌+◌, sym, subst}
use Rattle.std.proofs.lemmas.Int.{to_z-of_z}
use mir.Val.{SFits}
use Rattle.fx_base.specs.Bounds.{Bounds}
use Rattle.fx_scene.specs.Areas.{area, hull_all, hull_with}
use Rattle.fx_region.specs.Tables.{Has}
use Rattle.fx_scene.proofs.ClipLemmas.{hull_step}
use Rattle.fx_region.proofs.regions.hull_over.Goals as goal

pub rod-requires : goal.rod-requires
rod-requires c =
    let f = get_or c.args.frames.now c.loop-f.f-index (pos 0) in
    let fits : SFits w64 f = search rules in
    subst (Has c.args.regions.now c.args.m) (sym (to_z-of_z w64 f fits)) (c.requires c.loop-f.f-index (pos 0) c.loop-f-test.true)

pub loop-f-preserved : goal.loop-f-preserved
loop-f-preserved c nodes right =
    let f = get_or c.args.frames.now c.loop-f.f-index (pos 0) in
    let fits : SFits w64 f = search rules in
    let there = simp to_z-of_z at (c.rod.ensures.area nodes right) in
    subst (λ (h : Bounds). hull_with h (map (area nodes c.args.m) (drop (c.loop-f.f-index + 1) c.args.frames.now)) ≡ hull_all (map (area nodes c.args.m) c.args.frames.now)) (sym c.hull-hull.ensures.bounds)
    (hull_step (area nodes c.args.m) c.args.frames.now c.loop-f.f-index (pos 0) c.loop-f.hull c.rod.result _ c.loop-f-test.true there (c.loop-f.invariant nodes right))
