use Rattle.std.proofs.Common.{◌≡◌, get_or, pos, w64, rules, map, drop, ◌+◌, sym, subst}
use Rattle.std.proofs.lemmas.Int.{to_z-of_z}
use mir.Val.{SFits}
use Rattle.fx_base.specs.Bounds.{Bounds}
use Rattle.fx_scene.specs.Areas.{area, hull_all, hull_with}
use Rattle.fx_eval.specs.Wholes.{IsMade}
use Rattle.fx_scene.proofs.ClipLemmas.{hull_step}
use Rattle.fx_eval.proofs.WholeLemmas.{whole_area}
use Rattle.fx_eval.proofs.areas.hull_of.Goals as goal

pub made_of-requires : goal.made_of-requires
made_of-requires c =
    let f = get_or c.args.frames.now c.loop-f.f-index (pos 0) in
    let fits : SFits w64 f = search rules in
    subst (IsMade c.args.made.now c.args.m) (sym (to_z-of_z w64 f fits)) (c.requires c.loop-f.f-index (pos 0) c.loop-f-test.true)

pub loop-f-preserved : goal.loop-f-preserved
loop-f-preserved c nodes right =
    let f = get_or c.args.frames.now c.loop-f.f-index (pos 0) in
    let fits : SFits w64 f = search rules in
    let found = simp to_z-of_z at c.made_of.ensures in
    let there = whole_area nodes c.args.made.now c.args.m f c.made_of.result.now right found in
    subst (λ (h : Bounds). hull_with h (map (area nodes c.args.m) (drop (c.loop-f.f-index + 1) c.args.frames.now)) ≡ hull_all (map (area nodes c.args.m) c.args.frames.now)) (sym c.hull-hull.ensures.bounds)
    (hull_step (area nodes c.args.m) c.args.frames.now c.loop-f.f-index (pos 0) c.loop-f.hull c.made_of.result.now.area _ c.loop-f-test.true there (c.loop-f.invariant nodes right))
