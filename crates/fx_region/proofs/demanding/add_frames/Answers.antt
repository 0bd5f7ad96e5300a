use Rattle.std.proofs.Common.{rules, get_or, pos, map, sym, subst, w64}
use Rattle.std.proofs.lemmas.Int.{to_z-of_z}
use mir.Val.{SFits}
use Rattle.fx_scene.specs.Areas.{area}
use Rattle.fx_region.specs.Ends.{end_of}
use Rattle.fx_region.specs.Needs.{frame_needs, need_shown}
use Rattle.fx_scene.specs.Sites.{site_nodes}
use Rattle.fx_region.specs.Tables.{Has}
use Rattle.fx_region.proofs.DemandLemmas.{more_taken}
use Rattle.fx_region.proofs.demanding.add_frames.Goals as goal

pub add_tiles-requires-clause-there : goal.add_tiles-requires-clause-there
add_tiles-requires-clause-there g c =
    let f = get_or c.args.frames.now c.loop-f.f-index (pos 0) in
    let fits : SFits w64 f = search rules in
    subst (Has c.args.regions.now c.args.m) (sym (to_z-of_z w64 f fits)) (c.requires.there c.loop-f.f-index (pos 0) c.loop-f-test.true)

pub loop-f-preserved : goal.loop-f-preserved
loop-f-preserved g c =
    let nodes = site_nodes g.E.ImageEffect.meaning c.args.site.now in
    let f = get_or c.args.frames.now c.loop-f.f-index (pos 0) in
    let fits : SFits w64 f = search rules in
    let added = simp to_z-of_z at c.in_ok-add_tiles.ensures in
    more_taken (frame_needs (end_of nodes) (area nodes) c.args.grid c.args.interest c.args.clip c.args.m) (map need_shown c.args.needs.now.items) (map need_shown c.loop-f.needs.items)
    (map need_shown c.add_tiles.new.needs.items) c.args.frames.now c.loop-f.f-index (pos 0) c.loop-f-test.true c.loop-f.invariant added
