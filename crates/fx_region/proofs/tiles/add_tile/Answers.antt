use Rattle.std.proofs.Common.{map, w64}
use Rattle.std.proofs.lemmas.Int.{to_z-of_z}
use Rattle.std.proofs.lemmas.Result.{on_ok_weaker}
use mir.Val.{SFits}
use Rattle.fx_region.specs.Ends.{end_shown}
use Rattle.fx_region.specs.Needs.{need_shown}
use Rattle.fx_scene.specs.Sites.{site_nodes}
use Rattle.fx_region.proofs.DemandLemmas.{tile_done}
use Rattle.fx_region.proofs.tiles.add_tile.Goals as goal

pub returns : goal.returns
returns g c =
    let nodes = site_nodes g.E.ImageEffect.meaning c.args.site.now in
    let fits : SFits w64 c.args.frame = c.ranges.frame in
    let is = simp to_z-of_z at (c.rod.ensures.area nodes c.requires.table.right) in
    let found = simp to_z-of_z at c.in_ok-end.ensures in
    let added = simp to_z-of_z at c.add_need.ensures in
    on_ok_weaker c.add_need.result
    (tile_done nodes c.args.clip c.args.m c.args.frame c.args.tile c.rod.result c.meet-cut.result (end_shown c.in_ok-end.end) (map need_shown c.args.needs.now.items)
    (map need_shown c.add_need.new.needs.items) is c.meet-cut.ensures.bounds found) added
