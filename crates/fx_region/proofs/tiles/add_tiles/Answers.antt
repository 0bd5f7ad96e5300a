use Rattle.std.proofs.Common.{◌≢◌, sym, subst, map, w64, arith}
use Rattle.std.proofs.lemmas.Int.{to_z-of_z}
use Rattle.std.proofs.lemmas.Result.{on_ok_weaker}
use mir.Val.{SFits}
use Rattle.fx_base.specs.Bounds.{IsRect, none}
use Rattle.fx_base.specs.Rect.{IsNear}
use Rattle.fx_base.proofs.RectLaws.{IsRect-meet}
use Rattle.fx_region.specs.Needs.{need_shown}
use Rattle.fx_scene.specs.Sites.{site_nodes}
use Rattle.fx_region.proofs.DemandLemmas.{no_tiles, some_tiles}
use Rattle.fx_region.proofs.FollowLemmas.{cut_window, some_place}
use Rattle.fx_region.proofs.tiles.add_tiles.Goals as goal

pub returns-then-is_empty : goal.returns-then-is_empty
returns-then-is_empty g c =
    let nodes = site_nodes g.E.ImageEffect.meaning c.args.site.now in
    let fits : SFits w64 c.args.frame = c.ranges.frame in
    let is = simp to_z-of_z at (c.rod.ensures.area nodes c.requires.table.right) in
    no_tiles nodes c.args.grid c.args.interest c.rod.result c.meet-cut.result c.args.clip c.args.m c.args.frame (map need_shown c.args.needs.now.items) is c.meet-cut.ensures.bounds
    (c.is_empty.ensures.bounds.0 c.if-is_empty.true)

pub add_rows-requires-clause-near : goal.add_rows-requires-clause-near
add_rows-requires-clause-near g c =
    let nodes = site_nodes g.E.ImageEffect.meaning c.args.site.now in
    let fits : SFits w64 c.args.frame = c.ranges.frame in
    let is = simp to_z-of_z at (c.rod.ensures.area nodes c.requires.table.right) in
    let few = c.args.site.now.graph.now.rendered.few in
    let there = (c.requires.table.places c.args.m c.args.frame c.requires.there).there in
    subst IsNear (sym c.meet-cut.ensures.bounds)
    (cut_window nodes c.requires.nodes c.args.m c.args.frame c.args.interest c.rod.result (omega (arith, few, there)) is).near

pub add_rows-requires-clause-some : goal.add_rows-requires-clause-some
add_rows-requires-clause-some g c =
    let some : c.meet-cut.result ≢ none = λ e. let t = c.is_empty.ensures.bounds.1 e in let f = c.if-is_empty.false in cc in
    some_place c.meet-cut.result (subst IsRect (sym c.meet-cut.ensures.bounds) (IsRect-meet c.args.interest c.rod.result)) some

pub returns : goal.returns
returns g c =
    let nodes = site_nodes g.E.ImageEffect.meaning c.args.site.now in
    let fits : SFits w64 c.args.frame = c.ranges.frame in
    let is = simp to_z-of_z at (c.rod.ensures.area nodes c.requires.table.right) in
    let added = simp to_z-of_z at c.add_rows.ensures in
    on_ok_weaker c.add_rows.result
    (some_tiles nodes c.args.grid c.args.interest c.rod.result c.meet-cut.result c.args.clip c.args.m c.args.frame (map need_shown c.args.needs.now.items)
    (map need_shown c.add_rows.new.needs.items) is c.meet-cut.ensures.bounds) added
