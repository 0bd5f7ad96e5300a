use Rattle.std.proofs.Common.{arith, map, refl, w64, to_z, of_z}
use Rattle.std.proofs.lemmas.Int.{ints, to_z-of_z}
use mir.Val.{SFits}
use Rattle.fx_scene.specs.Areas.{area}
use Rattle.fx_region.specs.Ends.{end_of}
use Rattle.fx_region.specs.Needs.{need_shown, tile_needs}
use Rattle.fx_scene.specs.Sites.{site_nodes}
use Rattle.fx_region.proofs.DemandLemmas.{row_done, row_more}
use Rattle.fx_region.proofs.tiles.add_row.Goals as goal

pub loop-i-preserved : goal.loop-i-preserved
loop-i-preserved g c =
    let nodes = site_nodes g.E.ImageEffect.meaning c.args.site.now in
    let t = to_z w64 (of_z w64 c.args.frame) in
    record {
      low = omega (arith, ints);
      ahead =
          row_more (tile_needs (end_of nodes) (area nodes) c.args.clip c.args.m t) c.args.grid (to_z w64 (of_z w64 c.args.j)) (to_z w64 c.loop-i.i-bits) _ (to_z w64 (of_z w64 c.args.right)) _ _ c.tile.result
          (map need_shown c.loop-i.needs.items) (map need_shown c.add_tile.new.needs.items) _ (omega (arith, ints)) (omega (arith, ints)) refl refl c.tile.ensures c.in_ok-add_tile.ensures c.loop-i.invariant.ahead;
    }

pub returns : goal.returns
returns g c =
    let nodes = site_nodes g.E.ImageEffect.meaning c.args.site.now in
    let frame : SFits w64 c.args.frame = c.ranges.frame in
    let row : SFits w64 c.args.j = c.ranges.j in
    let first : SFits w64 c.args.left = c.ranges.left in
    let end : SFits w64 c.args.right = c.ranges.right in
    let t = to_z w64 (of_z w64 c.args.frame) in
    let done =
    row_done (tile_needs (end_of nodes) (area nodes) c.args.clip c.args.m t) c.args.grid (to_z w64 (of_z w64 c.args.j)) (to_z w64 c.loop-i.i-bits) (to_z w64 (of_z w64 c.args.right))
    (map need_shown c.loop-i.needs.items) _ (omega (arith, ints)) c.loop-i.invariant.ahead in
    simp to_z-of_z at done
