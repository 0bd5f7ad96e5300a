use Rattle.std.proofs.Common.{◌≡◌, ◌++◌, ap, arith, map, refl, w64, to_z, of_z}
use Rattle.std.specs.List.{flat_map}
use Rattle.std.proofs.lemmas.Int.{ints, to_z-of_z}
use mir.Val.{SFits}
use Rattle.fx_base.proofs.GridLaws.{tiles_of-proper}
use Rattle.fx_base.proofs.RectLemmas.{IsProper-from_test}
use Rattle.fx_scene.specs.Areas.{area}
use Rattle.fx_region.specs.Ends.{end_of}
use Rattle.fx_region.specs.Needs.{need_shown, tile_needs}
use Rattle.fx_scene.specs.Sites.{site_nodes}
use Rattle.fx_region.proofs.DemandLemmas.{rows_done, rows_more}
use Rattle.fx_region.proofs.tiles.add_rows.Goals as goal

pub span-left-requires-clause-some : goal.span-left-requires-clause-some
span-left-requires-clause-some g c =
    let proper = IsProper-from_test c.args.cut c.requires.some in
    let some = rw (← c.cut.view_is) at proper in
    omega (arith, ints)

pub span-bottom-requires-clause-some : goal.span-bottom-requires-clause-some
span-bottom-requires-clause-some g c =
    let proper = IsProper-from_test c.args.cut c.requires.some in
    let some = rw (← c.cut.view_is) at proper in
    omega (arith, ints)

pub loop-j-init : goal.loop-j-init
loop-j-init g c =
    let nodes = site_nodes g.E.ImageEffect.meaning c.args.site.now in
    let shown = tile_needs (end_of nodes) (area nodes) c.args.clip c.args.m (to_z w64 (of_z w64 c.args.frame)) in
    let low : to_z w64 (of_z w64 c.cut.inside.y1) ≡ c.args.cut.y1 = rw (← c.cut.view_is) (omega (arith, ints)) in
    let high : to_z w64 (of_z w64 c.cut.inside.y2) ≡ c.args.cut.y2 = rw (← c.cut.view_is) (omega (arith, ints)) in
    let first = rw low at c.span-bottom.ensures.first in
    let end = rw high at c.span-bottom.ensures.end in
    record {
      low = omega (arith, ints);
      ahead = ap (λ tiles. map need_shown c.args.needs.now.items ++ flat_map shown tiles)
          (tiles_of-proper c.args.grid c.args.cut (to_z w64 (of_z w64 c.span-bottom.result.0)) (to_z w64 (of_z w64 c.span-bottom.result.1)) c.requires.some (omega (arith, ints)) (omega (arith, ints)));
    }

pub loop-j-preserved : goal.loop-j-preserved
loop-j-preserved g c =
    let nodes = site_nodes g.E.ImageEffect.meaning c.args.site.now in
    let shown = tile_needs (end_of nodes) (area nodes) c.args.clip c.args.m (to_z w64 (of_z w64 c.args.frame)) in
    let low : to_z w64 (of_z w64 c.cut.inside.x1) ≡ c.args.cut.x1 = rw (← c.cut.view_is) (omega (arith, ints)) in
    let high : to_z w64 (of_z w64 c.cut.inside.x2) ≡ c.args.cut.x2 = rw (← c.cut.view_is) (omega (arith, ints)) in
    let first = rw low at c.span-left.ensures.first in
    let end = rw high at c.span-left.ensures.end in
    record {
      low = omega (arith, ints);
      ahead =
          rows_more shown c.args.grid c.args.cut (to_z w64 c.loop-j.j-bits) _ _ (to_z w64 c.loop-j.j-bits) (to_z w64 (of_z w64 c.span-left.result.0)) (to_z w64 (of_z w64 c.span-left.result.1))
          (map need_shown c.loop-j.needs.items) (map need_shown c.add_row.new.needs.items) _
          (omega (arith, ints)) (omega (arith, ints)) refl (omega (arith, ints)) (omega (arith, ints)) c.in_ok-add_row.ensures c.loop-j.invariant.ahead;
    }

pub returns : goal.returns
returns g c =
    let nodes = site_nodes g.E.ImageEffect.meaning c.args.site.now in
    let frame : SFits w64 c.args.frame = c.ranges.frame in
    let t = to_z w64 (of_z w64 c.args.frame) in
    let done =
    rows_done (tile_needs (end_of nodes) (area nodes) c.args.clip c.args.m t) c.args.grid c.args.cut (to_z w64 c.loop-j.j-bits) (to_z w64 (of_z w64 c.span-bottom.result.1))
    (map need_shown c.loop-j.needs.items) _ (omega (arith, ints)) c.loop-j.invariant.ahead in
    simp to_z-of_z at done
