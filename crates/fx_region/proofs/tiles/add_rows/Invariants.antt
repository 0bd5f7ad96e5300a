use Rattle.std.proofs.Common.{◌≡◌, ◌++◌, negsuc, ◌≤ℤ◌, map}
use Rattle.std.specs.List.{flat_map}
use Rattle.fx_base.specs.Grid.{tiles_in_rows, tiles_of}
use Rattle.fx_scene.specs.Areas.{area}
use Rattle.fx_region.specs.Ends.{end_of}
use Rattle.fx_region.specs.Needs.{need_shown, tile_needs}
use Rattle.fx_scene.specs.Sites.{site_nodes}
use Rattle.fx_region.proofs.tiles.add_rows.Given as goal

abbrev pub invariant-loop-j : goal.invariant-loop-j
invariant-loop-j g l =
    let nodes = site_nodes g.E.ImageEffect.meaning l.site in
    let shown = tile_needs (end_of nodes) (area nodes) l.clip l.m l.frame in
    record {
      low : negsuc 1073741823 ≤ℤ l.j;
      ahead : map need_shown l.needs.items ++ flat_map shown (tiles_in_rows l.grid l.fn.cut l.j l.top)
          ≡ map need_shown l.fn.needs.items ++ flat_map shown (tiles_of l.grid l.fn.cut);
    }
