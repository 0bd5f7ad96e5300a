use Rattle.std.proofs.Common.{◌≡◌, length, map}
use Rattle.std.specs.List.{flat_map, range_with_len}
use Rattle.fx_scene.specs.Areas.{area}
use Rattle.fx_region.specs.Ends.{end_of}
use Rattle.fx_region.specs.Needs.{need_shown, needs_at}
use Rattle.fx_scene.specs.Sites.{effect_at, site_nodes}
use Rattle.fx_region.proofs.demanding.needs_of_clips.Given as goal

abbrev pub invariant-loop-c : goal.invariant-loop-c
invariant-loop-c g l =
    let nodes = site_nodes g.E.ImageEffect.meaning l.site in
    let o = effect_at g.E.ImageEffect.meaning l.site.graph.now.project l.node in
    record {
      count : l.c-end ≡ length l.node.clips.now;
      needs : map need_shown l.needs.items ≡ flat_map (needs_at (end_of nodes) (area nodes) l.grid o l.frame l.fn._region) (range_with_len 0 l.c);
    }
