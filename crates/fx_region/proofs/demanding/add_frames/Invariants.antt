use Rattle.std.proofs.Common.{◌≡◌, ◌++◌, map, take}
use Rattle.std.specs.List.{flat_map}
use Rattle.fx_scene.specs.Areas.{area}
use Rattle.fx_region.specs.Ends.{end_of}
use Rattle.fx_region.specs.Needs.{frame_needs, need_shown}
use Rattle.fx_scene.specs.Sites.{site_nodes}
use Rattle.fx_region.proofs.demanding.add_frames.Given as goal

abbrev pub invariant-loop-f : goal.invariant-loop-f
invariant-loop-f g l =
    let nodes = site_nodes g.E.ImageEffect.meaning l.site in
    map need_shown l.needs.items ≡ map need_shown l.fn.needs.items
    ++ flat_map (frame_needs (end_of nodes) (area nodes) l.grid l.interest l.clip l.m) (take l.f-index l.frames)
