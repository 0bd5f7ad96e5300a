use Rattle.std.specs.List.{flat_map}
use Rattle.fx_scene.specs.Frames.{int_span}
use Rattle.fx_region.specs.Counts.{window_ends}
use Rattle.fx_region.proofs.CountLaws.{sum_of_kinds}
use Rattle.fx_region.proofs.laws.tiles_are_of_three_kinds.Goals as goal

pub returns : goal.returns
returns c nodes output side project first last =
    sum_of_kinds (flat_map (window_ends nodes output side project) (int_span first last))
