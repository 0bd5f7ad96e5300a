use Rattle.std.proofs.Common.{◌*◌, ◌+◌, take}
use Rattle.std.specs.List.{sum_by}
use Rattle.fx_scene.specs.Sites.{scene_nodes}
use Rattle.fx_tile.specs.Counts.{Follows, IsUnasked, Met, one_if_some}
use Rattle.fx_tile.specs.Kept.{KeepsSeat, made_of}
use Rattle.fx_tile.specs.Setups.{MayBeTilesOf}
use Rattle.fx_tile.proofs.GatherLemmas.{Gathers}
use Rattle.fx_tile.proofs.tile.+fetching.Given as goal

abbrev pub decreases-fetch : goal.decreases-fetch
decreases-fetch g l = 9 * l.node + 8

abbrev pub decreases-fetch_unless_busy : goal.decreases-fetch_unless_busy
decreases-fetch_unless_busy g l = 9 * l.node + 7

abbrev pub decreases-made : goal.decreases-made
decreases-made g l = 9 * l.node + 6

abbrev pub decreases-image_of : goal.decreases-image_of
decreases-image_of g l = 9 * l.node + 5

abbrev pub decreases-gathered : goal.decreases-gathered
decreases-gathered g l = 9 * l.node + 4

abbrev pub decreases-gathered_unless_busy : goal.decreases-gathered_unless_busy
decreases-gathered_unless_busy g l = 9 * l.node + 3

abbrev pub decreases-tile_unless_busy : goal.decreases-tile_unless_busy
decreases-tile_unless_busy g l = 9 * l.node + 2

abbrev pub decreases-tile_for : goal.decreases-tile_for
decreases-tile_for g l = 9 * l.node + 1

abbrev pub invariant-fetch-loop : goal.invariant-fetch-loop
invariant-fetch-loop g l =
    record {
      seat : KeepsSeat l.fn.seat l.seat;
      unasked : IsUnasked (made_of l.fn.seat) (made_of l.seat);
      follows : Follows l.fn.sum l.sum (made_of l.fn.seat) (made_of l.seat);
    }

abbrev pub invariant-gathered-loop-i : goal.invariant-gathered-loop-i
invariant-gathered-loop-i g l =
    record {
      seat : KeepsSeat l.fn.seat l.seat;
      follows : Follows l.fn.sum l.sum (made_of l.fn.seat) (made_of l.seat);
      gathers : Gathers g.E.ImageEffect.meaning l.setup l.needs l.i l.early.items l.tiles.items (made_of l.fn.seat) (made_of l.seat);
    }

abbrev pub invariant-gathered_unless_busy-loop-need : goal.invariant-gathered_unless_busy-loop-need
invariant-gathered_unless_busy-loop-need g l =
    record {
      seat : KeepsSeat l.fn.seat l.seat;
      met : Met (sum_by one_if_some l.tiles.items) (made_of l.fn.seat) (made_of l.seat);
      follows : Follows l.fn.sum l.sum (made_of l.fn.seat) (made_of l.seat);
      tiles : MayBeTilesOf (scene_nodes g.E.ImageEffect.meaning l.setup.scene.now) (take l.need-index l.needs) l.tiles.items;
    }
