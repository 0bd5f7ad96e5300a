use Rattle.std.proofs.Common.{◌≡◌, ◌++◌, map, take, drop}
use Rattle.fx_base.specs.Rect.{meet}
use Rattle.fx_tile.proofs.ground.window_tiles.Given as goal

abbrev pub invariant-loop-tile : goal.invariant-loop-tile
invariant-loop-tile l =
    l.tile-items ≡ map (meet l.project) (take l.tile-index l.initial.tile-items) ++ drop l.tile-index l.initial.tile-items
