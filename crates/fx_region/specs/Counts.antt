-- What becomes of the window tiles of a run.
use Rattle.std.specs.Prelude.{◌≡◌, ◌+◌, ℕ, ℤ, List, map, length, Bool, true, false, count_by}
use Rattle.std.specs.List.{flat_map}
use Rattle.fx_base.specs.Bounds.{Bounds}
use Rattle.fx_base.specs.Grid.{tiles_of}
use Rattle.fx_base.specs.Rect.{meet}
use Rattle.fx_scene.specs.Frames.{int_span}
use Rattle.fx_scene.specs.Nodes.{Nodes}
use Rattle.fx_region.specs.Ends.{EndShown, Frame, Render, Void, end_of}

abbrev pub is_void : EndShown → Bool
is_void Void = true
is_void (Frame node frame region through) = false
is_void (Render node frame region cut through) = false

abbrev pub is_passed : EndShown → Bool
is_passed Void = false
is_passed (Frame node frame region through) = true
is_passed (Render node frame region cut through) = false

abbrev pub is_asked : EndShown → Bool
is_asked Void = false
is_asked (Frame node frame region through) = false
is_asked (Render node frame region cut through) = true

-- how many tiles there are, and how many of them are found nowhere, in a source's frame, and in a render
pub record TileCounts : Type 0 where
  pub tiles : ℕ
  pub void_tiles : ℕ
  pub passed : ℕ
  pub asked : ℕ

abbrev pub count_ends : List EndShown → TileCounts
count_ends ends =
    record {
      tiles = length ends;
      void_tiles = count_by is_void ends;
      passed = count_by is_passed ends;
      asked = count_by is_asked ends;
    }

-- the tiles of a grid that meet the project's extent, each cut to it
abbrev pub window_tiles : ℕ → Bounds → List Bounds
window_tiles side project = map (meet project) (tiles_of side project)

-- where the window tiles of a frame are found at the output's node
abbrev pub window_ends : Nodes → ℕ → ℕ → Bounds → ℤ → List EndShown
window_ends nodes output side project t = map (end_of nodes output t) (window_tiles side project)

-- the counts over the frames from the first to the last
abbrev pub tile_counts : Nodes → ℕ → ℕ → Bounds → ℤ → ℤ → TileCounts
tile_counts nodes output side project first last =
    count_ends (flat_map (window_ends nodes output side project) (int_span first last))

-- each window tile is of one of the three kinds
abbrev pub IsSumOfKinds : TileCounts → Type 0
IsSumOfKinds n = n.tiles ≡ n.void_tiles + n.passed + n.asked
