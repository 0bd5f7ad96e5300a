-- Grids of square tiles: tile (0, 0) has its bottom left corner at the place (0, 0).
use Rattle.std.specs.Prelude.{◌≡◌, ℕ, ℤ, pos, ◌<ℤ◌, ◌+ℤ◌, ◌-ℤ◌, ◌*ℤ◌, ◌⊎◌, List, [], map, if◌then◌else◌}
use Rattle.std.specs.Int.{int_div_euclid}
use Rattle.std.specs.List.{flat_map}
use Rattle.fx_base.specs.Bounds.{Bounds}
use Rattle.fx_base.specs.Rect.{Holds, is_empty}
use Rattle.fx_base.specs.Run.{int_range}

-- the tile in column i and row j of the grid of this side
abbrev pub tile_at : ℕ → ℤ → ℤ → Bounds
tile_at side i j =
    record {
      x1 = i *ℤ pos side;
      y1 = j *ℤ pos side;
      x2 = (i *ℤ pos side) +ℤ pos side;
      y2 = (j *ℤ pos side) +ℤ pos side;
    }

-- the column or row of tiles in which a coordinate lies (`int_div_euclid` by a positive number is the floor)
abbrev pub tile_of : ℕ → ℤ → ℤ
tile_of side x = int_div_euclid x (pos side)

-- the tiles of row j from column `left` up to column `right`, without it
abbrev pub tiles_between : ℕ → ℤ → ℤ → ℤ → List Bounds
tiles_between side j left right = map (λ i. tile_at side i j) (int_range left right)

-- the column or row of tiles behind the last one that has a coordinate before x
abbrev pub tile_after : ℕ → ℤ → ℤ
tile_after side x = tile_of side (x -ℤ pos 1) +ℤ pos 1

-- the tiles of these rows that lie in the columns of r
abbrev pub tiles_in_rows : ℕ → Bounds → ℤ → ℤ → List Bounds
tiles_in_rows side r bottom top =
    flat_map (λ j. tiles_between side j (tile_of side r.x1) (tile_after side r.x2)) (int_range bottom top)

-- the tiles that hold a place of r, whole, by rising row and then rising column
unfoldable pub tiles_of : ℕ → Bounds → List Bounds
tiles_of side r = if is_empty r then [] else tiles_in_rows side r (tile_of side r.y1) (tile_after side r.y2)

-- the rectangle is a tile of the grid that holds a place of r
pub record IsTileOf (side : ℕ) (r tile : Bounds) : Type 0 where
  pub column : ℤ
  pub row : ℤ
  pub is : tile ≡ tile_at side column row
  pub x : ℤ
  pub y : ℤ
  pub in_tile : Holds tile x y
  pub in_rect : Holds r x y

-- the first lies in a lower row, or further left in the same one
abbrev pub IsBefore : Bounds → Bounds → Type 0
IsBefore first second = (first.y1 <ℤ second.y1) ⊎ ((first.y1 ≡ second.y1) × (first.x1 <ℤ second.x1))
