-- Pixels that are made of the pixels of two clips at their own place, and the hull of both clips' regions.
use Rattle.std.specs.Prelude.{ℤ, List}
use Rattle.fx_base.specs.Bounds.{Bounds}
use Rattle.fx_base.specs.Rect.{hull}
use Rattle.fx_pixel.specs.declared.Depth.{Depth}
use Rattle.fx_pixel.specs.declared.Components.{Components}
use Rattle.fx_pixel.specs.declared.Pixel.{Pixel}
use Rattle.fx_props.specs.Entries.{region_of}
use Rattle.fx_effect.specs.declared.pairs.Reading.{Reading}
use Rattle.fx_effect.specs.Given.{Given, row_pixel, ShowsClip}

-- both clips are there, and seen at this depth and in these components
pub record ShowsPair (given : Given) (first second : Reading) (depth : Depth) (c : Components) : Type 0 where
  pub one : ShowsClip given first.clip depth c
  pub other : ShowsClip given second.clip depth c

-- the pixel that is made of theirs
abbrev pub pair_pixel : (Pixel → Pixel → Pixel) → Given → Reading → Reading → ℤ → ℤ → Pixel
pair_pixel of given first second x y =
    of (row_pixel given first.clip first.frame x y) (row_pixel given second.clip second.frame x y)

-- the hull of the regions of the first two clips
abbrev pub both_regions : List Bounds → Bounds
both_regions regions = hull (region_of regions 0) (region_of regions 1)
