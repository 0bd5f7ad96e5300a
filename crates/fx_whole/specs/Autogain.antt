-- The effect autogain: each of r, g and b over the greatest r, g or b of the project's extent.
use Rattle.std.specs.Prelude.{ℕ, ◌*◌, ◌==◌, ℤ, false, min, max, List, [], ◌∷◌, map, codes, if◌then◌else◌}
use Rattle.std.specs.List.{flat_map}
use Rattle.fx_base.specs.Bounds.{Bounds}
use Rattle.fx_base.specs.Rect.{meet, within}
use Rattle.fx_base.specs.Run.{int_range}
use Rattle.fx_pixel.specs.declared.Depth.TheVariants as depths
use Rattle.fx_pixel.specs.declared.Components.{Components}
use Rattle.fx_pixel.specs.declared.Components.TheVariants as components
use Rattle.fx_pixel.specs.declared.Pixel.{Pixel}
use Rattle.fx_pixel.specs.declared.Pixel.TheVariants.{Rgba, Alpha}
use Rattle.fx_pixel.specs.Pixel.{zero as clear}
use Rattle.fx_kernel.specs.Samples.{rounded}
use Rattle.fx_props.specs.Entries.{region_of}
use Rattle.fx_effect.specs.Tap.{Tap, tap}
use Rattle.fx_effect.specs.Shape.{Shape}
use Rattle.fx_effect.specs.Meaning.{Meaning}
use Rattle.fx_effect.specs.Source.{source_shape}
use Rattle.fx_effect.specs.Default.{default_spans}
use Rattle.fx_effect.specs.declared.action.Identity.TheVariants.{No}
use Rattle.fx_effect.specs.declared.action.Safety.TheVariants.{FullySafe}
use Rattle.fx_effect.specs.declared.values.Values.{Values}

-- the greatest of r, g and b
abbrev pub brightness : Pixel → ℕ
brightness (Rgba r g b a) = max r (max g b)
brightness (Alpha a) = 0

-- that of the brightest pixel, and 0 where there is none
abbrev pub brightest : List Pixel → ℕ
brightest [] = 0
brightest (p ∷ pixels) = max (brightness p) (brightest pixels)

-- c over the level, where `most` is the greatest sample, to the nearest, halves up, and no greater than that; where the
-- level is 0 it stays
abbrev pub scaled : ℕ → ℕ → ℕ → ℕ
scaled most level c = if level == 0 then c else min most (rounded (c * most) level)

-- each of r, g and b is scaled, and a is kept
abbrev pub levelled : ℕ → ℕ → Pixel → Pixel
levelled most level (Rgba r g b a) = Rgba (scaled most level r) (scaled most level g) (scaled most level b) a
levelled most level (Alpha a) = Alpha a

-- the places of row y, and those of all rows from the bottom up
abbrev pub row_taps : Bounds → ℤ → ℤ → List Tap
row_taps r t y = map (λ x. tap 0 t x y) (int_range r.x1 r.x2)

abbrev pub extent_taps : Bounds → ℤ → List Tap
extent_taps r t = flat_map (row_taps r t) (int_range r.y1 r.y2)

-- its own place and each place of the project's extent, and outside the extent nothing
abbrev pub autogain_taps : Values → ℤ → ℤ → List Tap
autogain_taps v x y =
    if within v.project x y then tap 0 v.frame x y ∷ extent_taps v.project v.frame else []

-- the first pixel, levelled by the brightest of the others
abbrev pub autogain_of : Components → ℕ → List Pixel → Pixel
autogain_of c most [] = clear c
autogain_of c most (p ∷ pixels) = levelled most (brightest pixels) p

-- a filter for RGBA
abbrev pub filter_shape : Shape
filter_shape =
    source_shape (codes "autogain") (depths.Byte ∷ depths.Short ∷ []) (components.Rgba ∷ []) false FullySafe []

-- that renders no tiles
abbrev pub autogain_shape : Shape
autogain_shape = record filter_shape { tiles = false }

abbrev pub autogain : Meaning
autogain =
    record {
      shape = autogain_shape;
      taps = autogain_taps;
      mix = λ v c m x y pixels. autogain_of c m pixels;
      spans = default_spans;
      rod = λ c v regions. meet (region_of regions 0) v.project;
      roi = λ v region clip. v.project;
      same = λ v window. No;
    }
