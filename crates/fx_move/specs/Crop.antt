-- The effect crop: the source inside a rectangle, and zero outside it, where nothing is read.
use Rattle.std.specs.Prelude.{ℕ, ℤ, pos, negsuc, ◌+ℤ◌, Bool, false, ◌&&◌, ◌||◌, List, [], ◌∷◌, codes, if◌then◌else◌}
use Rattle.std.specs.Int.Signed.{le_z}
use Rattle.fx_base.specs.Bounds.{Bounds}
use Rattle.fx_base.specs.Rect.{within, rect_of, is_empty, meet}
use Rattle.fx_pixel.specs.declared.Depth.TheVariants as depths
use Rattle.fx_pixel.specs.declared.Components.{Components}
use Rattle.fx_pixel.specs.declared.Components.TheVariants as components
use Rattle.fx_pixel.specs.declared.Pixel.{Pixel}
use Rattle.fx_pixel.specs.Pixel.{zero as clear}
use Rattle.fx_params.specs.declared.def.ParamDef.{ParamDef}
use Rattle.fx_params.specs.Def.{int_def}
use Rattle.fx_props.specs.Entries.{region_of}
use Rattle.fx_effect.specs.Tap.{Tap, tap}
use Rattle.fx_effect.specs.Shape.{Shape}
use Rattle.fx_effect.specs.Numbers.{number}
use Rattle.fx_effect.specs.Meaning.{Meaning}
use Rattle.fx_effect.specs.Source.{source_shape}
use Rattle.fx_effect.specs.Default.{default_spans}
use Rattle.fx_effect.specs.declared.action.Identity.TheVariants.{Same, No}
use Rattle.fx_effect.specs.declared.action.Safety.TheVariants.{FullySafe}
use Rattle.fx_effect.specs.declared.values.Values.{Values}

-- the first column and row, from -16,384 to 16,384, and the width and height, from 0 to 16,384
abbrev pub corner : List ℕ → ParamDef
corner name = int_def name (negsuc 16383) (pos 16384) (pos 0)

abbrev pub side : List ℕ → ParamDef
side name = int_def name (pos 0) (pos 16384) (pos 16384)

abbrev pub crop_params : List ParamDef
crop_params = corner (codes "x") ∷ corner (codes "y") ∷ side (codes "width") ∷ side (codes "height") ∷ []

-- the rectangle that is kept
abbrev pub crop_rect : Values → Bounds
crop_rect v = rect_of (number v 0) (number v 1) (number v 0 +ℤ number v 2) (number v 1 +ℤ number v 3)

-- whether each place of the first lies in the second
abbrev pub is_within : Bounds → Bounds → Bool
is_within r s =
    is_empty r || (((le_z s.x1 r.x1 && le_z r.x2 s.x2) && le_z s.y1 r.y1) && le_z r.y2 s.y2)

-- the one pixel that is read, and zero where none is
abbrev pub one_of : Components → List Pixel → Pixel
one_of c [] = clear c
one_of c (p ∷ pixels) = p

abbrev pub crop_taps : Values → ℤ → ℤ → List Tap
crop_taps v x y = if within (crop_rect v) x y then tap 0 v.frame x y ∷ [] else []

abbrev pub crop_shape : Shape
crop_shape =
    source_shape (codes "crop") (depths.Byte ∷ depths.Short ∷ []) (components.Rgba ∷ components.Alpha ∷ []) false
    FullySafe crop_params

-- over a window inside the rectangle it is the same as its source
abbrev pub crop : Meaning
crop =
    record {
      shape = crop_shape;
      taps = crop_taps;
      mix = λ v c m x y pixels. one_of c pixels;
      spans = default_spans;
      rod = λ c v regions. meet (region_of regions 0) (crop_rect v);
      roi = λ v region clip. meet region (crop_rect v);
      same = λ v window. if is_within window (crop_rect v) then Same 0 v.frame else No;
    }
