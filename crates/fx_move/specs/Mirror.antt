-- The effect mirror: the source with its columns, or its rows, in the other order, within the project's extent.
use Rattle.std.specs.Prelude.{ℤ, pos, ◌-ℤ◌, Bool, false, List, [], ◌∷◌, codes, if◌then◌else◌}
use Rattle.std.specs.Ordering.{int_eq}
use Rattle.fx_base.specs.Bounds.{Bounds}
use Rattle.fx_base.specs.Rect.{rect_of}
use Rattle.fx_pixel.specs.declared.Depth.TheVariants as depths
use Rattle.fx_pixel.specs.declared.Components.TheVariants as components
use Rattle.fx_params.specs.declared.def.ParamDef.{ParamDef}
use Rattle.fx_params.specs.Def.{choice_def}
use Rattle.fx_props.specs.Entries.{region_of}
use Rattle.fx_effect.specs.Tap.{tap}
use Rattle.fx_effect.specs.Shape.{Shape}
use Rattle.fx_effect.specs.Numbers.{number}
use Rattle.fx_effect.specs.Meaning.{Meaning}
use Rattle.fx_effect.specs.Source.{source_shape}
use Rattle.fx_effect.specs.Default.{default_spans}
use Rattle.fx_effect.specs.declared.action.Identity.TheVariants.{No}
use Rattle.fx_effect.specs.declared.action.Safety.TheVariants.{FullySafe}
use Rattle.fx_effect.specs.declared.values.Values.{Values}
use Rattle.fx_move.specs.Crop.{one_of}

-- x turns the order of the columns, and y that of the rows
abbrev pub mirror_params : List ParamDef
mirror_params = choice_def (codes "axis") (codes "x" ∷ codes "y" ∷ []) 0 ∷ []

abbrev pub turns_columns : Values → Bool
turns_columns v = int_eq (number v 0) (pos 0)

-- the column, or the row, that has this one's place: among n of them the last one has that of 0
abbrev pub opposite : ℤ → ℤ → ℤ
opposite n x = (n -ℤ pos 1) -ℤ x

-- the column and the row that the pixel at a place reads
abbrev pub mirror_x : Values → ℤ → ℤ
mirror_x v x = if turns_columns v then opposite v.project.x2 x else x

abbrev pub mirror_y : Values → ℤ → ℤ
mirror_y v y = if turns_columns v then y else opposite v.project.y2 y

-- the rectangle of the places that a rectangle's pixels read
abbrev pub mirrored : Values → Bounds → Bounds
mirrored v r =
    if turns_columns v
    then rect_of (v.project.x2 -ℤ r.x2) r.y1 (v.project.x2 -ℤ r.x1) r.y2
    else rect_of r.x1 (v.project.y2 -ℤ r.y2) r.x2 (v.project.y2 -ℤ r.y1)

abbrev pub mirror_shape : Shape
mirror_shape =
    source_shape (codes "mirror") (depths.Byte ∷ depths.Short ∷ []) (components.Rgba ∷ components.Alpha ∷ []) false
    FullySafe mirror_params

abbrev pub mirror : Meaning
mirror =
    record {
      shape = mirror_shape;
      taps = λ v x y. tap 0 v.frame (mirror_x v x) (mirror_y v y) ∷ [];
      mix = λ v c m x y pixels. one_of c pixels;
      spans = default_spans;
      rod = λ c v regions. mirrored v (region_of regions 0);
      roi = λ v region clip. mirrored v region;
      same = λ v window. No;
    }
