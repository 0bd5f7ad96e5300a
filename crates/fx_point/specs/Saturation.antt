-- The effect saturation: each of r, g and b moves away from the pixel's luma, or toward it; a is kept.
use Rattle.std.specs.Prelude.{ℕ, ◌+◌, ◌*◌, ◌/◌, ℤ, pos, ◌+ℤ◌, ◌-ℤ◌, ◌*ℤ◌, List, [], ◌∷◌, codes, false}
use Rattle.std.specs.Int.{int_div_euclid}
use Rattle.std.specs.Ordering.{int_eq}
use Rattle.fx_pixel.specs.declared.Depth.TheVariants as depths
use Rattle.fx_pixel.specs.declared.Components.TheVariants as components
use Rattle.fx_pixel.specs.declared.Pixel.{Pixel}
use Rattle.fx_pixel.specs.declared.Pixel.TheVariants.{Rgba, Alpha}
use Rattle.fx_params.specs.declared.def.ParamDef.{ParamDef}
use Rattle.fx_params.specs.Def.{fix_def}
use Rattle.fx_effect.specs.Shape.{Shape}
use Rattle.fx_effect.specs.Numbers.{number}
use Rattle.fx_effect.specs.Meaning.{Meaning}
use Rattle.fx_effect.specs.Source.{source_shape, point_effect}
use Rattle.fx_effect.specs.declared.action.Safety.TheVariants.{FullySafe}
use Rattle.fx_kernel.specs.Samples.{clamped}
use Rattle.fx_point.specs.Colours.{source_where}

-- 0.2126 r + 0.7152 g + 0.0722 b, to the nearest and halves up
abbrev pub luma : ℕ → ℕ → ℕ → ℕ
luma r g b = (r * 2126 + g * 7152 + b * 722 + 5000) / 10000

-- the luma l, and k units of 1/65536 of the way from it to c. `int_div_euclid` by a positive number is the floor.
abbrev pub saturated : ℕ → ℤ → ℕ → ℕ → ℕ
saturated m k l c = clamped m (pos l +ℤ int_div_euclid ((pos c -ℤ pos l) *ℤ k) (pos 65536))

abbrev pub saturated_pixel : ℤ → ℕ → Pixel → Pixel
saturated_pixel k m (Rgba r g b a) =
    let of = saturated m k (luma r g b) in
    Rgba (of r) (of g) (of b) a
saturated_pixel k m (Alpha a) = Alpha a

-- from 0 to 4, and 1 at the start
abbrev pub saturation_params : List ParamDef
saturation_params = fix_def (codes "amount") (pos 0) (pos 262144) (pos 65536) ∷ []

abbrev pub saturation_shape : Shape
saturation_shape =
    source_shape (codes "saturation") (depths.Byte ∷ depths.Short ∷ []) (components.Rgba ∷ []) false FullySafe
    saturation_params

abbrev pub saturation : Meaning
saturation =
    point_effect saturation_shape (λ v m p. saturated_pixel (number v 0) m p)
    (λ v window. source_where (int_eq (number v 0) (pos 65536)) v)
