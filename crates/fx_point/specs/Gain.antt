-- The effect gain: samples times a number, to the nearest and halves up, and no greater than the greatest sample. Of an
-- RGBA pixel a is kept; of an Alpha pixel a is what is multiplied.
use Rattle.std.specs.Prelude.{ℕ, ◌*◌, min, ℤ, pos, negsuc, List, [], ◌∷◌, codes, false}
use Rattle.std.specs.Ordering.{int_eq}
use Rattle.fx_pixel.specs.declared.Depth.TheVariants as depths
use Rattle.fx_pixel.specs.declared.Components.TheVariants as components
use Rattle.fx_pixel.specs.declared.Pixel.{Pixel}
use Rattle.fx_pixel.specs.declared.Pixel.TheVariants.{Rgba, Alpha}
use Rattle.fx_kernel.specs.Blends.{in_units}
use Rattle.fx_params.specs.declared.def.ParamDef.{ParamDef}
use Rattle.fx_params.specs.Def.{fix_def}
use Rattle.fx_effect.specs.Shape.{Shape}
use Rattle.fx_effect.specs.Numbers.{number}
use Rattle.fx_effect.specs.Meaning.{Meaning}
use Rattle.fx_effect.specs.Source.{source_shape, point_effect}
use Rattle.fx_effect.specs.declared.action.Safety.TheVariants.{FullySafe}
use Rattle.fx_point.specs.Colours.{source_where}

-- a sample times k units of 1/65536, where m is the greatest sample
abbrev pub gained : ℕ → ℤ → ℕ → ℕ
gained m (pos k) c = min m (in_units (c * k))
gained m (negsuc k) c = 0

abbrev pub gained_pixel : ℤ → ℕ → Pixel → Pixel
gained_pixel k m (Rgba r g b a) = Rgba (gained m k r) (gained m k g) (gained m k b) a
gained_pixel k m (Alpha a) = Alpha (gained m k a)

-- from 0 to 16, and 1 at the start
abbrev pub gain_params : List ParamDef
gain_params = fix_def (codes "gain") (pos 0) (pos 1048576) (pos 65536) ∷ []

abbrev pub gain_shape : Shape
gain_shape =
    source_shape (codes "gain") (depths.Byte ∷ depths.Short ∷ []) (components.Rgba ∷ components.Alpha ∷ []) false
    FullySafe gain_params

abbrev pub gain : Meaning
gain =
    point_effect gain_shape (λ v m p. gained_pixel (number v 0) m p)
    (λ v window. source_where (int_eq (number v 0) (pos 65536)) v)
