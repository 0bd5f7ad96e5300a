-- The effect posterise: each of r, g and b goes to the nearest of n levels that lie evenly from 0 to the greatest
-- sample; a is kept. It renders bytes alone.
use Rattle.std.specs.Prelude.{ℕ, ◌-◌, ◌*◌, ℤ, pos, negsuc, List, [], ◌∷◌, codes, false}
use Rattle.std.specs.Ordering.{int_eq}
use Rattle.fx_pixel.specs.declared.Depth.TheVariants as depths
use Rattle.fx_pixel.specs.declared.Components.TheVariants as components
use Rattle.fx_pixel.specs.declared.Pixel.{Pixel}
use Rattle.fx_kernel.specs.Samples.{rounded}
use Rattle.fx_params.specs.declared.def.ParamDef.{ParamDef}
use Rattle.fx_params.specs.Def.{int_def}
use Rattle.fx_effect.specs.Shape.{Shape}
use Rattle.fx_effect.specs.Numbers.{number}
use Rattle.fx_effect.specs.Meaning.{Meaning}
use Rattle.fx_effect.specs.Source.{source_shape, point_effect}
use Rattle.fx_effect.specs.declared.action.Safety.TheVariants.{FullySafe}
use Rattle.fx_point.specs.Colours.{with_colours, source_where}

-- the level that is nearest to c, by its place from 0 to n - 1, and then as a sample, where m is the greatest
abbrev pub posterised : ℕ → ℤ → ℕ → ℕ
posterised m (pos n) c = rounded (rounded (c * (n - 1)) m * m) (n - 1)
posterised m (negsuc n) c = c

abbrev pub posterised_pixel : ℤ → ℕ → Pixel → Pixel
posterised_pixel n m p = with_colours (λ a c. posterised m n c) p

-- from 2 to 256, and 256 at the start
abbrev pub posterise_params : List ParamDef
posterise_params = int_def (codes "levels") (pos 2) (pos 256) (pos 256) ∷ []

abbrev pub posterise_shape : Shape
posterise_shape =
    source_shape (codes "posterise") (depths.Byte ∷ []) (components.Rgba ∷ []) false FullySafe posterise_params

abbrev pub posterise : Meaning
posterise =
    point_effect posterise_shape (λ v m p. posterised_pixel (number v 0) m p)
    (λ v window. source_where (int_eq (number v 0) (pos 256)) v)
