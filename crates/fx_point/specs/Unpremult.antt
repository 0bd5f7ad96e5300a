-- The effect unpremult: each of r, g and b over a, where the greatest sample stands for 1, to the nearest and halves
-- up, and no greater than the greatest sample. Where a is 0 the pixel is zero.
use Rattle.std.specs.Prelude.{ℕ, ◌*◌, ◌==◌, min, false, [], ◌∷◌, codes, if◌then◌else◌}
use Rattle.fx_pixel.specs.declared.Depth.TheVariants as depths
use Rattle.fx_pixel.specs.declared.Components.TheVariants as components
use Rattle.fx_pixel.specs.declared.Pixel.{Pixel}
use Rattle.fx_kernel.specs.Samples.{rounded}
use Rattle.fx_effect.specs.Shape.{Shape}
use Rattle.fx_effect.specs.Meaning.{Meaning}
use Rattle.fx_effect.specs.Source.{source_shape, point_effect}
use Rattle.fx_effect.specs.declared.action.Identity.TheVariants.{No}
use Rattle.fx_effect.specs.declared.action.Safety.TheVariants.{FullySafe}
use Rattle.fx_point.specs.Colours.{with_colours}

-- c over a, where m is the greatest sample
abbrev pub quotient : ℕ → ℕ → ℕ → ℕ
quotient m a c = if a == 0 then 0 else min m (rounded (c * m) a)

abbrev pub unpremultiplied : ℕ → Pixel → Pixel
unpremultiplied m p = with_colours (quotient m) p

abbrev pub unpremult_shape : Shape
unpremult_shape =
    source_shape (codes "unpremult") (depths.Byte ∷ depths.Short ∷ []) (components.Rgba ∷ []) false FullySafe []

abbrev pub unpremult : Meaning
unpremult = point_effect unpremult_shape (λ v m p. unpremultiplied m p) (λ v window. No)
