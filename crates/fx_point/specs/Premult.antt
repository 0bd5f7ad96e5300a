-- The effect premult: each of r, g and b times a, where the greatest sample stands for 1, to the nearest and halves up.
use Rattle.std.specs.Prelude.{ℕ, false, [], ◌∷◌, codes}
use Rattle.fx_pixel.specs.declared.Depth.TheVariants as depths
use Rattle.fx_pixel.specs.declared.Components.TheVariants as components
use Rattle.fx_pixel.specs.declared.Pixel.{Pixel}
use Rattle.fx_kernel.specs.Blends.{product}
use Rattle.fx_effect.specs.Shape.{Shape}
use Rattle.fx_effect.specs.Meaning.{Meaning}
use Rattle.fx_effect.specs.Source.{source_shape, point_effect}
use Rattle.fx_effect.specs.declared.action.Identity.TheVariants.{No}
use Rattle.fx_effect.specs.declared.action.Safety.TheVariants.{FullySafe}
use Rattle.fx_point.specs.Colours.{with_colours}

abbrev pub premultiplied : ℕ → Pixel → Pixel
premultiplied m p = with_colours (λ a c. product m c a) p

abbrev pub premult_shape : Shape
premult_shape =
    source_shape (codes "premult") (depths.Byte ∷ depths.Short ∷ []) (components.Rgba ∷ []) false FullySafe []

abbrev pub premult : Meaning
premult = point_effect premult_shape (λ v m p. premultiplied m p) (λ v window. No)
