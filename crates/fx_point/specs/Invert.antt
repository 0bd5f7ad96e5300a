-- The effect invert: each of r, g and b is taken from a, and is 0 where it is above it; a is kept.
use Rattle.std.specs.Prelude.{◌-◌, false, [], ◌∷◌, codes}
use Rattle.fx_pixel.specs.declared.Depth.TheVariants as depths
use Rattle.fx_pixel.specs.declared.Components.TheVariants as components
use Rattle.fx_pixel.specs.declared.Pixel.{Pixel}
use Rattle.fx_pixel.specs.declared.Pixel.TheVariants.{Rgba, Alpha}
use Rattle.fx_effect.specs.Shape.{Shape}
use Rattle.fx_effect.specs.Meaning.{Meaning}
use Rattle.fx_effect.specs.Source.{source_shape, point_effect}
use Rattle.fx_effect.specs.declared.action.Identity.TheVariants.{No}
use Rattle.fx_effect.specs.declared.action.Safety.TheVariants.{FullySafe}

abbrev pub inverted : Pixel → Pixel
inverted (Rgba r g b a) = Rgba (a - r) (a - g) (a - b) a
inverted (Alpha a) = Alpha a

abbrev pub invert_shape : Shape
invert_shape = source_shape (codes "invert") (depths.Byte ∷ depths.Short ∷ []) (components.Rgba ∷ []) false FullySafe []

abbrev pub invert : Meaning
invert = point_effect invert_shape (λ v m p. inverted p) (λ v window. No)
