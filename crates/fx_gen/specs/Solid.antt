-- The effect solid: one colour over the project's extent, and zero outside it. Its parameters r, g, b and a are levels
-- from 0 to 1, as numbers of units of 1/65536.
use Rattle.std.specs.Prelude.{ℕ, ◌+◌, ◌*◌, ◌/◌, ℤ, pos, negsuc, List, [], ◌∷◌, codes}
use Rattle.fx_pixel.specs.declared.Components.{Components}
use Rattle.fx_pixel.specs.declared.Components.TheVariants as components
use Rattle.fx_pixel.specs.declared.Pixel.{Pixel}
use Rattle.fx_pixel.specs.declared.Pixel.TheVariants.{Rgba, Alpha}
use Rattle.fx_params.specs.declared.def.ParamDef.{ParamDef}
use Rattle.fx_params.specs.Def.{fix_def}
use Rattle.fx_effect.specs.Shape.{Shape}
use Rattle.fx_effect.specs.Numbers.{number}
use Rattle.fx_effect.specs.Meaning.{Meaning}
use Rattle.fx_effect.specs.Generator.{generator_shape, generator_effect}
use Rattle.fx_effect.specs.declared.values.Values.{Values}

-- a level as a sample, where m is the greatest: m times the level, to the nearest and halves up
abbrev pub scale : ℕ → ℤ → ℕ
scale m (pos level) = (2 * level * m + 65536) / 131072
scale m (negsuc n) = 0

-- r, g, b and a, or a alone
abbrev pub colour : Values → Components → ℕ → Pixel
colour v components.Rgba m =
    Rgba (scale m (number v 0)) (scale m (number v 1)) (scale m (number v 2)) (scale m (number v 3))
colour v components.Alpha m = Alpha (scale m (number v 3))

-- a level from 0 to 1
abbrev pub level : List ℕ → ℤ → ParamDef
level name start = fix_def name (pos 0) (pos 65536) start

-- opaque black at the start
abbrev pub levels : List ParamDef
levels =
    level (codes "r") (pos 0) ∷ level (codes "g") (pos 0) ∷ level (codes "b") (pos 0) ∷ level (codes "a") (pos 65536)
    ∷ []

abbrev pub solid_shape : Shape
solid_shape = generator_shape (codes "solid") levels

abbrev pub solid : Meaning
solid = generator_effect solid_shape (λ v c m x y. colour v c m)
