-- The effect checker: squares of a size, by turns of a level and black. Those of the level are even: the column of a
-- square and its row, counted from the origin, have an even sum.
use Rattle.std.specs.Prelude.{ℕ, ◌+◌, ◌/◌, ◌%◌, ◌==◌, ℤ, pos, Bool, List, [], ◌∷◌, codes, if◌then◌else◌}
use Rattle.fx_params.specs.declared.def.ParamDef.{ParamDef}
use Rattle.fx_params.specs.Def.{int_def}
use Rattle.fx_effect.specs.Shape.{Shape}
use Rattle.fx_effect.specs.Numbers.{number}
use Rattle.fx_effect.specs.Meaning.{Meaning}
use Rattle.fx_effect.specs.Generator.{PlacePixels, generator_shape, generator_effect}
use Rattle.fx_effect.specs.declared.values.Values.{Values}
use Rattle.fx_gen.specs.Solid.{scale, level}
use Rattle.fx_gen.specs.Grey.{grey}

-- which column, or row, of squares has a place, counted from the origin, before which no pixel is made
abbrev pub square : ℤ → ℤ → ℕ
square (pos size) (pos place) = place / size
square size place = 0

-- whether a place lies in an even square
abbrev pub is_even : ℤ → ℤ → ℤ → Bool
is_even size x y = (square size x + square size y) % 2 == 0

abbrev pub checker_pixel : Values → PlacePixels
checker_pixel v c m x y = grey c m (if is_even (number v 0) x y then scale m (number v 1) else 0)

-- squares of 16 pixels, white at the start
abbrev pub checker_params : List ParamDef
checker_params = int_def (codes "size") (pos 1) (pos 4096) (pos 16) ∷ level (codes "level") (pos 65536) ∷ []

abbrev pub checker_shape : Shape
checker_shape = generator_shape (codes "checker") checker_params

abbrev pub checker : Meaning
checker = generator_effect checker_shape checker_pixel
