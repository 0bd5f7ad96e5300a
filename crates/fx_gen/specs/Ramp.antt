-- The effect ramp: greys from black at the first column, or row, to white at the last one.
use Rattle.std.specs.Prelude.{◌≡◌, ◌≤◌, ℕ, ◌-◌, ◌*◌, ◌==◌, min, max, ℤ, pos, negsuc, List, [], ◌∷◌, codes, if◌then◌else◌}
use Rattle.std.specs.Ordering.{int_eq}
use Rattle.fx_kernel.specs.Samples.{rounded}
use Rattle.fx_params.specs.declared.def.ParamDef.{ParamDef}
use Rattle.fx_params.specs.Def.{choice_def}
use Rattle.fx_effect.specs.Shape.{Shape}
use Rattle.fx_effect.specs.Numbers.{number}
use Rattle.fx_effect.specs.Meaning.{Meaning}
use Rattle.fx_effect.specs.Generator.{PlacePixels, generator_shape, generator_effect}
use Rattle.fx_effect.specs.declared.values.Values.{Values}
use Rattle.fx_gen.specs.Grey.{grey}

-- The sample at a place of a side, where m is the greatest sample: the share of the way to the last place, to the
-- nearest and halves up, and 0 where the side has one place. It is no greater than m beyond the last place either,
-- where no pixel is made.
abbrev pub shade : ℕ → ℤ → ℤ → ℕ
shade m (pos side) (pos place) = if side == 1 then 0 else min m (rounded (place * m) (side - 1))
shade m side place = 0

-- the last place of a side, and what divides by it, or by 1 where it is 0
pub record IsSide (last count : ℕ) : Type 0 where
  pub few : last ≤ 8191
  pub count_is : count ≡ max last 1

-- along the columns, or along the rows
abbrev pub ramp_shade : Values → ℕ → ℤ → ℤ → ℕ
ramp_shade v m x y = if int_eq (number v 0) (pos 0) then shade m v.project.x2 x else shade m v.project.y2 y

abbrev pub ramp_pixel : Values → PlacePixels
ramp_pixel v c m x y = grey c m (ramp_shade v m x y)

-- along the columns at the start
abbrev pub ramp_params : List ParamDef
ramp_params = choice_def (codes "axis") (codes "x" ∷ codes "y" ∷ []) 0 ∷ []

abbrev pub ramp_shape : Shape
ramp_shape = generator_shape (codes "ramp") ramp_params

abbrev pub ramp : Meaning
ramp = generator_effect ramp_shape ramp_pixel
