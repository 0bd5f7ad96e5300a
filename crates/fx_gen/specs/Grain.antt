-- The effect grain: greys that look random, and that the place, the frame and a seed decide.
use Rattle.std.specs.Prelude.{ℕ, ◌+◌, ◌*◌, ◌/◌, ◌%◌, ℤ, pos, negsuc, ◌+ℤ◌, ◌*ℤ◌, List, [], ◌∷◌, codes, unsigned_abs}
use Rattle.std.specs.Int.{int_rem_euclid}
use Rattle.fx_params.specs.declared.def.ParamDef.{ParamDef}
use Rattle.fx_params.specs.Def.{int_def}
use Rattle.fx_effect.specs.Shape.{Shape}
use Rattle.fx_effect.specs.Numbers.{number}
use Rattle.fx_effect.specs.Meaning.{Meaning}
use Rattle.fx_effect.specs.Generator.{PlacePixels, generator_shape, generator_effect}
use Rattle.fx_effect.specs.declared.values.Values.{Values}
use Rattle.fx_gen.specs.Solid.{scale, level}
use Rattle.fx_gen.specs.Grey.{grey}

-- the remainder by 2^32, from 0 on, of negative numbers too
abbrev pub wrapped : ℤ → ℕ
wrapped z = unsigned_abs (int_rem_euclid z (pos 4294967296))

-- from a seed, a place and a frame
abbrev pub mixed_in : ℤ → ℤ → ℤ → ℤ → ℕ
mixed_in seed x y t =
    wrapped (x *ℤ pos 73856093 +ℤ y *ℤ pos 19349663 +ℤ t *ℤ pos 83492791 +ℤ seed)

abbrev pub squared : ℕ → ℕ
squared h = (h * (2 * h + 1)) % 4294967296

-- the two halves of 32 bits change places
abbrev pub turned : ℕ → ℕ
turned h = h / 65536 + 65536 * (h % 65536)

-- from 0 to 65535
abbrev pub noise : ℕ → ℕ
noise h = squared (turned (squared h)) / 65536

-- the noise of a seed, a place and a frame, as much as `most`
abbrev pub grain_shade : ℕ → ℤ → ℤ → ℤ → ℤ → ℕ
grain_shade most seed x y t = noise (mixed_in seed x y t) * most / 65535

abbrev pub grain_pixel : Values → PlacePixels
grain_pixel v c m x y = grey c m (grain_shade (scale m (number v 1)) (number v 0) x y v.frame)

-- seed 0, and as light as can be, at the start
abbrev pub grain_params : List ParamDef
grain_params = int_def (codes "seed") (pos 0) (pos 999999) (pos 0) ∷ level (codes "amount") (pos 65536) ∷ []

abbrev pub grain_shape : Shape
grain_shape = generator_shape (codes "grain") grain_params

abbrev pub grain : Meaning
grain = generator_effect grain_shape grain_pixel
