-- The lengths: the parameters of effects that count pixels, or parts of one.
use Rattle.std.specs.Prelude.{◌≡◌, ℕ, ℤ, pos, ◌==◌, ◌||◌, Bool, true, List, [], is_some, Option, Some, slice_get, take, if◌then◌else◌}
use Rattle.std.specs.Int.{int_max}
use Rattle.fx_params.specs.declared.def.ParamDef.{ParamDef}
use Rattle.fx_params.specs.Parameter.{Parameter, divided, with_values}
use Rattle.fx_gen.specs.Checker.{checker_params}
use Rattle.fx_area.specs.Boxblur.{radii}
use Rattle.fx_area.specs.Erode.{radius_params}
use Rattle.fx_move.specs.Crop.{crop_params}
use Rattle.fx_move.specs.Translate.{translate_params}
use Rattle.fx_shipped.specs.Shipped.{number_of}
use Rattle.fx_shipped.specs.declared.shipped.Shipped.TheVariants as shipped

-- The definitions of an effect's lengths, by its number: the size of checker, the radii of boxblur, the radius of erode
-- and of dilate, the corner and the sides of crop, and the distances of translate. They are its first parameters.
abbrev pub lengths_of : ℕ → List ParamDef
lengths_of effect =
    if effect == number_of shipped.Checker then take 1 checker_params
    else (if effect == number_of shipped.Boxblur then radii
    else (if effect == number_of shipped.Erode || effect == number_of shipped.Dilate then radius_params
    else (if effect == number_of shipped.Crop then crop_params
    else (if effect == number_of shipped.Translate then translate_params else []))))

-- the length at a place among the effect's parameters, if a length stands there
abbrev pub length_at : ℕ → ℕ → Option ParamDef
length_at effect place = slice_get (lengths_of effect) place

abbrev pub is_length : ℕ → ℕ → Bool
is_length effect place = is_some (length_at effect place)

-- where a length stands at the place, the parameter has its definition
abbrev pub HasLength : ℕ → ℕ → Parameter → Type 0
HasLength effect place p = is_length effect place ≡ true → length_at effect place ≡ Some p.def

-- v / q to the nearest and halves up, and the size of checker at least 1
abbrev pub scaled_number : ℕ → ℕ → ℤ → ℤ
scaled_number effect q v =
    if effect == number_of shipped.Checker then int_max (divided q v) (pos 1) else divided q v

-- each value and each key's value of a length is scaled, and nothing else
abbrev pub scaled_param : ℕ → ℕ → ℕ → Parameter → Parameter
scaled_param effect place q p =
    if is_length effect place then with_values (scaled_number effect q) p else p
