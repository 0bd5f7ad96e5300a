-- Values of parameters. A value is one number.
use Rattle.std.specs.Prelude.{ℤ, pos, Bool, true, false, ◌&&◌, IsTrue, if◌then◌else◌, Option, Some, None}
use Rattle.std.specs.Int.Signed.{le_z}
use Rattle.fx_params.specs.declared.def.ParamKind.{ParamKind}
use Rattle.fx_params.specs.declared.def.ParamKind.TheVariants as kind
use Rattle.fx_params.specs.declared.def.ParamValue.{ParamValue}
use Rattle.fx_params.specs.declared.def.ParamValue.TheVariants as value
use Rattle.fx_params.specs.declared.def.ParamDef.{ParamDef}
use Rattle.fx_params.specs.declared.def.ParamFault.{ParamFault}
use Rattle.fx_params.specs.declared.def.ParamFault.TheVariants.{OutOfRange, WrongKind}

-- the number of a value: an int, the units of a fixed-point number, 0 or 1, or the place of a choice
abbrev pub number_of : ParamValue → ℤ
number_of (value.Int n) = n
number_of (value.Fix f) = f.raw
number_of (value.Flag b) = if b then pos 1 else pos 0
number_of (value.Choice place) = pos place

-- whether the value is of the kind
abbrev pub is_of_kind : ParamKind → ParamValue → Bool
is_of_kind kind.Int (value.Int n) = true
is_of_kind kind.Fix (value.Fix f) = true
is_of_kind kind.Bool (value.Flag b) = true
is_of_kind kind.Choice (value.Choice place) = true
is_of_kind k v = false

-- whether the number lies from the least to the greatest
abbrev pub within : ParamDef → ℤ → Bool
within def n = le_z def.least n && le_z n def.greatest

abbrev pub IsWithin : ParamDef → ℤ → Type 0
IsWithin def n = IsTrue (within def n)

-- why the parameter refuses a value: it isn't of its kind, or else its number is outside of the range
abbrev pub refusal : ParamDef → ParamValue → Option ParamFault
refusal def v =
    if is_of_kind def.kind v then (if within def (number_of v) then None else Some OutOfRange) else Some WrongKind
