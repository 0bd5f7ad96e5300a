-- Definitions of parameters of each kind.
use Rattle.std.specs.Prelude.{ℕ, ◌-◌, ℤ, pos, Bool, List, [], length, if◌then◌else◌}
use Rattle.fx_params.specs.declared.def.ParamKind.TheVariants as kind
use Rattle.fx_params.specs.declared.def.ParamDef.{ParamDef}

-- whole numbers from the least to the greatest
abbrev pub int_def : List ℕ → ℤ → ℤ → ℤ → ParamDef
int_def name least greatest start =
    record { name = name; kind = kind.Int; least = least; greatest = greatest; choices = []; start = start }

-- fixed-point numbers, in their units
abbrev pub fix_def : List ℕ → ℤ → ℤ → ℤ → ParamDef
fix_def name least greatest start =
    record { name = name; kind = kind.Fix; least = least; greatest = greatest; choices = []; start = start }

-- a flag, which is 0 or 1
abbrev pub flag_def : List ℕ → Bool → ParamDef
flag_def name start =
    let number = if start then pos 1 else pos 0 in
    record { name = name; kind = kind.Bool; least = pos 0; greatest = pos 1; choices = []; start = number }

-- one of these texts, by its place
abbrev pub choice_def : List ℕ → List (List ℕ) → ℕ → ParamDef
choice_def name choices start =
    let last = pos (length choices - 1) in
    record { name = name; kind = kind.Choice; least = pos 0; greatest = last; choices = choices; start = pos start }
