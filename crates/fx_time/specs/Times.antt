-- Filters that read other frames of the clip Source.
use Rattle.std.specs.Prelude.{ℕ, ℤ, true, List, [], ◌∷◌}
use Rattle.fx_pixel.specs.declared.Depth.TheVariants as depths
use Rattle.fx_pixel.specs.declared.Components.TheVariants as components
use Rattle.fx_params.specs.declared.def.ParamDef.{ParamDef}
use Rattle.fx_effect.specs.Local.{Read}
use Rattle.fx_effect.specs.Shape.{Shape}
use Rattle.fx_effect.specs.Source.{source_shape}
use Rattle.fx_effect.specs.declared.action.Safety.{Safety}

abbrev pub time_shape : List ℕ → Safety → List ParamDef → Shape
time_shape label safety params =
    source_shape label (depths.Byte ∷ depths.Short ∷ []) (components.Rgba ∷ components.Alpha ∷ []) true safety params

-- Source at a frame
abbrev pub source_at : ℤ → Read
source_at t = (0, t)

-- one frame as a span
abbrev pub alone : ℤ → ℤ × ℤ
alone t = (t, t)
