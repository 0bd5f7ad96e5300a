-- The effect erode: each sample is the least of those at most a radius away, in columns and in rows.
use Rattle.std.specs.Prelude.{ℕ, ◌==◌, ℤ, pos, unsigned_abs, false, List, [], ◌∷◌, codes, if◌then◌else◌}
use Rattle.fx_base.specs.Rect.{grown}
use Rattle.fx_pixel.specs.declared.Depth.TheVariants as depths
use Rattle.fx_pixel.specs.declared.Components.TheVariants as components
use Rattle.fx_kernel.specs.Around.{square}
use Rattle.fx_params.specs.declared.def.ParamDef.{ParamDef}
use Rattle.fx_params.specs.Def.{int_def}
use Rattle.fx_props.specs.Entries.{region_of}
use Rattle.fx_effect.specs.Tap.{Tap, tap}
use Rattle.fx_effect.specs.Shape.{Shape}
use Rattle.fx_effect.specs.Numbers.{number}
use Rattle.fx_effect.specs.Meaning.{Meaning}
use Rattle.fx_effect.specs.Source.{source_shape}
use Rattle.fx_effect.specs.Default.{default_spans}
use Rattle.fx_effect.specs.declared.action.Identity.TheVariants.{Same, No}
use Rattle.fx_effect.specs.declared.action.Safety.TheVariants.{FullySafe}
use Rattle.fx_effect.specs.declared.values.Values.{Values}
use Rattle.fx_area.specs.declared.extreme.Extreme.TheVariants.{Least}
use Rattle.fx_area.specs.Extreme.{extreme_of}

-- the radius, from 0 to 32
abbrev pub radius_params : List ParamDef
radius_params = int_def (codes "radius") (pos 0) (pos 32) (pos 1) ∷ []

abbrev pub radius : Values → ℕ
radius v = unsigned_abs (number v 0)

abbrev pub square_taps : Values → ℤ → ℤ → List Tap
square_taps v x y = square (tap 0 v.frame) (radius v) (radius v) x y

-- a filter of either name
abbrev pub radius_shape : List ℕ → Shape
radius_shape label =
    source_shape label (depths.Byte ∷ depths.Short ∷ []) (components.Rgba ∷ components.Alpha ∷ []) false FullySafe
    radius_params

-- its region is that of its source, and with a radius of 0 it is its source
abbrev pub erode : Meaning
erode =
    record {
      shape = radius_shape (codes "erode");
      taps = square_taps;
      mix = λ v c m x y pixels. extreme_of Least c m pixels;
      spans = default_spans;
      rod = λ c v regions. region_of regions 0;
      roi = λ v region clip. grown region (pos (radius v)) (pos (radius v));
      same = λ v window. if radius v == 0 then Same 0 v.frame else No;
    }
