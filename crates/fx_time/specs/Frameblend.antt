-- The effect frameblend: the mean of the pixels at one place of the frames at most `radius` away.
use Rattle.std.specs.Prelude.{ℕ, ◌+◌, ◌*◌, ◌==◌, ℤ, pos, ◌+ℤ◌, ◌-ℤ◌, List, [], ◌∷◌, map, codes, if◌then◌else◌}
use Rattle.fx_params.specs.declared.def.ParamDef.{ParamDef}
use Rattle.fx_params.specs.Def.{int_def}
use Rattle.fx_props.specs.Entries.{region_of}
use Rattle.fx_effect.specs.Local.{Read, own_taps}
use Rattle.fx_effect.specs.Shape.{Shape}
use Rattle.fx_effect.specs.Numbers.{number, natural}
use Rattle.fx_effect.specs.Meaning.{Meaning}
use Rattle.fx_effect.specs.declared.action.Identity.TheVariants.{Same, No}
use Rattle.fx_effect.specs.declared.action.Safety.TheVariants.{Unsafe}
use Rattle.fx_effect.specs.declared.values.Values.{Values}
use Rattle.fx_kernel.specs.Samples.{mean_of}
use Rattle.fx_kernel.specs.Around.{around}
use Rattle.fx_time.specs.Times.{time_shape, source_at}

abbrev pub frameblend_params : List ParamDef
frameblend_params = int_def (codes "radius") (pos 0) (pos 16) (pos 1) ∷ []

-- one render at a time over all instances
abbrev pub frameblend_shape : Shape
frameblend_shape = time_shape (codes "frameblend") Unsafe frameblend_params

abbrev pub radius : Values → ℕ
radius v = natural (number v 0)

-- Source at each of these frames
abbrev pub blend_reads : ℤ → ℕ → List Read
blend_reads t r = map source_at (around t r)

-- with a radius of 0 it is its source
abbrev pub frameblend : Meaning
frameblend =
    record {
      shape = frameblend_shape;
      taps = λ v x y. own_taps (blend_reads v.frame (radius v)) x y;
      mix = λ v c m x y pixels. mean_of c (2 * radius v + 1) pixels;
      spans = λ v clip. (v.frame -ℤ pos (radius v), v.frame +ℤ pos (radius v)) ∷ [];
      rod = λ c v regions. region_of regions 0;
      roi = λ v region clip. region;
      same = λ v window. if radius v == 0 then Same 0 v.frame else No;
    }
