-- The effect boxblur: the mean of the pixels at most rx columns and ry rows away, each sample to the nearest and
-- halves up.
use Rattle.std.specs.Prelude.{ℕ, ◌+◌, ◌*◌, ◌==◌, ◌&&◌, pos, unsigned_abs, false, List, [], ◌∷◌, codes, if◌then◌else◌}
use Rattle.fx_base.specs.Rect.{grown}
use Rattle.fx_pixel.specs.declared.Depth.TheVariants as depths
use Rattle.fx_pixel.specs.declared.Components.TheVariants as components
use Rattle.fx_kernel.specs.Samples.{mean_of}
use Rattle.fx_kernel.specs.Around.{square}
use Rattle.fx_params.specs.declared.def.ParamDef.{ParamDef}
use Rattle.fx_params.specs.Def.{int_def}
use Rattle.fx_props.specs.Entries.{region_of}
use Rattle.fx_effect.specs.Tap.{tap}
use Rattle.fx_effect.specs.Shape.{Shape}
use Rattle.fx_effect.specs.Numbers.{number}
use Rattle.fx_effect.specs.Meaning.{Meaning}
use Rattle.fx_effect.specs.Source.{source_shape}
use Rattle.fx_effect.specs.Default.{default_spans}
use Rattle.fx_effect.specs.declared.action.Identity.TheVariants.{Same, No}
use Rattle.fx_effect.specs.declared.action.Safety.TheVariants.{InstanceSafe}
use Rattle.fx_effect.specs.declared.values.Values.{Values}

-- the radii, from 0 to 64
abbrev pub box_radius : List ℕ → ParamDef
box_radius name = int_def name (pos 0) (pos 64) (pos 1)

abbrev pub radii : List ParamDef
radii = box_radius (codes "rx") ∷ box_radius (codes "ry") ∷ []

abbrev pub rx : Values → ℕ
rx v = unsigned_abs (number v 0)

abbrev pub ry : Values → ℕ
ry v = unsigned_abs (number v 1)

-- how many pixels are read
abbrev pub box_count : ℕ → ℕ → ℕ
box_count h v = (2 * h + 1) * (2 * v + 1)

-- its sums lie in the workspace of its instance
abbrev pub boxblur_shape : Shape
boxblur_shape =
    source_shape (codes "boxblur") (depths.Byte ∷ depths.Short ∷ []) (components.Rgba ∷ components.Alpha ∷ []) false
    InstanceSafe radii

-- its regions are grown by the radii, and with radii of 0 it is its source
abbrev pub boxblur : Meaning
boxblur =
    record {
      shape = boxblur_shape;
      taps = λ v x y. square (tap 0 v.frame) (rx v) (ry v) x y;
      mix = λ v c m x y pixels. mean_of c (box_count (rx v) (ry v)) pixels;
      spans = default_spans;
      rod = λ c v regions. grown (region_of regions 0) (pos (rx v)) (pos (ry v));
      roi = λ v region clip. grown region (pos (rx v)) (pos (ry v));
      same = λ v window. if rx v == 0 && ry v == 0 then Same 0 v.frame else No;
    }
