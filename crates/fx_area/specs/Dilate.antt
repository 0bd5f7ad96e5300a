-- The effect dilate: each sample is the greatest of those at most a radius away, in columns and in rows.
use Rattle.std.specs.Prelude.{◌==◌, pos, codes, if◌then◌else◌}
use Rattle.fx_base.specs.Rect.{grown}
use Rattle.fx_props.specs.Entries.{region_of}
use Rattle.fx_effect.specs.Meaning.{Meaning}
use Rattle.fx_effect.specs.Default.{default_spans}
use Rattle.fx_effect.specs.declared.action.Identity.TheVariants.{Same, No}
use Rattle.fx_area.specs.declared.extreme.Extreme.TheVariants.{Greatest}
use Rattle.fx_area.specs.Extreme.{extreme_of}
use Rattle.fx_area.specs.Erode.{radius, square_taps, radius_shape}

-- its regions are grown by the radius, and with a radius of 0 it is its source
abbrev pub dilate : Meaning
dilate =
    record {
      shape = radius_shape (codes "dilate");
      taps = square_taps;
      mix = λ v c m x y pixels. extreme_of Greatest c m pixels;
      spans = default_spans;
      rod = λ c v regions. grown (region_of regions 0) (pos (radius v)) (pos (radius v));
      roi = λ v region clip. grown region (pos (radius v)) (pos (radius v));
      same = λ v window. if radius v == 0 then Same 0 v.frame else No;
    }
