-- The effect timeoffset: Source as many frames ago as the offset says.
use Rattle.std.specs.Prelude.{ℤ, pos, neg_ℤ, ◌-ℤ◌, List, [], ◌∷◌, codes}
use Rattle.fx_pixel.specs.declared.Components.{Components}
use Rattle.fx_pixel.specs.declared.Pixel.{Pixel}
use Rattle.fx_pixel.specs.Pixel.{zero as clear}
use Rattle.fx_params.specs.declared.def.ParamDef.{ParamDef}
use Rattle.fx_params.specs.Def.{int_def}
use Rattle.fx_props.specs.Entries.{region_of}
use Rattle.fx_effect.specs.Tap.{tap}
use Rattle.fx_effect.specs.Shape.{Shape}
use Rattle.fx_effect.specs.Numbers.{number}
use Rattle.fx_effect.specs.Meaning.{Meaning}
use Rattle.fx_effect.specs.declared.action.Identity.TheVariants.{Same}
use Rattle.fx_effect.specs.declared.action.Safety.TheVariants.{FullySafe}
use Rattle.fx_effect.specs.declared.values.Values.{Values}
use Rattle.fx_time.specs.Times.{time_shape, alone}

abbrev pub timeoffset_params : List ParamDef
timeoffset_params = int_def (codes "offset") (neg_ℤ (pos 100000)) (pos 100000) (pos 0) ∷ []

abbrev pub timeoffset_shape : Shape
timeoffset_shape = time_shape (codes "timeoffset") FullySafe timeoffset_params

-- the frame that is shown
abbrev pub moment : Values → ℤ
moment v = v.frame -ℤ number v 0

-- what is made of the pixels that were read, of which there is one
abbrev pub kept_of : Components → List Pixel → Pixel
kept_of c (p ∷ pixels) = p
kept_of c [] = clear c

abbrev pub timeoffset : Meaning
timeoffset =
    record {
      shape = timeoffset_shape;
      taps = λ v x y. tap 0 (moment v) x y ∷ [];
      mix = λ v c m x y pixels. kept_of c pixels;
      spans = λ v clip. alone (moment v) ∷ [];
      rod = λ c v regions. region_of regions 0;
      roi = λ v region clip. region;
      same = λ v window. Same 0 (moment v);
    }
