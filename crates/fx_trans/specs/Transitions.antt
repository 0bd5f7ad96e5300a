-- Transitions from the clip SourceFrom to the clip SourceTo, by the parameter Transition (OpenFX 1.4, "Transition
-- Context").
use Rattle.std.specs.Prelude.{◌==◌, ℕ, ℤ, pos, true, false, List, [], ◌∷◌, codes, if◌then◌else◌}
use Rattle.fx_pixel.specs.declared.Depth.TheVariants as depths
use Rattle.fx_pixel.specs.declared.Components.TheVariants as components
use Rattle.fx_params.specs.declared.def.ParamDef.{ParamDef}
use Rattle.fx_params.specs.Def.{fix_def}
use Rattle.fx_effect.specs.Tap.{Tap, tap}
use Rattle.fx_effect.specs.Shape.{Clip, Shape}
use Rattle.fx_effect.specs.Numbers.{number, natural}
use Rattle.fx_effect.specs.declared.action.Context.TheVariants as context
use Rattle.fx_effect.specs.declared.action.Identity.{Identity}
use Rattle.fx_effect.specs.declared.action.Identity.TheVariants.{Same}
use Rattle.fx_effect.specs.declared.action.Safety.TheVariants.{FullySafe}
use Rattle.fx_effect.specs.declared.values.Values.{Values}

abbrev pub from_and_to : List Clip
from_and_to =
    record { name = codes "SourceFrom"; optional = false } ∷ record { name = codes "SourceTo"; optional = false } ∷ []

-- a level from 0 to 1
abbrev pub transition_params : List ParamDef
transition_params = fix_def (codes "Transition") (pos 0) (pos 65536) (pos 0) ∷ []

abbrev pub transition_shape : List ℕ → Shape
transition_shape label =
    record {
      label = label;
      contexts = context.Transition ∷ [];
      depths = depths.Byte ∷ depths.Short ∷ [];
      components = components.Rgba ∷ components.Alpha ∷ [];
      temporal = false;
      tiles = true;
      safety = FullySafe;
      clips = λ c. from_and_to;
      params = λ c. transition_params;
    }

-- how far the transition has come, in units of 1/65536
abbrev pub level : Values → ℕ
level v = natural (number v 0)

-- the pixel at the same place of either clip
abbrev pub both_taps : Values → ℤ → ℤ → List Tap
both_taps v x y = tap 0 v.frame x y ∷ tap 1 v.frame x y ∷ []

-- SourceFrom before the transition, SourceTo behind it, and another answer while it lasts
abbrev pub at_ends : ℕ → ℤ → Identity → Identity
at_ends k t between = if k == 0 then Same 0 t else (if k == 65536 then Same 1 t else between)
