-- Effects that merge the clips A and B, in the general context alone.
use Rattle.std.specs.Prelude.{ℕ, true, false, List, [], ◌∷◌}
use Rattle.fx_pixel.specs.declared.Depth.TheVariants as depths
use Rattle.fx_pixel.specs.declared.Components.TheVariants as components
use Rattle.fx_params.specs.declared.def.ParamDef.{ParamDef}
use Rattle.fx_effect.specs.Shape.{Clip, Shape}
use Rattle.fx_effect.specs.declared.action.Context.TheVariants as context
use Rattle.fx_effect.specs.declared.action.Safety.TheVariants.{FullySafe}

-- a clip that has to be connected
abbrev pub required : List ℕ → Clip
required name = record { name = name; optional = false }

abbrev pub merges_shape : List ℕ → List Clip → List ParamDef → Shape
merges_shape label clips params =
    record {
      label = label;
      contexts = context.General ∷ [];
      depths = depths.Byte ∷ depths.Short ∷ [];
      components = components.Rgba ∷ components.Alpha ∷ [];
      temporal = false;
      tiles = true;
      safety = FullySafe;
      clips = λ c. clips;
      params = λ c. params;
    }
