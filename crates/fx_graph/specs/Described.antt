-- What is read from the property sets of a description.
use Rattle.std.specs.Prelude.{ℕ, Bool, List, [], ◌∷◌, ◌++◌, codes, All, Option, Some, None, if◌then◌else◌}
use Rattle.std.specs.List.{list_any}
use Rattle.std.specs.Str.{bytes_eq}
use Rattle.fx_pixel.specs.declared.Components.{Components}
use Rattle.fx_pixel.specs.declared.Components.TheVariants as components
use Rattle.fx_props.specs.Set.{Set}
use Rattle.fx_props.specs.Entries.{HasValues}
use Rattle.fx_effect.specs.declared.action.Context.{Context}
use Rattle.fx_effect.specs.declared.action.Context.TheVariants as context
use Rattle.fx_effect.specs.Shape.{Shape, Clip, is_components}
use Rattle.fx_effect.specs.Described.{clip_description, clip_components_of}

abbrev pub context_of_text : List ℕ → Option Context
context_of_text text =
    if bytes_eq text (codes "OfxImageEffectContextGenerator") then Some context.Generator else
    if bytes_eq text (codes "OfxImageEffectContextFilter") then Some context.Filter else
    if bytes_eq text (codes "OfxImageEffectContextTransition") then Some context.Transition else
    if bytes_eq text (codes "OfxImageEffectContextGeneral") then Some context.General else None

abbrev pub listed : Option Context → List Context
listed None = []
listed (Some c) = c ∷ []

-- the contexts of these texts
abbrev pub contexts_in : List (List ℕ) → List Context
contexts_in [] = []
contexts_in (text ∷ texts) = listed (context_of_text text) ++ contexts_in texts

abbrev pub lists_alpha : List Components → Bool
lists_alpha cs = list_any (is_components components.Alpha) cs

-- whether the clip takes Alpha: a mask does, and every other clip where the effect renders it
abbrev pub clip_takes : Shape → Clip → Bool
clip_takes s clip = lists_alpha (clip_components_of s clip)

-- the set describes a clip
pub record ShowsClip (set : Set) : Type 0 where
  pub clip : Clip
  pub components : List Components
  pub there : All (HasValues set) (clip_description clip components)
