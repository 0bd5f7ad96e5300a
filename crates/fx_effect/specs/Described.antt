-- What an effect writes of itself (OpenFX 1.4, "kOfxActionDescribe", "kOfxImageEffectActionDescribeInContext").
use Rattle.std.specs.Prelude.{ℕ, Bool, List, [], ◌∷◌, map, codes, All, if◌then◌else◌}
use Rattle.std.specs.List.{AllZip}
use Rattle.fx_pixel.specs.declared.Depth.{Depth}
use Rattle.fx_pixel.specs.declared.Depth.TheVariants as depths
use Rattle.fx_pixel.specs.declared.Components.{Components}
use Rattle.fx_pixel.specs.declared.Components.TheVariants as components
use Rattle.fx_props.specs.declared.names.TheConstants.{LABEL, CONTEXTS, DEPTHS, TEMPORAL, TILES, SAFETY, NAME, OPTIONAL, COMPONENTS}
use Rattle.fx_props.specs.Set.{Set}
use Rattle.fx_effect.specs.declared.action.Context.{Context}
use Rattle.fx_effect.specs.declared.action.Context.TheVariants as context
use Rattle.fx_effect.specs.declared.action.Safety.{Safety}
use Rattle.fx_effect.specs.declared.action.Safety.TheVariants as safety
use Rattle.fx_effect.specs.declared.describe.Description.{Description}
use Rattle.fx_effect.specs.Shape.{Clip, Shape, is_mask}
use Rattle.fx_props.specs.Entries.{Entry, text_entry, texts_entry, flag_entry, HasValues}

abbrev pub context_text : Context → List ℕ
context_text context.Generator = codes "OfxImageEffectContextGenerator"
context_text context.Filter = codes "OfxImageEffectContextFilter"
context_text context.Transition = codes "OfxImageEffectContextTransition"
context_text context.General = codes "OfxImageEffectContextGeneral"

abbrev pub depth_text : Depth → List ℕ
depth_text depths.Byte = codes "OfxBitDepthByte"
depth_text depths.Short = codes "OfxBitDepthShort"

abbrev pub components_text : Components → List ℕ
components_text components.Rgba = codes "OfxImageComponentRGBA"
components_text components.Alpha = codes "OfxImageComponentAlpha"

abbrev pub safety_text : Safety → List ℕ
safety_text safety.Unsafe = codes "OfxImageEffectRenderUnsafe"
safety_text safety.InstanceSafe = codes "OfxImageEffectRenderInstanceSafe"
safety_text safety.FullySafe = codes "OfxImageEffectRenderFullySafe"

-- what `describe` writes, by the label, the contexts, the depths, whether other frames are read, whether tiles are
-- rendered, and the thread safety
abbrev pub description_of : List ℕ → List Context → List Depth → Bool → Bool → Safety → List Entry
description_of label contexts depths temporal tiles s =
    text_entry LABEL.now label
    ∷ texts_entry CONTEXTS.now (map context_text contexts)
    ∷ texts_entry DEPTHS.now (map depth_text depths)
    ∷ flag_entry TEMPORAL.now temporal
    ∷ flag_entry TILES.now tiles
    ∷ text_entry SAFETY.now (safety_text s)
    ∷ []

abbrev pub description : Shape → List Entry
description s = description_of s.label s.contexts s.depths s.temporal s.tiles s.safety

-- the components that a clip may have: a mask is Alpha, and every other clip has those of the effect
abbrev pub clip_components_of : Shape → Clip → List Components
clip_components_of s clip = if is_mask clip.name then components.Alpha ∷ [] else s.components

-- what the set of a clip has
abbrev pub clip_description : Clip → List Components → List Entry
clip_description clip cs =
    text_entry NAME.now clip.name
    ∷ flag_entry OPTIONAL.now clip.optional
    ∷ texts_entry COMPONENTS.now (map components_text cs)
    ∷ []

-- the set describes the clip
abbrev pub DescribesClip : Shape → Clip → Set → Type 0
DescribesClip s clip set = All (HasValues set) (clip_description clip (clip_components_of s clip))

-- one set for each input clip of the context, in order
abbrev pub DescribeClips : Shape → Context → List Set → Type 0
DescribeClips s c sets = AllZip (DescribesClip s) (s.clips c) sets

-- the same of a description
abbrev pub description_entries : Description → List Entry
description_entries d =
    description_of d.label.now d.contexts.now d.depths.now d.temporal d.tiles d.safety
