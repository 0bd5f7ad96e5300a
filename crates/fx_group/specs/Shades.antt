-- What a node shows to others, by what its clips show. It has no place in a list, no name of another node, and no expansion.
use Rattle.std.specs.Prelude.{ℕ, ℤ, Bool, List, [], ◌∷◌, ◌++◌, map, Option, Some, None, is_some, slice_index_or}
use Rattle.std.specs.Option.{option_flatten}
use Rattle.fx_base.specs.Bounds.{Bounds}
use Rattle.fx_pixel.specs.declared.Depth.{Depth}
use Rattle.fx_pixel.specs.declared.Depth.TheVariants as depths
use Rattle.fx_pixel.specs.declared.Components.{Components}
use Rattle.fx_pixel.specs.Pixel.{zero, convert}
use Rattle.fx_image.specs.Image.{Image}
use Rattle.fx_params.specs.Parameter.{Parameter, value_at}
use Rattle.fx_text.specs.Raw.{Project}
use Rattle.fx_text.specs.declared.raw.RawContext.{RawContext}
use Rattle.fx_text.specs.declared.value.RawParam.{RawParam}
use Rattle.fx_prefs.specs.Prefs.{Input, negotiated}
use Rattle.fx_effect.specs.declared.action.Context.{Context}
use Rattle.fx_effect.specs.declared.values.Values.{Values}
use Rattle.fx_effect.specs.Laws.{seen_as}
use Rattle.fx_effect.specs.Meaning.{Meaning, mixed}
use Rattle.fx_effect.specs.Shape.{Clip, Shape, clip_names, is_mask}
use Rattle.fx_effect.specs.Tap.{Tap}
use Rattle.fx_graph.specs.Graphs.{extent, form}
use Rattle.fx_graph.specs.Nodes.{Form, has_alpha, has_depth}
use Rattle.fx_graph.specs.Params.{param_of}
use Rattle.fx_graph.specs.Uses.{chosen}
use Rattle.fx_scene.specs.Scenes.{source_node}
use Rattle.fx_scene.specs.Value.{Pixels, no_pixels, source_pixel}
use Rattle.fx_group.specs.Names.{look}
use Rattle.fx_group.specs.Instances.{Source, Effect, Giving, Shown}

-- the depth and the components of its pixels, and its pixel at each frame, column and row
pub record Shade : Type 0 where
  pub depth : Depth
  pub components : Components
  pub pixel : Pixels

-- the images of each source's frames, by the name of its node
abbrev pub NamedImages : Type 0
NamedImages = List ℕ → ℤ → Option Image

-- what the effect of each name means, where there is one
abbrev pub Effects : Type 0
Effects = List ℕ → Option Meaning

-- ---- a source

-- the pixels of its frames, at the depth and components that it declares
abbrev pub source_shade : (ℤ → Option Image) → Depth → Components → ℕ → ℕ → Bool → Shade
source_shade frames depth c first last hold =
    let s = source_node frames depth c first last hold in
    record { depth = depth; components = c; pixel = λ t x y. source_pixel s (s.named t) x y }

-- ---- an effect, where its clips show these

-- the form of a connected clip, and whether it is a mask
abbrev pub form_shown : Option Shade → Bool → List Input
form_shown None mask = []
form_shown (Some s) mask = (s.depth, s.components, mask) ∷ []

abbrev pub forms_shown : List (Option Shade) → List Bool → List Input
forms_shown (clip ∷ clips) (mask ∷ masks) = form_shown clip mask ++ forms_shown clips masks
forms_shown clips masks = []

-- its own form, which is negotiated from those of its connected clips
abbrev pub form_among : Shape → Form → List (Option Shade) → List Bool → Form
form_among s project clips masks =
    negotiated (forms_shown clips masks) (has_depth s depths.Byte) (has_depth s depths.Short) (has_alpha s) project

-- what a clip shows at a depth and components: the pixel converted, and zero where it is unconnected
abbrev pub clip_pixel : Depth → Components → Option Shade → Pixels
clip_pixel to c None t x y = zero c
clip_pixel to c (Some s) t x y = convert s.depth to c (s.pixel t x y)

-- what it is asked with at a frame
abbrev pub values_among : Bounds → List (Option Shade) → List Parameter → ℤ → Values
values_among project clips params t =
    record { frame = t; numbers = map (λ p. value_at p t) params; connected = map is_some clips; project = project }

-- the mix of its taps, at a form; a mask is seen as Alpha, and every other clip in the form's components
abbrev pub mix_shade : Meaning → Bounds → Context → Form → List (Option Shade) → List Parameter → Shade
mix_shade m project c form clips params =
    let seen = λ (p : Tap). seen_as m.shape c form.1 p.clip in
    let tap = λ (p : Tap). clip_pixel form.0 (seen p) (slice_index_or clips p.clip None) p.frame p.x p.y in
    record {
      depth = form.0;
      components = form.1;
      pixel = λ t x y. mixed m (values_among project clips params t) form.0 form.1 tap x y;
    }

abbrev pub effect_shade : Meaning → Project → Context → List (Option Shade) → List RawParam → Shade
effect_shade m project c clips params =
    let own = form_among m.shape (form project) clips (map is_mask (clip_names m.shape c)) in
    mix_shade m (extent project) c own clips (map (param_of params) (m.shape.params c))

-- what the clip of this name shows
abbrev pub clip_shade : Shown Shade → Clip → Option Shade
clip_shade shown clip = option_flatten (look shown clip.name)

-- an effect that isn't there shows nothing
abbrev pub use_shade : Project → Option Meaning → Option RawContext → List RawParam → Shown Shade → Shade
use_shade project None context params shown =
    record { depth = project.depth; components = project.components; pixel = no_pixels }
use_shade project (Some m) context params shown =
    let c = chosen m.shape.contexts context in
    effect_shade m project c (map (clip_shade shown) (m.shape.clips c)) params

-- ---- a node

-- in a project, over these effects and images
abbrev pub shade_of : Effects → Project → NamedImages → Giving Shade
shade_of effects project images name (Source pattern first last hold depth components) shown =
    source_shade (images name) depth components first last hold
shade_of effects project images name (Effect effect context params) shown =
    use_shade project (effects effect) context params shown
