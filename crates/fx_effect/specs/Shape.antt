-- What an effect describes itself as: its contexts, depths and components, and in each context its input clips
-- and its parameters (OpenFX 1.4, "Image Effect Descriptors", "Image Effect Contexts").
use Rattle.std.specs.Prelude.{◌≡◌, ◌≢◌, ◌≤◌, ◌<◌, ℕ, ℤ, pos, ◌≤ℤ◌, ◌<ℤ◌, Bool, ◌&&◌, true, false, List, [], ◌∷◌, map, length, codes, All, AllPairs, IsTrue, if◌then◌else◌}
use Rattle.std.specs.List.{Contains, AllZip, list_any}
use Rattle.std.specs.Str.{bytes_eq}
use Rattle.fx_base.specs.Bounds.{Bounds}
use Rattle.fx_base.specs.declared.limits.TheConstants.{MOST_SIDE}
use Rattle.fx_pixel.specs.declared.Depth.{Depth}
use Rattle.fx_pixel.specs.declared.Depth.TheVariants as depths
use Rattle.fx_pixel.specs.declared.Components.{Components}
use Rattle.fx_pixel.specs.declared.Components.TheVariants as components
use Rattle.fx_params.specs.declared.def.ParamKind.{ParamKind}
use Rattle.fx_params.specs.declared.def.ParamKind.TheVariants as param
use Rattle.fx_params.specs.declared.def.ParamDef.{ParamDef}
use Rattle.fx_params.specs.Value.{IsWithin}
use Rattle.fx_effect.specs.declared.action.Context.{Context}
use Rattle.fx_effect.specs.declared.action.Context.TheVariants as context
use Rattle.fx_effect.specs.declared.action.Safety.{Safety}
use Rattle.fx_effect.specs.declared.values.Values.{Values}

-- an input clip, which may be left unconnected where it is optional
pub record Clip : Type 0 where
  pub name : List ℕ
  pub optional : Bool

pub record Shape : Type 0 where
  pub label : List ℕ
  pub contexts : List Context
  pub depths : List Depth
  pub components : List Components
  -- whether it reads frames other than the current one, and whether it supports tiles
  pub temporal : Bool
  pub tiles : Bool
  pub safety : Safety
  -- in each context its input clips and parameters, in order
  pub clips : Context → List Clip
  pub params : Context → List ParamDef

abbrev pub is_depth : Depth → Depth → Bool
is_depth depths.Byte depths.Byte = true
is_depth depths.Short depths.Short = true
is_depth a b = false

abbrev pub is_components : Components → Components → Bool
is_components components.Rgba components.Rgba = true
is_components components.Alpha components.Alpha = true
is_components a b = false

-- whether it renders images of this depth and these components
abbrev pub supports : Shape → Depth → Components → Bool
supports s depth c = list_any (is_depth depth) s.depths && list_any (is_components c) s.components

abbrev pub clip_names : Shape → Context → List (List ℕ)
clip_names s c = map (λ clip. clip.name) (s.clips c)

abbrev pub optional_flags : Shape → Context → List Bool
optional_flags s c = map (λ clip. clip.optional) (s.clips c)

-- whether the name is that of a mask, whose pixels are always Alpha
abbrev pub is_mask : List ℕ → Bool
is_mask name = bytes_eq name (codes "Mask")

abbrev pub IsMask : Clip → Type 0
IsMask clip = IsTrue (is_mask clip.name)

-- the components in which the effect sees the clip of this name, where it renders images of others
abbrev pub shown_as : Components → List ℕ → Components
shown_as c name = if is_mask name then components.Alpha else c

-- the same of each clip
abbrev pub shown_components : Shape → Context → Components → List Components
shown_components s context c = map (shown_as c) (clip_names s context)

-- ---- what every effect's description keeps to

-- the input clips that the context asks for
abbrev pub HasClips : Context → List Clip → Type 0
HasClips context.Generator clips = clips ≡ []
HasClips context.Filter clips = clips ≡ record { name = codes "Source"; optional = false } ∷ []
HasClips context.Transition clips =
    clips
    ≡ record { name = codes "SourceFrom"; optional = false }
    ∷ record { name = codes "SourceTo"; optional = false }
    ∷ []
HasClips context.General clips = Unit {0}

-- flags are 0 or 1, and a choice is the place of one of its texts, of which there are fewer than 65,536
abbrev pub HasRange : ParamKind → ParamDef → Type 0
HasRange param.Bool def = (pos 0 ≤ℤ def.least) × (def.greatest ≤ℤ pos 1)
HasRange param.Choice def =
    (pos 0 ≤ℤ def.least) × (def.greatest <ℤ pos (length def.choices)) × (length def.choices < 65536)
HasRange kind def = Unit {0}

pub record IsParam (def : ParamDef) : Type 0 where
  pub above : def.least ≤ℤ def.start
  pub below : def.start ≤ℤ def.greatest
  pub range : HasRange def.kind def

pub record IsContext (s : Shape) (c : Context) : Type 0 where
  pub clips : HasClips c (s.clips c)
  pub clips_differ : AllPairs (λ a b. a.name ≢ b.name) (s.clips c)
  pub few_clips : length (s.clips c) < 65536
  pub params : All IsParam (s.params c)
  pub params_differ : AllPairs (λ a b. a.name ≢ b.name) (s.params c)
  pub few_params : length (s.params c) < 65536

-- a name or a label has 1 to 64 bytes
abbrev pub IsLabel : List ℕ → Type 0
IsLabel text = (1 ≤ length text) × (length text ≤ 64)

pub record IsShape (s : Shape) : Type 0 where
  pub label : IsLabel s.label
  pub some_context : s.contexts ≢ []
  pub some_depth : s.depths ≢ []
  pub rgba : Contains s.components components.Rgba
  pub contexts : (c : Context) → Contains s.contexts c → IsContext s c
  pub clip_labels : (c : Context) → Contains s.contexts c → All (λ clip. IsLabel clip.name) (s.clips c)
  -- where it has no clip that could tell the components, it makes images of any
  pub without_clips : (c : Context) → Contains s.contexts c → All IsMask (s.clips c)
      → Contains s.components components.Alpha

-- ---- the values that an effect may be asked with

abbrev pub InRange : ParamDef → ℤ → Type 0
InRange def n = IsWithin def n

-- a clip that isn't optional is connected
abbrev pub MayBe : Clip → Bool → Type 0
MayBe clip connected = clip.optional ≡ false → connected ≡ true

-- the project's extent: from the origin, with sides of at least one pixel
pub record IsProject (r : Bounds) : Type 0 where
  pub left : r.x1 ≡ pos 0
  pub bottom : r.y1 ≡ pos 0
  pub wide : (pos 1 ≤ℤ r.x2) × (r.x2 ≤ℤ pos MOST_SIDE)
  pub high : (pos 1 ≤ℤ r.y2) × (r.y2 ≤ℤ pos MOST_SIDE)

-- the values are lawful in a context that the effect supports
pub record IsLawfulIn (s : Shape) (c : Context) (v : Values) : Type 0 where
  pub supported : Contains s.contexts c
  pub numbers : AllZip InRange (s.params c) v.numbers
  pub connected : AllZip MayBe (s.clips c) v.connected
  pub project : IsProject v.project

-- they are in some context
pub record IsLawful (s : Shape) (v : Values) : Type 0 where
  pub context : Context
  pub there : IsLawfulIn s context v
