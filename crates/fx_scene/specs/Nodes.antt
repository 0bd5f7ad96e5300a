-- What stands in a list of nodes, with no type of effect in it: a source of frames, or an effect in its place.
use Rattle.std.specs.Prelude.{◌≡◌, ℕ, ◌<◌, ◌≤◌, ℤ, List, map, Option, Some, None, is_some, slice_index_or, IsTrue}
use Rattle.fx_base.specs.Bounds.{Bounds, IsRect}
use Rattle.fx_base.specs.Rect.{IsUpTo}
use Rattle.fx_base.specs.declared.limits.TheConstants.{MOST_NODES, MOST_SIDE}
use Rattle.fx_pixel.specs.declared.Depth.{Depth}
use Rattle.fx_pixel.specs.declared.Components.{Components}
use Rattle.fx_image.specs.Image.{Image, PixelsFit}
use Rattle.fx_effect.specs.Shape.{supports, IsLawfulIn}
use Rattle.fx_effect.specs.Meaning.{Meaning}
use Rattle.fx_effect.specs.Laws.{Laws, seen_as}
use Rattle.fx_effect.specs.declared.action.Context.{Context}
use Rattle.fx_effect.specs.declared.values.Values.{Values}

-- a source: the frame that it shows at each time, if any, the image of each frame that was fetched, and the depth and
-- components of its pixels
pub record SourceFrames : Type 0 where
  pub named : ℤ → Option ℤ
  pub frames : ℤ → Option Image
  pub depth : Depth
  pub components : Components

-- an effect in its place: what it means, its context, its values at each frame, which node each input clip is, if any,
-- and the depth and components of its pixels
pub record EffectNode : Type 0 where
  pub meaning : Meaning
  pub context : Context
  pub values : ℤ → Values
  pub clips : List (Option ℕ)
  pub depth : Depth
  pub components : Components

pub data Node : Type 0 where
  Source : SourceFrames → Node
  Effect : EffectNode → Node

-- what stands at each place of the list
abbrev pub Nodes : Type 0
Nodes = ℕ → Node

-- the node that a clip is
abbrev pub clip_node : EffectNode → ℕ → Option ℕ
clip_node o clip = slice_index_or o.clips clip None

-- the components in which a clip is seen: Alpha for a mask, and those of the node for every other
abbrev pub seen : EffectNode → ℕ → Components
seen o clip = seen_as o.meaning.shape o.context o.components clip

abbrev pub node_depth : Node → Depth
node_depth (Source s) = s.depth
node_depth (Effect o) = o.depth

abbrev pub node_components : Node → Components
node_components (Source s) = s.components
node_components (Effect o) = o.components

abbrev pub depth_at : Nodes → ℕ → Depth
depth_at nodes n = node_depth (nodes n)

abbrev pub components_at : Nodes → ℕ → Components
components_at nodes n = node_components (nodes n)

-- the image of a source's frame: a rectangle with sides up to 8,192, whose pixels are of its depth and components
pub record IsFrameImage (image : Image) : Type 0 where
  pub bounds : IsRect image.rect
  pub near : IsUpTo MOST_SIDE image.rect
  pub fit : PixelsFit image

-- an effect at place k: it keeps the laws, its values are lawful and say which clips are connected, it renders the
-- node's depth and components, and each clip is an earlier node or nothing
pub record IsEffectNode (k : ℕ) (o : EffectNode) : Type 0 where
  pub laws : Laws o.meaning
  pub lawful : (t : ℤ) → IsLawfulIn o.meaning.shape o.context (o.values t)
  pub supported : IsTrue (supports o.meaning.shape o.depth o.components)
  pub frame : (t : ℤ) → (o.values t).frame ≡ t
  pub connected : (t : ℤ) → (o.values t).connected ≡ map is_some o.clips
  pub earlier : (clip m : ℕ) → clip_node o clip ≡ Some m → m < k
  pub few : k ≤ MOST_NODES

abbrev pub IsNode : ℕ → Node → Type 0
IsNode k (Source s) = (f : ℤ) (image : Image) → s.frames f ≡ Some image → IsFrameImage image
IsNode k (Effect o) = IsEffectNode k o

abbrev pub AreNodes : Nodes → Type 0
AreNodes nodes = (k : ℕ) → IsNode k (nodes k)
