-- Where a node may be anything but zero: its region of definition on the unbounded plane (OpenFX 1.4, "Image Effect
-- Architectures", regions).
use Rattle.std.specs.Prelude.{◌≡◌, ℕ, ℤ, List, [], ◌∷◌, map, length, Option, Some, None}
use Rattle.std.specs.List.{range_with_len}
use Rattle.fx_base.specs.Bounds.{Bounds, none}
use Rattle.fx_base.specs.Rect.{Holds, hull}
use Rattle.fx_pixel.specs.Pixel.{zero}
use Rattle.fx_image.specs.Image.{Image}
use Rattle.fx_scene.specs.Table.{at_place}
use Rattle.fx_scene.specs.Nodes.{SourceFrames, EffectNode, Node, Source, Effect, Nodes, clip_node, components_at}
use Rattle.fx_scene.specs.Value.{value}
use Rattle.fx_scene.specs.Frames.{frames_of}

-- the least bounds round all of them
abbrev pub hull_with : Bounds → List Bounds → Bounds
hull_with a [] = a
hull_with a (r ∷ rs) = hull_with (hull a r) rs

abbrev pub hull_all : List Bounds → Bounds
hull_all rs = hull_with none rs

-- the hull of a clip's areas over its spans, and nothing where it is unconnected
abbrev pub clip_area : (ℕ → ℤ → Bounds) → List (ℤ × ℤ) → Option ℕ → Bounds
clip_area areas spans None = none
clip_area areas spans (Some m) = hull_all (map (areas m) (frames_of spans))

-- the same of each clip in order
abbrev pub clip_areas : (ℕ → ℤ → Bounds) → EffectNode → ℤ → List Bounds
clip_areas areas o t =
    map (λ c. clip_area areas (o.meaning.spans (o.values t) c) (clip_node o c)) (range_with_len 0 (length o.clips))

abbrev pub image_area : Option Image → Bounds
image_area None = none
image_area (Some image) = image.rect

-- the rectangle of the frame that a source shows
abbrev pub source_area : SourceFrames → Option ℤ → Bounds
source_area s None = none
source_area s (Some f) = image_area (s.frames f)

-- a node's area by those of the nodes: a frame's rectangle, or what the effect answers for the areas of its clips
abbrev pub node_area : (ℕ → ℤ → Bounds) → Node → ℤ → Bounds
node_area areas (Source s) t = source_area s (s.named t)
node_area areas (Effect o) t = o.meaning.rod o.context (o.values t) (clip_areas areas o t)

abbrev pub no_area : ℤ → Bounds
no_area t = none

-- the area of each node at each frame, by the place in the list
unfoldable pub area : Nodes → ℕ → ℤ → Bounds
area nodes = at_place no_area (λ before k. node_area before (nodes k))

-- outside its area a node's value is zero
abbrev pub ZeroOutsideArea : Nodes → Type 0
ZeroOutsideArea nodes =
    (n : ℕ) (t x y : ℤ) → (Holds (area nodes n t) x y → ⊥) → value nodes n t x y ≡ zero (components_at nodes n)
