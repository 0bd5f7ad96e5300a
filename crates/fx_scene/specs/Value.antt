-- The value of a node: its pixel at each frame and place, on the unbounded plane, one pixel at a time.
use Rattle.std.specs.Prelude.{◌≡◌, ℕ, ℤ, Option, Some, None}
use Rattle.fx_pixel.specs.declared.Pixel.{Pixel}
use Rattle.fx_pixel.specs.declared.Depth.{Depth}
use Rattle.fx_pixel.specs.declared.Components.{Components}
use Rattle.fx_pixel.specs.declared.Components.TheVariants as components
use Rattle.fx_pixel.specs.Pixel.{zero, convert}
use Rattle.fx_image.specs.Image.{Image, pixel_at}
use Rattle.fx_effect.specs.Tap.{Tap}
use Rattle.fx_effect.specs.Meaning.{mixed}
use Rattle.fx_scene.specs.Nodes.{SourceFrames, EffectNode, Node, Source, Effect, Nodes, clip_node, seen, depth_at}
use Rattle.fx_scene.specs.Table.{at_place}

-- a pixel at each frame, column and row
abbrev pub Pixels : Type 0
Pixels = ℤ → ℤ → ℤ → Pixel

-- nothing there
abbrev pub no_pixels : Pixels
no_pixels t x y = zero components.Rgba

-- what a clip shows at a depth and components: the value of the node that it is, converted from that node's depth, and
-- zero where it is unconnected
abbrev pub clip_value : (ℕ → Depth) → (ℕ → Pixels) → Depth → Components → Option ℕ → Pixels
clip_value depths values to c None t x y = zero c
clip_value depths values to c (Some m) t x y = convert (depths m) to c (values m t x y)

-- the pixel that a tap reads
abbrev pub tap_value : (ℕ → Depth) → (ℕ → Pixels) → EffectNode → Tap → Pixel
tap_value depths values o p =
    clip_value depths values o.depth (seen o p.clip) (clip_node o p.clip) p.frame p.x p.y

-- a pixel of a frame, at the source's depth and components; a frame that wasn't fetched shows nothing
abbrev pub frame_pixel : SourceFrames → Option Image → ℤ → ℤ → Pixel
frame_pixel s None x y = zero s.components
frame_pixel s (Some image) x y = convert image.depth s.depth s.components (pixel_at image x y)

-- a pixel of the frame that a source shows; where it shows none it is black
abbrev pub source_pixel : SourceFrames → Option ℤ → ℤ → ℤ → Pixel
source_pixel s None x y = zero s.components
source_pixel s (Some f) x y = frame_pixel s (s.frames f) x y

-- a node's value, by the values of the nodes: the frame's pixel, or the mix of its taps
abbrev pub node_value : (ℕ → Depth) → (ℕ → Pixels) → Node → Pixels
node_value depths values (Source s) t x y = source_pixel s (s.named t) x y
node_value depths values (Effect o) t x y =
    mixed o.meaning (o.values t) o.depth o.components (tap_value depths values o) x y

-- the value of each node, by the place in the list
unfoldable pub value : Nodes → ℕ → Pixels
value nodes = at_place no_pixels (λ before k. node_value (depth_at nodes) before (nodes k))

-- the value of a node is its frame's pixel, or the mix of its taps' values at the nodes that its clips are
abbrev pub ValueIsMix : Nodes → Type 0
ValueIsMix nodes =
    (n : ℕ) (t x y : ℤ) → value nodes n t x y ≡ node_value (depth_at nodes) (value nodes) (nodes n) t x y
