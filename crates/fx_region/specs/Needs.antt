-- What a region of an effect needs (OpenFX 1.4, kOfxImageEffectActionGetRegionsOfInterest and
-- kOfxImageEffectActionGetFramesNeeded): tiles of the nodes of its clips.
use Rattle.std.specs.Prelude.{ℕ, ℤ, List, [], ◌∷◌, length, Option, Some, None, Bool, ◌&&◌, nat_eq, if◌then◌else◌}
use Rattle.std.specs.Ordering.{int_eq}
use Rattle.std.specs.List.{flat_map, range_with_len}
use Rattle.fx_base.specs.Bounds.{Bounds}
use Rattle.fx_base.specs.Rect.{meet}
use Rattle.fx_base.specs.Grid.{tiles_of}
use Rattle.fx_pixel.specs.declared.Depth.{Depth}
use Rattle.fx_pixel.specs.declared.Components.{Components}
use Rattle.fx_pixel.specs.declared.Pixel.{Pixel}
use Rattle.fx_pixel.specs.Pixel.{zero}
use Rattle.fx_effect.specs.Tap.{Tap}
use Rattle.fx_scene.specs.Nodes.{EffectNode, Node, Source, Effect, Nodes, clip_node}
use Rattle.fx_scene.specs.Areas.{area}
use Rattle.fx_scene.specs.Frames.{clip_frames}
use Rattle.fx_region.specs.Ends.{EndShown, Void, Frame, Render, Ends, end_holds, end_of, end_pixel, end_shown}
use Rattle.fx_region.specs.declared.ends.Need.{Need}

-- of a clip at a frame, where a part of it is found
pub record NeedShown : Type 0 where
  pub clip : ℕ
  pub frame : ℤ
  pub end : EndShown

abbrev pub need_shown : Need → NeedShown
need_shown n = record { clip = n.clip; frame = n.frame; end = end_shown n.end }

abbrev pub Areas : Type 0
Areas = ℕ → ℤ → Bounds

-- a need, and none that is found nowhere
abbrev pub needed : ℕ → ℤ → EndShown → List NeedShown
needed c f Void = []
needed c f (Frame node frame region through) =
    record { clip = c; frame = f; end = Frame node frame region through } ∷ []
needed c f (Render node frame region cut through) =
    record { clip = c; frame = f; end = Render node frame region cut through } ∷ []

-- of node m at a frame, the end of a tile cut to the node's area
abbrev pub tile_needs : Ends → Areas → ℕ → ℕ → ℤ → Bounds → List NeedShown
tile_needs ends areas c m f tile = needed c f (ends m f (meet tile (areas m f)))

-- of each tile that meets the region of interest within the area, by rising row and column
abbrev pub frame_needs : Ends → Areas → ℕ → Bounds → ℕ → ℕ → ℤ → List NeedShown
frame_needs ends areas side interest c m f =
    flat_map (tile_needs ends areas c m f) (tiles_of side (meet interest (areas m f)))

-- at each of these frames, and nothing where the clip is unconnected
abbrev pub clip_needs : Ends → Areas → ℕ → Bounds → ℕ → List ℤ → Option ℕ → List NeedShown
clip_needs ends areas side interest c frames None = []
clip_needs ends areas side interest c frames (Some m) = flat_map (frame_needs ends areas side interest c m) frames

-- of a clip, over the region of interest that the effect answers for a region, at the frames that it needs
abbrev pub needs_at : Ends → Areas → ℕ → EffectNode → ℤ → Bounds → ℕ → List NeedShown
needs_at ends areas side o t r c =
    clip_needs ends areas side (o.meaning.roi (o.values t) r c) c (clip_frames o t c) (clip_node o c)

-- what a region of a node needs by a grid of this side: that of each clip in order; a source needs nothing
abbrev pub node_needs : Ends → Areas → ℕ → Node → ℤ → Bounds → List NeedShown
node_needs ends areas side (Source s) t r = []
node_needs ends areas side (Effect o) t r =
    flat_map (needs_at ends areas side o t r) (range_with_len 0 (length o.clips))

abbrev pub needs_of : Nodes → ℕ → ℕ → ℤ → Bounds → List NeedShown
needs_of nodes side n t r = node_needs (end_of nodes) (area nodes) side (nodes n) t r

-- ---- their pixels

-- whether a need has the place that a tap reads
abbrev pub need_holds : NeedShown → Tap → Bool
need_holds n p = (nat_eq n.clip p.clip && int_eq n.frame p.frame) && end_holds n.end p.x p.y

-- the pixel of the first need that has the place, and zero where none has
abbrev pub needs_pixel : Nodes → Depth → Components → List NeedShown → Tap → Pixel
needs_pixel nodes to c [] p = zero c
needs_pixel nodes to c (n ∷ ns) p =
    if need_holds n p then end_pixel nodes n.end to c p.x p.y else needs_pixel nodes to c ns p
