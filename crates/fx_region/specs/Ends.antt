-- Where a region of a node is found, where identities are passed on (OpenFX 1.4, kOfxImageEffectActionIsIdentity), and
-- the pixels that stand there.
use Rattle.std.specs.Prelude.{ℕ, ℤ, List, [], ◌∷◌, ◌++◌, Option, Some, None, Bool, false, if◌then◌else◌}
use Rattle.fx_base.specs.Bounds.{Bounds}
use Rattle.fx_base.specs.Rect.{IsWithin, is_empty, meet, within}
use Rattle.fx_pixel.specs.declared.Depth.{Depth}
use Rattle.fx_pixel.specs.declared.Components.{Components}
use Rattle.fx_pixel.specs.declared.Pixel.{Pixel}
use Rattle.fx_pixel.specs.Pixel.{zero}
use Rattle.fx_image.specs.Image.{Image, pixel_at}
use Rattle.fx_effect.specs.Given.{converted}
use Rattle.fx_effect.specs.declared.action.Identity.{Identity}
use Rattle.fx_effect.specs.declared.action.Identity.TheVariants.{No, Same}
use Rattle.fx_effect.specs.declared.steps.Step.{Step}
use Rattle.fx_scene.specs.Table.{at_place}
use Rattle.fx_scene.specs.Nodes.{SourceFrames, EffectNode, Node, Source, Effect, Nodes, clip_node, depth_at}
use Rattle.fx_scene.specs.Value.{value}
use Rattle.fx_scene.specs.Areas.{area}
use Rattle.fx_region.specs.declared.ends.End.{End}
use Rattle.fx_region.specs.declared.ends.End.TheVariants as code

-- Where a region is found: nowhere; in a frame of a source; or in a render of an effect, where a region is rendered
-- that holds the cut which is asked for. What is found there goes through the depths and components of these nodes.
pub data EndShown : Type 0 where
  Void : EndShown
  Frame : ℕ → ℤ → Bounds → List Step → EndShown
  Render : ℕ → ℤ → Bounds → Bounds → List Step → EndShown

-- an end in the code
abbrev pub end_shown : End → EndShown
end_shown code.Void = Void
end_shown (code.Frame node frame region through) = Frame node frame region through
end_shown (code.Render node frame region cut through) = Render node frame region cut through

abbrev pub Ends : Type 0
Ends = ℕ → ℤ → Bounds → EndShown

-- which region is rendered of a node at a frame, for a cut of its area
abbrev pub Choice : Type 0
Choice = ℕ → ℤ → Bounds → Bounds

-- what is rendered for a cut of a node's area holds the cut
abbrev pub IsChoice : Nodes → Choice → Type 0
IsChoice nodes choose =
    (n : ℕ) (t : ℤ) (cut : Bounds) → IsWithin cut (area nodes n t) → IsWithin cut (choose n t cut)

-- of an effect that supports no tiles the whole area, and else the cut alone (OpenFX 1.4,
-- kOfxImageEffectPropSupportsTiles)
abbrev pub whole_or_cut : Node → Bounds → Bounds → Bounds
whole_or_cut (Source s) whole cut = cut
whole_or_cut (Effect o) whole cut = if o.meaning.shape.tiles then cut else whole

abbrev pub chosen : Nodes → Choice
chosen nodes n t cut = whole_or_cut (nodes n) (area nodes n t) cut

-- ---- the end

-- one node more is gone through
abbrev pub onward : Step → EndShown → EndShown
onward s Void = Void
onward s (Frame node frame region through) = Frame node frame region (through ++ s ∷ [])
onward s (Render node frame region cut through) = Render node frame region cut (through ++ s ∷ [])

abbrev pub source_step : SourceFrames → Step
source_step s = record { depth = s.depth; components = s.components }

abbrev pub effect_step : EffectNode → Step
effect_step o = record { depth = o.depth; components = o.components }

-- the end of a clip's node; nowhere where the clip is unconnected
abbrev pub clip_end : Ends → Option ℕ → ℤ → Bounds → EndShown
clip_end ends None f r = Void
clip_end ends (Some m) f r = ends m f r

-- at a source, the frame that it shows
abbrev pub source_end : ℕ → SourceFrames → Option ℤ → Bounds → EndShown
source_end n s None r = Void
source_end n s (Some f) r = Frame n f r (source_step s ∷ [])

-- at an effect that is the same as a clip at a frame, the end of the clip's node there; else a render
abbrev pub effect_end : Choice → Ends → ℕ → EffectNode → ℤ → Bounds → Identity → EndShown
effect_end choose ends n o t r No = Render n t (choose n t r) r []
effect_end choose ends n o t r (Same clip f) = onward (effect_step o) (clip_end ends (clip_node o clip) f r)

-- the end of a region of the node's area
abbrev pub cut_end : Choice → Ends → ℕ → Node → ℤ → Bounds → EndShown
cut_end choose ends n (Source s) t r = source_end n s (s.named t) r
cut_end choose ends n (Effect o) t r = effect_end choose ends n o t r (o.meaning.same (o.values t) r)

-- and nowhere where it has no place
abbrev pub node_end : Choice → Ends → ℕ → Node → ℤ → Bounds → EndShown
node_end choose ends n node t r = if is_empty r then Void else cut_end choose ends n node t r

abbrev pub no_end : ℤ → Bounds → EndShown
no_end t r = Void

-- the end of a region of each node at each frame, cut to the node's area, by the place in the list
unfoldable pub end_by : Choice → Nodes → Ends
end_by choose nodes =
    at_place no_end (λ before n t r. node_end choose before n (nodes n) t (meet r (area nodes n t)))

-- where the whole area is rendered of effects that support no tiles, and the cut alone of the others
abbrev pub end_of : Nodes → Ends
end_of nodes = end_by (chosen nodes) nodes

-- ---- its pixels

-- whether an end has a place: a render where the cut has it
abbrev pub end_holds : EndShown → ℤ → ℤ → Bool
end_holds Void x y = false
end_holds (Frame node frame region through) x y = within region x y
end_holds (Render node frame region cut through) x y = within cut x y

-- the pixel of an image, after these conversions and a last one; one that wasn't fetched shows nothing
abbrev pub image_through : Option Image → List Step → Depth → Components → ℤ → ℤ → Pixel
image_through None through to c x y = zero c
image_through (Some image) through to c x y = converted image.depth through to c (pixel_at image x y)

-- the same of a source's frame
abbrev pub frame_through : Node → ℤ → List Step → Depth → Components → ℤ → ℤ → Pixel
frame_through (Source s) f through to c x y = image_through (s.frames f) through to c x y
frame_through (Effect o) f through to c x y = zero c

-- the pixel of a render of a region: the node's value there, and nothing outside of the region
abbrev pub render_through : Nodes → ℕ → ℤ → Bounds → List Step → Depth → Components → ℤ → ℤ → Pixel
render_through nodes node frame region through to c x y =
    if within region x y then converted (depth_at nodes node) through to c (value nodes node frame x y) else zero c

-- the pixel of an end at a place, after its conversions and a last one, and zero where it doesn't have the place
abbrev pub end_pixel : Nodes → EndShown → Depth → Components → ℤ → ℤ → Pixel
end_pixel nodes Void to c x y = zero c
end_pixel nodes (Frame node frame region through) to c x y =
    if within region x y then frame_through (nodes node) frame through to c x y else zero c
end_pixel nodes (Render node frame region cut through) to c x y =
    if within cut x y then render_through nodes node frame region through to c x y else zero c
