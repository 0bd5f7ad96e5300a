-- The depth and the components of a node, by those of its connected inputs and what its effect supports (this
-- project's own choice: OpenFX 1.4, "kOfxImageEffectActionGetClipPreferences", leaves the defaults to the host).
use Rattle.std.specs.Prelude.{Bool, true, false, not, ◌&&◌, ◌==◌, length, List, if◌then◌else◌}
use Rattle.std.specs.List.{list_any, list_all}
use Rattle.fx_pixel.specs.declared.Depth.{Depth}
use Rattle.fx_pixel.specs.declared.Depth.TheVariants as depths
use Rattle.fx_pixel.specs.declared.Components.{Components}
use Rattle.fx_pixel.specs.declared.Components.TheVariants as components

-- a connected input: its depth, its components, and whether it is a mask
abbrev pub Input : Type 0
Input = Depth × Components × Bool

abbrev pub is_short : Depth → Bool
is_short depths.Byte = false
is_short depths.Short = true

abbrev pub is_rgba : Components → Bool
is_rgba components.Rgba = true
is_rgba components.Alpha = false

abbrev pub has_short : List Input → Bool
has_short inputs = list_any (λ i. is_short i.0) inputs

abbrev pub are_masks : List Input → Bool
are_masks inputs = list_all (λ i. i.2) inputs

-- an input other than a mask has RGBA
abbrev pub has_rgba : List Input → Bool
has_rgba inputs = list_any (λ i. not i.2 && is_rgba i.1) inputs

-- the deepest depth of the inputs, and the project's where there is none
abbrev pub deepest : Depth → List Input → Depth
deepest project inputs =
    if length inputs == 0 then project else (if has_short inputs then depths.Short else depths.Byte)

-- a single supported depth wins
abbrev pub depth_among : Bool → Bool → Depth → Depth
depth_among true true wanted = wanted
depth_among byte true wanted = depths.Short
depth_among byte false wanted = depths.Byte

-- RGBA where an input other than a mask has it, Alpha where all these have that, and the project's where there is none
abbrev pub widest : Components → List Input → Components
widest project inputs =
    if are_masks inputs then project else (if has_rgba inputs then components.Rgba else components.Alpha)

-- by the inputs, whether byte, short and Alpha are supported, and the project's depth and components; where Alpha
-- isn't supported it is RGBA
abbrev pub negotiated : List Input → Bool → Bool → Bool → Depth × Components → Depth × Components
negotiated inputs byte short alpha project =
    (depth_among byte short (deepest project.0 inputs), if alpha then widest project.1 inputs else components.Rgba)
