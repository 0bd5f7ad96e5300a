-- Samples and pixels.
use Rattle.std.specs.Prelude.{ℕ, ◌+◌, ◌*◌, ◌/◌, ◌≤◌}
use Rattle.fx_pixel.specs.declared.Depth.{Depth}
use Rattle.fx_pixel.specs.declared.Depth.TheVariants.{Byte, Short}
use Rattle.fx_pixel.specs.declared.Components.{Components}
use Rattle.fx_pixel.specs.declared.Components.TheVariants as components
use Rattle.fx_pixel.specs.declared.Pixel.{Pixel}
use Rattle.fx_pixel.specs.declared.Pixel.TheVariants.{Rgba, Alpha}

-- the greatest sample
abbrev pub greatest : Depth → ℕ
greatest Byte = 255
greatest Short = 65535

-- how many bytes a sample has
abbrev pub size : Depth → ℕ
size Byte = 1
size Short = 2

-- how many samples a pixel has
abbrev pub count : Components → ℕ
count components.Rgba = 4
count components.Alpha = 1

-- the pixel whose samples are all 0
abbrev pub zero : Components → Pixel
zero components.Rgba = Rgba 0 0 0 0
zero components.Alpha = Alpha 0

-- its samples go up to the depth's greatest
abbrev pub IsOfDepth : Depth → Pixel → Type 0
IsOfDepth depth (Rgba r g b a) =
    (r ≤ greatest depth) × (g ≤ greatest depth) × (b ≤ greatest depth) × (a ≤ greatest depth)
IsOfDepth depth (Alpha a) = a ≤ greatest depth

-- which samples it has
abbrev pub components_of : Pixel → Components
components_of (Rgba r g b a) = components.Rgba
components_of (Alpha a) = components.Alpha

-- a sample at another depth: the greatest goes to the greatest, and what lies between to the nearest, halves down
abbrev pub convert_sample : Depth → Depth → ℕ → ℕ
convert_sample Byte Byte v = v
convert_sample Byte Short v = v * 257
convert_sample Short Byte v = (v * 255 + 32767) / 65535
convert_sample Short Short v = v

-- a pixel at another depth
abbrev pub at_depth : Depth → Depth → Pixel → Pixel
at_depth from to (Rgba r g b a) =
    Rgba (convert_sample from to r) (convert_sample from to g) (convert_sample from to b) (convert_sample from to a)
at_depth from to (Alpha a) = Alpha (convert_sample from to a)

-- RGBA to Alpha takes a, and Alpha to RGBA repeats it
abbrev pub with_components : Components → Pixel → Pixel
with_components components.Rgba (Rgba r g b a) = Rgba r g b a
with_components components.Rgba (Alpha a) = Rgba a a a a
with_components components.Alpha (Rgba r g b a) = Alpha a
with_components components.Alpha (Alpha a) = Alpha a

-- a pixel at another depth, with other components
abbrev pub convert : Depth → Depth → Components → Pixel → Pixel
convert from to c p = with_components c (at_depth from to p)
