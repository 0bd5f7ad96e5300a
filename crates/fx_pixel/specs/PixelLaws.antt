-- Laws of pixels and conversions, for callers.
use Rattle.std.specs.Prelude.{◌≡◌, ◌≤◌, ℕ, refl}
use Rattle.std.proofs.Common.{arith}
use Rattle.fx_pixel.specs.declared.Depth.{Depth}
use Rattle.fx_pixel.specs.declared.Depth.TheVariants.{Byte, Short}
use Rattle.fx_pixel.specs.declared.Components.{Components}
use Rattle.fx_pixel.specs.declared.Components.TheVariants as components
use Rattle.fx_pixel.specs.declared.Pixel.{Pixel}
use Rattle.fx_pixel.specs.declared.Pixel.TheVariants.{Rgba, Alpha}
use Rattle.fx_pixel.specs.Pixel.{greatest, zero, IsOfDepth, components_of, convert_sample, convert}

-- a converted sample goes up to the greatest of its new depth
pub sample_small : (from to : Depth) (v : ℕ) → v ≤ greatest from → convert_sample from to v ≤ greatest to
sample_small Byte Byte v h = h
sample_small Byte Short v h = omega arith
sample_small Short Byte v h = omega arith
sample_small Short Short v h = h

zero_sample : (from to : Depth) → convert_sample from to 0 ≡ 0
zero_sample Byte Byte = refl
zero_sample Byte Short = refl
zero_sample Short Byte = refl
zero_sample Short Short = refl

-- every conversion keeps the zero pixel
pub convert_zero : (from to : Depth) (c d : Components) → convert from to d (zero c) ≡ zero d
convert_zero from to components.Rgba components.Rgba = rw (zero_sample from to) refl
convert_zero from to components.Rgba components.Alpha = rw (zero_sample from to) refl
convert_zero from to components.Alpha components.Rgba = rw (zero_sample from to) refl
convert_zero from to components.Alpha components.Alpha = rw (zero_sample from to) refl

-- a converted pixel is of the depth and has the components that it is converted to
pub convert_form : (from to : Depth) (c : Components) (p : Pixel) → IsOfDepth from p
    → IsOfDepth to (convert from to c p) × (components_of (convert from to c p) ≡ c)
convert_form from to components.Rgba (Rgba r g b a) h =
    let small = sample_small from to in
    ((small r h.0, small g h.1, small b h.2, small a h.3), refl)
convert_form from to components.Alpha (Rgba r g b a) h = (sample_small from to a h.3, refl)
convert_form from to components.Rgba (Alpha a) h =
    let small = sample_small from to a h in
    ((small, small, small, small), refl)
convert_form from to components.Alpha (Alpha a) h = (sample_small from to a h, refl)

-- the zero pixel is of every depth
pub zero_form : (depth : Depth) (c : Components) → IsOfDepth depth (zero c) × (components_of (zero c) ≡ c)
zero_form depth components.Rgba = ((omega arith, omega arith, omega arith, omega arith), refl)
zero_form depth components.Alpha = (omega arith, refl)
