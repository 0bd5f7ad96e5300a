-- Pixels sample by sample: r, g, b and a, or a alone.
use Rattle.std.specs.Prelude.{ℕ, suc, zero, ◌+◌, ◌*◌, ◌/◌, min, ℤ, pos, negsuc, List}
use Rattle.std.specs.List.{sum_by}
use Rattle.fx_pixel.specs.declared.Components.{Components}
use Rattle.fx_pixel.specs.declared.Components.TheVariants as components
use Rattle.fx_pixel.specs.declared.Pixel.{Pixel}
use Rattle.fx_pixel.specs.declared.Pixel.TheVariants.{Rgba, Alpha}

-- sample k of a pixel
abbrev pub nth : Pixel → ℕ → ℕ
nth (Rgba r g b a) zero = r
nth (Rgba r g b a) (suc zero) = g
nth (Rgba r g b a) (suc (suc zero)) = b
nth (Rgba r g b a) (suc (suc (suc k))) = a
nth (Alpha a) k = a

-- the pixel of these samples
abbrev pub each : Components → (ℕ → ℕ) → Pixel
each components.Rgba f = Rgba (f 0) (f 1) (f 2) (f 3)
each components.Alpha f = Alpha (f 0)

-- p / q to the nearest, halves up
abbrev pub rounded : ℕ → ℕ → ℕ
rounded p q = (2 * p + q) / (2 * q)

-- brought into 0 to m
abbrev pub clamped : ℕ → ℤ → ℕ
clamped m (pos n) = min m n
clamped m (negsuc n) = 0

-- the sum of sample k
abbrev pub sum_of : ℕ → List Pixel → ℕ
sum_of k pixels = sum_by (λ p. nth p k) pixels

-- each sample is the mean of that sample of the pixels, of which there are n
abbrev pub mean_of : Components → ℕ → List Pixel → Pixel
mean_of c n pixels = each c (λ k. rounded (sum_of k pixels) n)
