-- Generators that make greys.
use Rattle.std.specs.Prelude.{◌≡◌, ◌≤◌, ℕ, refl}
use Rattle.std.proofs.Common.{arith}
use Rattle.fx_pixel.specs.declared.Depth.{Depth}
use Rattle.fx_pixel.specs.declared.Components.{Components}
use Rattle.fx_pixel.specs.declared.Components.TheVariants as components
use Rattle.fx_pixel.specs.declared.Pixel.{Pixel}
use Rattle.fx_pixel.specs.declared.Pixel.TheVariants.{Rgba, Alpha}
use Rattle.fx_pixel.specs.Pixel.{greatest, IsOfDepth, components_of}

-- opaque grey, or a alone, where m is the greatest sample
abbrev pub grey : Components → ℕ → ℕ → Pixel
grey components.Rgba m n = Rgba n n n m
grey components.Alpha m n = Alpha n

pub grey_of_depth : (depth : Depth) (c : Components) (n : ℕ) → n ≤ greatest depth
    → IsOfDepth depth (grey c (greatest depth) n)
grey_of_depth depth components.Rgba n few = (few, few, few, omega arith)
grey_of_depth depth components.Alpha n few = few

pub grey_components : (c : Components) (m n : ℕ) → components_of (grey c m n) ≡ c
grey_components components.Rgba m n = refl
grey_components components.Alpha m n = refl
