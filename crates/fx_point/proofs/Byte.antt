-- A render of bytes.
use Rattle.std.proofs.Common.{◌≡◌, ℤ, refl, ◌∙◌}
use Rattle.fx_pixel.specs.declared.Depth.{Depth}
use Rattle.fx_pixel.specs.declared.Depth.TheVariants as depths
use Rattle.fx_pixel.specs.declared.Pixel.{Pixel}
use Rattle.fx_pixel.specs.Pixel.{greatest}
use Rattle.fx_image.specs.Part.{IsWritten}
use Rattle.fx_image.specs.declared.part.Part.{Part}
use Rattle.fx_point.specs.Levels.{of_depth}
use Rattle.fx_point.specs.Posterise.{posterised_pixel}

pub of_byte : (n : ℤ) (depth : Depth) (p : Pixel) → depth ≡ depths.Byte
    → of_depth n depth p ≡ posterised_pixel n (greatest depth) p
of_byte n depths.Byte p byte = refl
of_byte n depths.Short p byte = absurd cc

-- the same pixels are written
pub written_as : (p q : Part) (f g : ℤ → ℤ → Pixel) → IsWritten p q f → ((x y : ℤ) → f x y ≡ g x y) → IsWritten p q g
written_as p q f g written same = (
  written.0,
  record {
    inside = λ x y within below. written.1.inside x y within below ∙ same x y;
    outside = written.1.outside;
  },
)
