-- Parts that show the same pixels.
use Rattle.std.proofs.Common.{◌≡◌, ℤ, ◌∙◌}
use Rattle.fx_pixel.specs.declared.Pixel.{Pixel}
use Rattle.fx_image.specs.Part.{IsWritten}
use Rattle.fx_image.specs.declared.part.Part.{Part}

pub written_as : (p q : Part) (f g : ℤ → ℤ → Pixel) → IsWritten p q f → ((x y : ℤ) → f x y ≡ g x y) → IsWritten p q g
written_as p q f g written same = (
  written.0,
  record {
    inside = λ x y within below. written.1.inside x y within below ∙ same x y;
    outside = written.1.outside;
  },
)
