-- Images that were written whole.
use Rattle.std.specs.Prelude.{◌≡◌, ℤ}
use Rattle.fx_base.specs.Rect.{Holds}
use Rattle.fx_pixel.specs.declared.Pixel.{Pixel}
use Rattle.fx_image.specs.Stored.{Stored, shown}

-- the image keeps its form, and shows these pixels at each place of its rectangle
pub record IsFilled (old new : Stored) (f : ℤ → ℤ → Pixel) : Type 0 where
  pub rect : new.rect ≡ old.rect
  pub depth : new.depth ≡ old.depth
  pub components : new.components ≡ old.components
  pub pixels : (x y : ℤ) → Holds old.rect x y → shown new x y ≡ f x y
