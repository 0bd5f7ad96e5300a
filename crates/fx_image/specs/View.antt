-- Views of an image, to be read.
use Rattle.std.specs.Prelude.{ℤ, if◌then◌else◌}
use Rattle.fx_base.specs.Bounds.{IsRect}
use Rattle.fx_base.specs.Rect.{IsWithin, within}
use Rattle.fx_pixel.specs.declared.Pixel.{Pixel}
use Rattle.fx_pixel.specs.Pixel.{zero}
use Rattle.fx_image.specs.Image.{PixelsFit}
use Rattle.fx_image.specs.Stored.{image_of, shown}
use Rattle.fx_image.specs.declared.view.View.{View}

-- the view's rectangle lies in its image, whose pixels are of its depth and components
pub record IsView (v : View) : Type 0 where
  pub rect : IsRect v.rect
  pub within : IsWithin v.rect v.image.now.rect
  pub fit : PixelsFit (image_of v.image.now)

-- the pixel at a place of the view, and zero outside it
abbrev pub view_shown : View → ℤ → ℤ → Pixel
view_shown v x y = if within v.rect x y then shown v.image.now x y else zero v.image.now.components
