-- Images: a rectangle, a depth, components, and a pixel for each place of the rectangle. An image has no rows, strides or bytes.
use Rattle.std.specs.Prelude.{◌≡◌, ℤ, if◌then◌else◌}
use Rattle.fx_base.specs.Bounds.{Bounds}
use Rattle.fx_base.specs.Rect.{within}
use Rattle.fx_pixel.specs.declared.Depth.{Depth}
use Rattle.fx_pixel.specs.declared.Components.{Components}
use Rattle.fx_pixel.specs.declared.Pixel.{Pixel}
use Rattle.fx_pixel.specs.Pixel.{zero, components_of, IsOfDepth}

pub record Image : Type 0 where
  pub rect : Bounds
  pub depth : Depth
  pub components : Components
  pub pixel : ℤ → ℤ → Pixel

-- the pixel at a place, and zero outside the rectangle
abbrev pub pixel_at : Image → ℤ → ℤ → Pixel
pixel_at image x y = if within image.rect x y then image.pixel x y else zero image.components

-- the same rectangle, depth and components, and the same pixel at each place
pub record SameImage (a b : Image) : Type 0 where
  pub rect : a.rect ≡ b.rect
  pub depth : a.depth ≡ b.depth
  pub components : a.components ≡ b.components
  pub pixels : (x y : ℤ) → pixel_at a x y ≡ pixel_at b x y

-- each pixel has the image's components, and no sample above its depth's greatest
pub record PixelsFit (image : Image) : Type 0 where
  pub depth : (x y : ℤ) → IsOfDepth image.depth (pixel_at image x y)
  pub components : (x y : ℤ) → components_of (pixel_at image x y) ≡ image.components
