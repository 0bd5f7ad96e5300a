-- Images as they are stored: rows of samples from the bottom up, short samples with the more significant byte first, a pixel's samples in the order r, g, b, a.
use Rattle.std.specs.Prelude.{◌≡◌, ◌≤◌, ◌<◌, ℕ, ◌+◌, ◌*◌, ◌^◌, ℤ, List, slice_index, length}
use Rattle.std.specs.Int.{int_gap}
use Rattle.fx_base.specs.Bounds.{Bounds, IsRect}
use Rattle.fx_base.specs.Rect.{columns, rows, IsNear}
use Rattle.fx_pixel.specs.declared.Depth.{Depth}
use Rattle.fx_pixel.specs.declared.Depth.TheVariants.{Byte, Short}
use Rattle.fx_pixel.specs.declared.Components.{Components}
use Rattle.fx_pixel.specs.declared.Components.TheVariants as components
use Rattle.fx_pixel.specs.declared.Pixel.{Pixel}
use Rattle.fx_pixel.specs.declared.Pixel.TheVariants.{Rgba, Alpha}
use Rattle.fx_pixel.specs.Pixel.{size, count}
use Rattle.fx_image.specs.Rows.{Raster, row_of}
use Rattle.fx_image.specs.Image.{Image, pixel_at}

-- how many bytes a pixel has
abbrev pub pixel_size : Depth → Components → ℕ
pixel_size depth c = count c * size depth

-- sample i of a row of bytes
abbrev pub sample_in : Depth → List ℕ → ℕ → ℕ
sample_in Byte row i = slice_index row i
sample_in Short row i = 256 * slice_index row (2 * i) + slice_index row (2 * i + 1)

-- pixel i of a row of bytes
abbrev pub pixel_in : Depth → Components → List ℕ → ℕ → Pixel
pixel_in depth components.Rgba row i =
    let sample = sample_in depth row in
    Rgba (sample (4 * i)) (sample (4 * i + 1)) (sample (4 * i + 2)) (sample (4 * i + 3))
pixel_in depth components.Alpha row i = Alpha (sample_in depth row i)

-- what contracts see of an image: its rectangle, depth and components, and its rows
pub record Stored : Type 0 where
  pub rect : Bounds
  pub depth : Depth
  pub components : Components
  pub raster : Raster

-- the image that is stored
abbrev pub image_of : Stored → Image
image_of s =
    record {
      rect = s.rect;
      depth = s.depth;
      components = s.components;
      pixel = λ x y. pixel_in s.depth s.components (row_of s.raster (int_gap s.rect.y1 y)) (int_gap s.rect.x1 x);
    }

-- the pixel of a stored image at a place, and zero outside
abbrev pub shown : Stored → ℤ → ℤ → Pixel
shown s x y = pixel_at (image_of s) x y

-- a row for each row of the rectangle, with room for its pixels
pub record IsStored (s : Stored) : Type 0 where
  pub rect : IsRect s.rect
  pub near : IsNear s.rect
  pub row_count : s.raster.height ≡ rows s.rect
  pub narrow : s.raster.pitch < 2 ^ 32
  pub row_fits : columns s.rect * pixel_size s.depth s.components ≤ s.raster.pitch

-- the same rectangle, depth, components and form of rows
pub record SameFrame (s t : Stored) : Type 0 where
  pub rect : t.rect ≡ s.rect
  pub depth : t.depth ≡ s.depth
  pub components : t.components ≡ s.components
  pub pitch : t.raster.pitch ≡ s.raster.pitch
  pub height : t.raster.height ≡ s.raster.height
  pub step : t.raster.step ≡ s.raster.step
  pub blocks : length t.raster.blocks ≡ length s.raster.blocks
