-- Rasters that can be read, and their rows.
use Rattle.std.specs.Prelude.{◌≡◌, ℕ, ◌<◌, ◌≤◌, ◌+◌, ◌-◌, ◌*◌, ℤ, pos, List, length, take, drop}
use Rattle.std.specs.Int.{int_gap}
use Rattle.fx_base.specs.Rect.{Holds}
use Rattle.fx_pixel.specs.declared.Components.TheVariants as components
use Rattle.fx_pixel.specs.declared.Pixel.{Pixel}
use Rattle.fx_pixel.specs.Pixel.{greatest}
use Rattle.fx_image.specs.Image.{Image, pixel_at}
use Rattle.fx_image.specs.Stored.{pixel_in}
use Rattle.fx_pam.specs.Reading.{Header, depth_of, sample_size, sample_count, raster_length, sample_at, pixel_of}

-- sides up to `side`, one to four samples a pixel, and a greatest sample from 1 to 65535
pub record IsRanged (side : ℕ) (h : Header) : Type 0 where
  pub width : (1 ≤ h.width) × (h.width ≤ side)
  pub height : (1 ≤ h.height) × (h.height ≤ side)
  pub depth : (1 ≤ h.depth) × (h.depth ≤ 4)
  pub maxval : (1 ≤ h.maxval) × (h.maxval ≤ 65535)

-- a raster with all its bytes, and no sample above the greatest
pub record IsWhole (side : ℕ) (h : Header) : Type 0 where
  pub ranged : IsRanged side h
  pub long : raster_length h ≤ length h.behind
  pub low : (i : ℕ) → i < sample_count h → sample_at h i ≤ h.maxval

-- four samples a pixel, of which the greatest is the depth's: the bytes of a row are the image's
pub record IsPlain (h : Header) : Type 0 where
  pub four : h.depth ≡ 4
  pub greatest : h.maxval ≡ greatest (depth_of h)

-- how many bytes a row of the file has
abbrev pub row_length : Header → ℕ
row_length h = h.width * h.depth * sample_size h

-- row r from the top, as a raster of one row
abbrev pub row_at : Header → ℕ → Header
row_at h r = record h { height = 1; behind = take (row_length h) (drop (r * row_length h) h.behind) }

-- the pixel of the file at column x and row y, which counts from the bottom
abbrev pub pixel_from_bottom : Header → ℤ → ℤ → Pixel
pixel_from_bottom h x y = pixel_of h (h.height - 1 - int_gap (pos 0) y) (int_gap (pos 0) x)

-- the image of a raster: RGBA over the rectangle from (0, 0), with the last row of the file at the bottom
pub record IsImageOf (h : Header) (image : Image) : Type 0 where
  pub rect : image.rect ≡ record { x1 = pos 0; y1 = pos 0; x2 = pos h.width; y2 = pos h.height }
  pub depth : image.depth ≡ depth_of h
  pub components : image.components ≡ components.Rgba
  pub pixels : (x y : ℤ) → Holds image.rect x y → pixel_at image x y ≡ pixel_from_bottom h x y

-- the bytes are those of the file's last rows, the last one first, as the image has them
abbrev pub RiseTo : Header → ℕ → List ℕ → Type 0
RiseTo h count bytes =
    (y c : ℕ) → y < count → c < h.width
    → pixel_in (depth_of h) components.Rgba bytes (y * h.width + c) ≡ pixel_of h (h.height - 1 - y) c
