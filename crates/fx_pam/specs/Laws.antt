-- An image that is written and then read.
use Rattle.std.specs.Prelude.{◌≡◌, ◌≤◌, ◌<◌, ℕ, pos}
use Rattle.fx_pixel.specs.declared.Components.{Components}
use Rattle.fx_pixel.specs.declared.Components.TheVariants as components
use Rattle.fx_pixel.specs.declared.Depth.{Depth}
use Rattle.fx_pixel.specs.declared.Format.{Format}
use Rattle.fx_pixel.specs.declared.Format.TheVariants.{RgbAlpha, Rgb, Grayscale}
use Rattle.fx_pixel.specs.declared.Pixel.{Pixel}
use Rattle.fx_pixel.specs.declared.Pixel.TheVariants.{Rgba, Alpha}
use Rattle.fx_pixel.specs.Pixel.{greatest, components_of, IsOfDepth}
use Rattle.fx_image.specs.Image.{Image, pixel_at}

-- which samples a pixel has that a format is meant for
abbrev pub components_for : Format → Components
components_for RgbAlpha = components.Rgba
components_for Rgb = components.Rgba
components_for Grayscale = components.Alpha

-- a pixel has those, and none is above the depth's greatest
abbrev pub IsPixelFor : Format → Depth → Pixel → Type 0
IsPixelFor format depth p = (components_of p ≡ components_for format) × IsOfDepth depth p

-- a reader takes a side from 1 up to its greatest, and a header says none above 999,999,999
abbrev pub IsSide : ℕ → ℕ → Type 0
IsSide side n = (1 ≤ n) × (n ≤ side) × (n ≤ 999999999)

-- What the format writes of the image can be read: the image lies at (0, 0), its sides are in range, and it and each of its pixels have the samples that the format is meant for.
pub record CanBeRead (format : Format) (side : ℕ) (image : Image) : Type 0 where
  pub width : ℕ
  pub height : ℕ
  pub rect : image.rect ≡ record { x1 = pos 0; y1 = pos 0; x2 = pos width; y2 = pos height }
  pub wide : IsSide side width
  pub high : IsSide side height
  pub components : image.components ≡ components_for format
  pub pixels :
      (x y : ℕ) → x < width → y < height → IsPixelFor format image.depth (pixel_at image (pos x) (pos y))

-- The pixel that is read where this one was written, with m the greatest sample: an a that was not written is m, and the one sample of Grayscale is r, g and b.
abbrev pub read_pixel : Format → ℕ → Pixel → Pixel
read_pixel RgbAlpha m p = p
read_pixel Rgb m (Rgba r g b a) = Rgba r g b m
read_pixel Grayscale m (Rgba r g b a) = Rgba a a a m
read_pixel format m (Alpha a) = Rgba a a a m

-- the image that is read where this one was written
abbrev pub read_back : Format → Image → Image
read_back RgbAlpha image = image
read_back format image =
    record image {
      components = components.Rgba;
      pixel = λ x y. read_pixel format (greatest image.depth) (image.pixel x y);
    }
