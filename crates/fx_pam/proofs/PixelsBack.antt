-- The pixels that are read where an image was written.
use Rattle.std.proofs.Common.{◌≡◌, ◌<◌, ℕ, ◌+◌, ◌*◌, ℤ, true, get_or, refl, ap, ◌∙◌, arith}
use Rattle.fx_base.specs.Rect.{within}
use Rattle.fx_pixel.specs.declared.Components.TheVariants as components
use Rattle.fx_pixel.specs.declared.Depth.{Depth}
use Rattle.fx_pixel.specs.declared.Format.{Format}
use Rattle.fx_pixel.specs.declared.Format.TheVariants.{RgbAlpha, Rgb, Grayscale}
use Rattle.fx_pixel.specs.declared.Pixel.{Pixel}
use Rattle.fx_pixel.specs.declared.Pixel.TheVariants.{Rgba, Alpha}
use Rattle.fx_pixel.specs.Pixel.{greatest}
use Rattle.fx_image.specs.Image.{Image, pixel_at}
use Rattle.fx_pam.specs.Text.{format_depth, samples_of}
use Rattle.fx_pam.specs.Reading.{Header, depth_of, sample_at, scaled, pixel_of}
use Rattle.fx_pam.specs.Laws.{components_for, IsPixelFor, read_pixel, read_back}
use Rattle.fx_pam.proofs.ReadingLaws.{depth-shown, scaled-same}

rgba_of : {r g b a r' g' b' a' : ℕ} → r ≡ r' → g ≡ g' → b ≡ b' → a ≡ a' → Rgba r g b a ≡ Rgba r' g' b' a'
rgba_of p q s t = cc

-- pixels that are read are those that were written, where their samples are
module _ (h : Header) (depth : Depth) (most : h.maxval ≡ greatest depth) (r c : ℕ) where
  read : (i s : ℕ) → sample_at h i ≡ s → scaled h (sample_at h i) ≡ s
  read i s is = scaled-same h depth (sample_at h i) most ∙ is

  opaque : greatest (depth_of h) ≡ greatest depth
  opaque = ap greatest (depth-shown h depth most)

  pub pixel-by : (format : Format) (p : Pixel) → h.depth ≡ format_depth format → IsPixelFor format depth p
      → ((k : ℕ) → k < format_depth format → sample_at h ((r * h.width + c) * format_depth format + k) ≡ get_or (samples_of format p) k 0) → pixel_of h r c ≡ read_pixel format (greatest depth) p
  pixel-by RgbAlpha (Rgba red green blue a) deep is each =
      rw deep (rgba_of (read _ red (each 0 (omega arith))) (read _ green (each 1 (omega arith))) (read _ blue (each 2 (omega arith))) (read _ a (each 3 (omega arith))))
  pixel-by RgbAlpha (Alpha a) deep is each = cc
  pixel-by Rgb (Rgba red green blue a) deep is each =
      rw deep (rgba_of (read _ red (each 0 (omega arith))) (read _ green (each 1 (omega arith))) (read _ blue (each 2 (omega arith))) opaque)
  pixel-by Rgb (Alpha a) deep is each = cc
  pixel-by Grayscale (Rgba red green blue a) deep is each = cc
  pixel-by Grayscale (Alpha a) deep is each =
      let grey = read _ a (each 0 (omega arith)) in
      rw deep (rgba_of grey grey grey opaque)

-- what is read differs from what was written in its pixels and components alone
pub back-rect : (format : Format) (image : Image) → (read_back format image).rect ≡ image.rect
back-rect RgbAlpha image = refl
back-rect Rgb image = refl
back-rect Grayscale image = refl

pub back-depth : (format : Format) (image : Image) → (read_back format image).depth ≡ image.depth
back-depth RgbAlpha image = refl
back-depth Rgb image = refl
back-depth Grayscale image = refl

pub back-components : (format : Format) (image : Image) → image.components ≡ components_for format → (read_back format image).components ≡ components.Rgba
back-components RgbAlpha image is = is
back-components Rgb image is = refl
back-components Grayscale image is = refl

pub back-pixel : (format : Format) (image : Image) (x y : ℤ) → within image.rect x y ≡ true → pixel_at (read_back format image) x y ≡ read_pixel format (greatest image.depth) (pixel_at image x y)
back-pixel RgbAlpha image x y inside = refl
back-pixel Rgb image x y inside = rw inside refl
back-pixel Grayscale image x y inside = rw inside refl
