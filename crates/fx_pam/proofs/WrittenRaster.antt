-- The raster that is written, as samples.
use Rattle.std.proofs.Common.{◌≡◌, ◌≤◌, ◌<◌, ℕ, zero, suc, ◌+◌, ◌*◌, ℤ, pos, ◌+ℤ◌, ◌-ℤ◌, List, ◌++◌, length, get_or, refl, sym, ap, ◌∙◌, arith}
use Rattle.std.proofs.Math.Nat.{suc-mul, mul-le-mul_right}
use Rattle.fx_base.specs.Rect.{columns}
use Rattle.fx_pixel.specs.declared.Depth.{Depth}
use Rattle.fx_pixel.specs.declared.Format.{Format}
use Rattle.fx_pixel.specs.declared.Format.TheVariants.{RgbAlpha, Rgb, Grayscale}
use Rattle.fx_pixel.specs.declared.Pixel.{Pixel}
use Rattle.fx_pixel.specs.declared.Pixel.TheVariants.{Rgba, Alpha}
use Rattle.fx_pixel.specs.Pixel.{greatest}
use Rattle.fx_image.specs.Image.{Image, pixel_at}
use Rattle.fx_pam.specs.Text.{format_depth, samples_of, sample_bytes, row_bytes, raster}
use Rattle.fx_pam.specs.Laws.{IsPixelFor}
use Rattle.fx_pam.proofs.Chunks.{chunks, chunks-same, length-chunks, get_or-chunks, AllUpTo, up_to-chunks}
use Rattle.fx_pam.proofs.WrittenSamples.{bytes-chunks}

-- the samples of row r from the top, and those of the first n rows, where a row has `width` pixels
abbrev pub row_samples : Format → Image → ℕ → ℕ → List ℕ
row_samples format image width r = chunks (λ c. samples_of format (pixel_at image (image.rect.x1 +ℤ pos c) (image.rect.y2 -ℤ pos (r + 1)))) width

abbrev pub all_samples : Format → Image → ℕ → ℕ → List ℕ
all_samples format image width n = chunks (λ r. row_samples format image width r) n

row_bytes-samples : (format : Format) (image : Image) (y : ℤ) (n : ℕ) → row_bytes format image y n ≡ chunks (λ c. sample_bytes image.depth (samples_of format (pixel_at image (image.rect.x1 +ℤ pos c) y))) n
row_bytes-samples format image y zero = refl
row_bytes-samples format image y (suc n) = ap (λ bs. bs ++ sample_bytes image.depth (samples_of format (pixel_at image (image.rect.x1 +ℤ pos n) y))) (row_bytes-samples format image y n)

row-samples : (format : Format) (image : Image) (width r : ℕ) → row_bytes format image (image.rect.y2 -ℤ pos (r + 1)) width ≡ sample_bytes image.depth (row_samples format image width r)
row-samples format image width r =
    row_bytes-samples format image (image.rect.y2 -ℤ pos (r + 1)) width
    ∙ sym (bytes-chunks image.depth (λ c. samples_of format (pixel_at image (image.rect.x1 +ℤ pos c) (image.rect.y2 -ℤ pos (r + 1)))) width)

raster-rows : (format : Format) (image : Image) (n : ℕ) → raster format image n ≡ chunks (λ r. row_bytes format image (image.rect.y2 -ℤ pos (r + 1)) (columns image.rect)) n
raster-rows format image zero = refl
raster-rows format image (suc n) = ap (λ bs. bs ++ row_bytes format image (image.rect.y2 -ℤ pos (n + 1)) (columns image.rect)) (raster-rows format image n)

pub raster-samples : (format : Format) (image : Image) (width n : ℕ) → columns image.rect ≡ width → raster format image n ≡ sample_bytes image.depth (all_samples format image width n)
raster-samples format image width n wide =
    raster-rows format image n
    ∙ ap (λ w. chunks (λ r. row_bytes format image (image.rect.y2 -ℤ pos (r + 1)) w) n) wide
    ∙ chunks-same _ _ n (λ r. row-samples format image width r)
    ∙ sym (bytes-chunks image.depth (λ r. row_samples format image width r) n)

-- a pixel's samples are as many as the format says, and at most the depth's greatest
pub length-samples_of : (format : Format) (depth : Depth) (p : Pixel) → IsPixelFor format depth p → length (samples_of format p) ≡ format_depth format
length-samples_of RgbAlpha depth (Rgba r g b a) is = refl
length-samples_of RgbAlpha depth (Alpha a) is = cc
length-samples_of Rgb depth (Rgba r g b a) is = refl
length-samples_of Rgb depth (Alpha a) is = cc
length-samples_of Grayscale depth (Rgba r g b a) is = refl
length-samples_of Grayscale depth (Alpha a) is = refl

pub up_to-samples_of : (format : Format) (depth : Depth) (p : Pixel) → IsPixelFor format depth p → AllUpTo (greatest depth) (samples_of format p)
up_to-samples_of RgbAlpha depth (Rgba r g b a) is = (is.1.0, (is.1.1, (is.1.2, (is.1.3, tt))))
up_to-samples_of Rgb depth (Rgba r g b a) is = (is.1.0, (is.1.1, (is.1.2, tt)))
up_to-samples_of Grayscale depth (Rgba r g b a) is = (is.1.3, tt)
up_to-samples_of format depth (Alpha a) is = (is.1, tt)

-- the image has such a pixel at each of its places, by row from the top and column
abbrev pub HasPixels : Format → Image → ℕ → ℕ → Type 0
HasPixels format image width height = (r c : ℕ) → r < height → c < width → IsPixelFor format image.depth (pixel_at image (image.rect.x1 +ℤ pos c) (image.rect.y2 -ℤ pos (r + 1)))

module _ (format : Format) (image : Image) (width height : ℕ) (has : HasPixels format image width height) where
  length-row : (r : ℕ) → r < height → length (row_samples format image width r) ≡ width * format_depth format
  length-row r low = length-chunks _ width (format_depth format) (λ c h. length-samples_of format image.depth _ (has r c low h))

  pub length-all : length (all_samples format image width height) ≡ height * (width * format_depth format)
  length-all = length-chunks _ height (width * format_depth format) length-row

  pub up_to-all : AllUpTo (greatest image.depth) (all_samples format image width height)
  up_to-all = up_to-chunks (greatest image.depth) _ height (λ r low. up_to-chunks (greatest image.depth) _ width (λ c h. up_to-samples_of format image.depth _ (has r c low h)))

  pub sample-all : (r c k : ℕ) → r < height → c < width → k < format_depth format
      → get_or (all_samples format image width height) ((r * width + c) * format_depth format + k) 0 ≡ get_or (samples_of format (pixel_at image (image.rect.x1 +ℤ pos c) (image.rect.y2 -ℤ pos (r + 1)))) k 0
  sample-all r c k low left within =
      let d = format_depth format in
      let room : suc c * d ≤ width * d = mul-le-mul_right d left in
      let in_row : c * d + k < width * d = omega (arith, room, suc-mul c d) in
      let place : (r * width + c) * d + k ≡ r * (width * d) + (c * d + k) = omega arith in
      rw place (
      get_or-chunks (λ i. row_samples format image width i) height (width * d) r (c * d + k) length-row low in_row
      ∙ get_or-chunks (λ i. samples_of format (pixel_at image (image.rect.x1 +ℤ pos i) (image.rect.y2 -ℤ pos (r + 1)))) width d c k (λ i h. length-samples_of format image.depth _ (has r i low h)) left within
      )
