-- How long the text of a picture may be.
use Rattle.std.proofs.Common.{◌≤◌, ◌<◌, ◌+◌, ◌*◌, ℕ, zero, suc, ℤ, pos, ◌+ℤ◌, ◌-ℤ◌, List, [], ◌∷◌, ◌++◌, length, arith, length-append}
use Rattle.std.specs.Prelude.{codes, decimal}
use Rattle.std.proofs.lemmas.Fmt.{length-decimal-le}
use Rattle.fx_base.specs.Rect.{columns, rows}
use Rattle.fx_pixel.specs.declared.Depth.{Depth}
use Rattle.fx_pixel.specs.declared.Depth.TheVariants.{Byte, Short}
use Rattle.fx_pixel.specs.declared.Format.{Format}
use Rattle.fx_pixel.specs.declared.Format.TheVariants.{RgbAlpha, Rgb, Grayscale}
use Rattle.fx_pixel.specs.declared.Pixel.{Pixel}
use Rattle.fx_pixel.specs.declared.Pixel.TheVariants.{Rgba, Alpha}
use Rattle.fx_pixel.specs.Pixel.{greatest}
use Rattle.fx_image.specs.Image.{Image, pixel_at}
use Rattle.fx_pam.specs.Text.{format_depth, format_name, samples_of, sample_bytes, header, row_bytes, raster, pam_text}

few_samples : (format : Format) (p : Pixel) → length (samples_of format p) ≤ 4
few_samples RgbAlpha (Rgba r g b a) = omega arith
few_samples Rgb (Rgba r g b a) = omega arith
few_samples Grayscale (Rgba r g b a) = omega arith
few_samples RgbAlpha (Alpha a) = omega arith
few_samples Rgb (Alpha a) = omega arith
few_samples Grayscale (Alpha a) = omega arith

two_bytes : (depth : Depth) (samples : List ℕ) → length (sample_bytes depth samples) ≤ 2 * length samples
two_bytes depth [] = omega arith
two_bytes Byte (s ∷ samples) = let rest = two_bytes Byte samples in omega (arith, rest)
two_bytes Short (s ∷ samples) = let rest = two_bytes Short samples in omega (arith, rest)

short_row : (format : Format) (image : Image) (y : ℤ) (n : ℕ) → length (row_bytes format image y n) ≤ 8 * n
short_row format image y zero = omega arith
short_row format image y (suc n) =
    let samples = samples_of format (pixel_at image (image.rect.x1 +ℤ pos n) y) in
    let before = short_row format image y n in
    let bytes = two_bytes image.depth samples in
    let few = few_samples format (pixel_at image (image.rect.x1 +ℤ pos n) y) in
    let both = length-append (row_bytes format image y n) (sample_bytes image.depth samples) in
    omega (arith, before, bytes, few, both)

short_raster : (format : Format) (image : Image) (n : ℕ) → columns image.rect ≤ 8192 → length (raster format image n) ≤ 65536 * n
short_raster format image zero narrow = omega arith
short_raster format image (suc n) narrow =
    let y = image.rect.y2 -ℤ pos (n + 1) in
    let before = short_raster format image n narrow in
    let row = short_row format image y (columns image.rect) in
    let both = length-append (raster format image n) (row_bytes format image y (columns image.rect)) in
    omega (arith, before, row, both, narrow)

short_name : (format : Format) → length (format_name format) ≤ 9
short_name RgbAlpha = omega arith
short_name Rgb = omega arith
short_name Grayscale = omega arith

short_number : (n : ℕ) → n < 100000 → length (decimal n) ≤ 5
short_number n low = length-decimal-le 5 n (omega arith) (omega (arith, low)) (omega (arith, low))

small_depth : (format : Format) → format_depth format < 100000
small_depth RgbAlpha = omega arith
small_depth Rgb = omega arith
small_depth Grayscale = omega arith

small_greatest : (depth : Depth) → greatest depth < 100000
small_greatest Byte = omega arith
small_greatest Short = omega arith

long : (a b : List ℕ) (m n : ℕ) → length a ≤ m → length b ≤ n → length (a ++ b) ≤ m + n
long a b m n x y = let both = length-append a b in omega (arith, both, x, y)

short_header : (width height : ℕ) (format : Format) (depth : Depth) → width ≤ 8192 → height ≤ 8192
    → length (header width height format (greatest depth)) ≤ 79
short_header width height format depth narrow low =
    let w = short_number width (omega (arith, narrow)) in
    let h = short_number height (omega (arith, low)) in
    let d = short_number (format_depth format) (small_depth format) in
    let m = short_number (greatest depth) (small_greatest depth) in
    let n = short_name format in
    let t0 : List ℕ = codes "P7\nWIDTH " in
    let l0 : length t0 ≤ 9 = omega arith in
    let t1 = t0 ++ decimal width in
    let l1 : length t1 ≤ 14 = long t0 (decimal width) 9 5 l0 w in
    let t2 = t1 ++ codes "\nHEIGHT " in
    let l2 : length t2 ≤ 22 = long t1 (codes "\nHEIGHT ") 14 8 l1 (omega arith) in
    let t3 = t2 ++ decimal height in
    let l3 : length t3 ≤ 27 = long t2 (decimal height) 22 5 l2 h in
    let t4 = t3 ++ codes "\nDEPTH " in
    let l4 : length t4 ≤ 34 = long t3 (codes "\nDEPTH ") 27 7 l3 (omega arith) in
    let t5 = t4 ++ decimal (format_depth format) in
    let l5 : length t5 ≤ 39 = long t4 (decimal (format_depth format)) 34 5 l4 d in
    let t6 = t5 ++ codes "\nMAXVAL " in
    let l6 : length t6 ≤ 47 = long t5 (codes "\nMAXVAL ") 39 8 l5 (omega arith) in
    let t7 = t6 ++ decimal (greatest depth) in
    let l7 : length t7 ≤ 52 = long t6 (decimal (greatest depth)) 47 5 l6 m in
    let t8 = t7 ++ codes "\nTUPLTYPE " in
    let l8 : length t8 ≤ 62 = long t7 (codes "\nTUPLTYPE ") 52 10 l7 (omega arith) in
    let t9 = t8 ++ format_name format in
    let l9 : length t9 ≤ 71 = long t8 (format_name format) 62 9 l8 n in
    long t9 (codes "\nENDHDR\n") 71 8 l9 (omega arith)

-- a picture of up to 8,192 by 8,192 pixels
pub short_text : (format : Format) (image : Image) → columns image.rect ≤ 8192 → rows image.rect ≤ 8192
    → length (pam_text format image) ≤ 1073741824
short_text format image narrow low =
    let front = short_header (columns image.rect) (rows image.rect) format image.depth narrow low in
    let behind = short_raster format image (rows image.rect) narrow in
    let both = length-append (header (columns image.rect) (rows image.rect) format (greatest image.depth)) (raster format image (rows image.rect)) in
    omega (arith, front, behind, both, low)
