-- The text of an image in the format PAM (Netpbm, the manual page "pam"): a header of lines, and then the rows from the top, each pixel from the left.
use Rattle.std.specs.Prelude.{ℕ, zero, suc, ◌+◌, ◌/◌, ◌%◌, ℤ, pos, ◌+ℤ◌, ◌-ℤ◌, List, [], ◌∷◌, ◌++◌, codes, decimal}
use Rattle.fx_base.specs.Rect.{columns, rows}
use Rattle.fx_pixel.specs.declared.Depth.{Depth}
use Rattle.fx_pixel.specs.declared.Depth.TheVariants.{Byte, Short}
use Rattle.fx_pixel.specs.declared.Format.{Format}
use Rattle.fx_pixel.specs.declared.Format.TheVariants.{RgbAlpha, Rgb, Grayscale}
use Rattle.fx_pixel.specs.declared.Pixel.{Pixel}
use Rattle.fx_pixel.specs.declared.Pixel.TheVariants.{Rgba, Alpha}
use Rattle.fx_pixel.specs.Pixel.{greatest}
use Rattle.fx_image.specs.Image.{Image, pixel_at}

-- how many samples a pixel has in a format
abbrev pub format_depth : Format → ℕ
format_depth RgbAlpha = 4
format_depth Rgb = 3
format_depth Grayscale = 1

-- the tuple type of a format
abbrev pub format_name : Format → List ℕ
format_name RgbAlpha = codes "RGB_ALPHA"
format_name Rgb = codes "RGB"
format_name Grayscale = codes "GRAYSCALE"

-- the samples of a pixel in a format
abbrev pub samples_of : Format → Pixel → List ℕ
samples_of RgbAlpha (Rgba r g b a) = r ∷ g ∷ b ∷ a ∷ []
samples_of Rgb (Rgba r g b a) = r ∷ g ∷ b ∷ []
samples_of Grayscale (Rgba r g b a) = a ∷ []
samples_of format (Alpha a) = a ∷ []

-- samples as bytes, a short one with the more significant first
abbrev pub sample_bytes : Depth → List ℕ → List ℕ
sample_bytes depth [] = []
sample_bytes Byte (s ∷ samples) = s ∷ sample_bytes Byte samples
sample_bytes Short (s ∷ samples) = s / 256 ∷ s % 256 ∷ sample_bytes Short samples

-- each line ends with one line feed, and numbers are plain decimal
abbrev pub header : ℕ → ℕ → Format → ℕ → List ℕ
header width height format maxval =
    codes "P7\nWIDTH " ++ decimal width ++ codes "\nHEIGHT " ++ decimal height
    ++ codes "\nDEPTH " ++ decimal (format_depth format) ++ codes "\nMAXVAL " ++ decimal maxval
    ++ codes "\nTUPLTYPE " ++ format_name format ++ codes "\nENDHDR\n"

-- the first n pixels from the left of the row at y
abbrev pub row_bytes : Format → Image → ℤ → ℕ → List ℕ
row_bytes format image y zero = []
row_bytes format image y (suc n) =
    row_bytes format image y n
    ++ sample_bytes image.depth (samples_of format (pixel_at image (image.rect.x1 +ℤ pos n) y))

-- the first n rows from the top
abbrev pub raster : Format → Image → ℕ → List ℕ
raster format image zero = []
raster format image (suc n) =
    raster format image n ++ row_bytes format image (image.rect.y2 -ℤ pos (n + 1)) (columns image.rect)

abbrev pub pam_text : Format → Image → List ℕ
pam_text format image =
    header (columns image.rect) (rows image.rect) format (greatest image.depth)
    ++ raster format image (rows image.rect)
