-- A PAM file as an image of RGBA, or the first of its faults.
use Rattle.std.specs.Prelude.{◌≡◌, ◌<◌, ℕ, zero, suc, ◌+◌, ◌-◌, ◌*◌, ◌/◌, ◌==◌, ◌||◌, nat_lt, nat_eq, pos, List, length, drop, codes, Bool, if◌then◌else◌, Option, Some, None}
use Rattle.std.specs.List.{starts_with}
use Rattle.fx_pixel.specs.declared.Components.TheVariants as components
use Rattle.fx_image.specs.Image.{Image, pixel_at}
use Rattle.fx_image.specs.Stored.{sample_in}
use Rattle.fx_pixel.specs.declared.Depth.{Depth}
use Rattle.fx_pixel.specs.declared.Depth.TheVariants as depth
use Rattle.fx_pixel.specs.declared.Pixel.{Pixel}
use Rattle.fx_pixel.specs.declared.Pixel.TheVariants.{Rgba}
use Rattle.fx_pixel.specs.Pixel.{greatest}
use Rattle.fx_pam.specs.declared.fault.PamField.{PamField}
use Rattle.fx_pam.specs.declared.fault.PamFault.{PamFault}
use Rattle.fx_pam.specs.declared.fault.PamFault.TheVariants.{NotPam, HeaderWrong, SizeOutOfRange, Truncated, SampleAboveMaxval}
use Rattle.fx_pam.specs.declared.fault.PamField.TheVariants.{Width, Height, Depth as Components, Maxval}
use Rattle.fx_pam.specs.declared.numbers.HeaderNumbers.{HeaderNumbers}
use Rattle.fx_pam.specs.Header.{HeaderReading, Reads, IsWrongAt, lines_of, header_of, no_numbers}

-- what a header gives: its four numbers, and the bytes behind it
pub record Header : Type 0 where
  pub width : ℕ
  pub height : ℕ
  pub depth : ℕ
  pub maxval : ℕ
  pub behind : List ℕ

abbrev pub header_with : HeaderNumbers → List ℕ → Header
header_with n behind =
    record { width = n.width; height = n.height; depth = n.depth; maxval = n.maxval; behind = behind }

-- a number that isn't from 1 up to the most
abbrev pub is_outside : ℕ → ℕ → Bool
is_outside n most = (n == 0) || nat_lt most n

-- the first field that is out of range: sides from 1 up to the greatest, 1 to 4 samples a pixel, and 1 to 65535
abbrev pub field_out_of_range : ℕ → Header → Option PamField
field_out_of_range side h =
    if is_outside h.width side then Some Width
    else if is_outside h.height side then Some Height
    else if is_outside h.depth 4 then Some Components
    else if is_outside h.maxval 65535 then Some Maxval
    else None

-- a sample has one byte where the greatest value is below 256, else two
abbrev pub sample_size : Header → ℕ
sample_size h = if nat_lt h.maxval 256 then 1 else 2

abbrev pub depth_of : Header → Depth
depth_of h = if nat_lt h.maxval 256 then depth.Byte else depth.Short

-- how many samples the raster has, and how many bytes
abbrev pub sample_count : Header → ℕ
sample_count h = h.width * h.height * h.depth

abbrev pub raster_length : Header → ℕ
raster_length h = sample_count h * sample_size h

-- sample i of the raster
abbrev pub sample_at : Header → ℕ → ℕ
sample_at h i = sample_in (depth_of h) h.behind i

-- a sample of the file as one of the image: to the nearest, halves up
abbrev pub scaled : Header → ℕ → ℕ
scaled h s = (2 * s * greatest (depth_of h) + h.maxval) / (2 * h.maxval)

-- the pixel in column c of row r from the top: grey, grey and a, r g b, or r g b and a; a is the greatest where the file has none
abbrev pub pixel_of : Header → ℕ → ℕ → Pixel
pixel_of h r c =
    let first = (r * h.width + c) * h.depth in
    let s = λ (k : ℕ). scaled h (sample_at h (first + k)) in
    let m = greatest (depth_of h) in
    if h.depth == 1 then Rgba (s 0) (s 0) (s 0) m
    else if h.depth == 2 then Rgba (s 0) (s 0) (s 0) (s 1)
    else if h.depth == 3 then Rgba (s 0) (s 1) (s 2) m
    else Rgba (s 0) (s 1) (s 2) (s 3)

-- the first sample of n from sample i on that is above the greatest value: its place
abbrev pub first_above : Header → ℕ → ℕ → Option ℕ
first_above h i zero = None
first_above h i (suc n) = if nat_lt h.maxval (sample_at h i) then Some i else first_above h (i + 1) n

abbrev pub sample_fault : Header → Option ℕ → Option PamFault
sample_fault h None = None
sample_fault h (Some i) = Some (SampleAboveMaxval i (sample_at h i))

abbrev pub raster_fault : Header → Option PamFault
raster_fault h =
    if nat_lt (length h.behind) (raster_length h)
    then Some (Truncated (raster_length h) (length h.behind))
    else sample_fault h (first_above h 0 (sample_count h))

abbrev pub field_fault : Header → Option PamField → Option PamFault
field_fault h (Some field) = Some (SizeOutOfRange field)
field_fault h None = raster_fault h

abbrev pub header_fault : ℕ → HeaderReading → Option PamFault
header_fault side (IsWrongAt line) = Some (HeaderWrong line)
header_fault side (Reads numbers behind) =
    let h = header_with numbers behind in
    field_fault h (field_out_of_range side h)

-- the header of a file, whose line `P7` has number 1
abbrev pub header_in : List ℕ → HeaderReading
header_in bytes = header_of 2 no_numbers (lines_of (drop 3 bytes))

abbrev pub is_pam : List ℕ → Bool
is_pam bytes = starts_with nat_eq bytes (codes "P7\n")

-- the first fault of bytes, where sides go up to `side`
abbrev pub pam_fault : List ℕ → ℕ → Option PamFault
pam_fault bytes side = if is_pam bytes then header_fault side (header_in bytes) else Some NotPam

-- The bytes have no fault, and this is their image: RGBA over the rectangle from (0, 0), the last row of the file at the bottom.
pub record IsPam (bytes : List ℕ) (side : ℕ) (image : Image) : Type 0 where
  pub numbers : HeaderNumbers
  pub behind : List ℕ
  pub reads : header_in bytes ≡ Reads numbers behind
  pub no_fault : pam_fault bytes side ≡ None
  pub rect : image.rect ≡ record { x1 = pos 0; y1 = pos 0; x2 = pos numbers.width; y2 = pos numbers.height }
  pub depth : image.depth ≡ depth_of (header_with numbers behind)
  pub components : image.components ≡ components.Rgba
  pub pixels :
      (r c : ℕ) → r < numbers.height → c < numbers.width
      → pixel_at image (pos c) (pos (numbers.height - 1 - r)) ≡ pixel_of (header_with numbers behind) r c
