-- Bytes without a fault are the file of an image.
use Rattle.std.proofs.Common.{◌≡◌, ℕ, ◌-◌, pos, Bool, true, false, List, None, refl, sym, ap, ◌∙◌, arith}
use Rattle.std.proofs.lemmas.Int.{ints}
use Rattle.std.specs.Int.{int_gap}
use Rattle.fx_base.specs.Rect.{within}
use Rattle.fx_pixel.specs.declared.Components.TheVariants as components
use Rattle.fx_image.specs.Image.{Image}
use Rattle.fx_image.proofs.ImageLaws.{gap_is}
use Rattle.fx_pam.specs.declared.numbers.HeaderNumbers.{HeaderNumbers}
use Rattle.fx_pam.specs.Header.{HeaderReading, Reads, IsWrongAt}
use Rattle.fx_pam.specs.Reading.{header_with, header_in, header_fault, is_pam, depth_of, pixel_of, pam_fault, IsPam}
use Rattle.fx_pam.specs.Raster.{pixel_from_bottom, IsImageOf}

pub gap_none : (n : ℕ) → int_gap (pos 0) (pos n) ≡ n
gap_none n = omega (arith, ints, gap_is (pos 0) (pos n) (omega (arith, ints)))

-- the image of a raster without a fault is the file's
pub is_pam-of : (bytes : List ℕ) (side : ℕ) (numbers : HeaderNumbers) (behind : List ℕ) (image : Image) → header_in bytes ≡ Reads numbers behind → pam_fault bytes side ≡ None → IsImageOf (header_with numbers behind) image → IsPam bytes side image
is_pam-of bytes side numbers behind image reads none is = record {
  numbers = numbers;
  behind = behind;
  reads = reads;
  no_fault = none;
  rect = is.rect;
  depth = is.depth;
  components = is.components;
  pixels = λ r c low left.
      let inside : within image.rect (pos c) (pos (numbers.height - 1 - r)) ≡ true = rw is.rect (grind (arith, ints)) in
      let row : numbers.height - 1 - int_gap (pos 0) (pos (numbers.height - 1 - r)) ≡ r = rw (gap_none (numbers.height - 1 - r)) (omega arith) in
      is.pixels (pos c) (pos (numbers.height - 1 - r)) inside ∙ ap (λ i. pixel_of (header_with numbers behind) i (int_gap (pos 0) (pos c))) row ∙ ap (pixel_of (header_with numbers behind) r) (gap_none c);
}

-- the image of a file
abbrev pub file_image : HeaderNumbers → List ℕ → Image
file_image numbers behind = record {
  rect = record { x1 = pos 0; y1 = pos 0; x2 = pos numbers.width; y2 = pos numbers.height };
  depth = depth_of (header_with numbers behind);
  components = components.Rgba;
  pixel = pixel_from_bottom (header_with numbers behind);
}

is_file : (bytes : List ℕ) (side : ℕ) (numbers : HeaderNumbers) (behind : List ℕ) → header_in bytes ≡ Reads numbers behind → pam_fault bytes side ≡ None → IsPam bytes side (file_image numbers behind)
is_file bytes side numbers behind reads none =
    is_pam-of bytes side numbers behind (file_image numbers behind) reads none (record { rect = refl; depth = refl; components = refl; pixels = λ x y inside. rw inside refl })

by_header : (bytes : List ℕ) (side : ℕ) (reading : HeaderReading) → header_in bytes ≡ reading → is_pam bytes ≡ true → pam_fault bytes side ≡ None → (image : Image) × IsPam bytes side image
by_header bytes side (Reads numbers behind) reads pam none = (file_image numbers behind, is_file bytes side numbers behind reads none)
by_header bytes side (IsWrongAt line) wrong pam none = absurd (let fault : header_fault side (IsWrongAt line) ≡ None = sym (ap (header_fault side) wrong) ∙ rw pam at none in cc)

by_magic : (bytes : List ℕ) (side : ℕ) (pam : Bool) → is_pam bytes ≡ pam → pam_fault bytes side ≡ None → (image : Image) × IsPam bytes side image
by_magic bytes side true pam none = by_header bytes side (header_in bytes) refl pam none
by_magic bytes side false pam none = absurd (let fault = rw pam at none in cc)

pub no_fault-image : (bytes : List ℕ) (side : ℕ) → pam_fault bytes side ≡ None → (image : Image) × IsPam bytes side image
no_fault-image bytes side none = by_magic bytes side (is_pam bytes) refl none
