-- When a file has no fault, and what its samples become.
use Rattle.std.proofs.Common.{◌≡◌, ◌≤◌, ◌<◌, ℕ, zero, suc, ◌+◌, ◌*◌, ◌/◌, Bool, true, false, nat_lt, List, length, None, refl, ap, ◌∙◌, arith}
use Rattle.std.proofs.lemmas.Bool.{le-ltb}
use Rattle.std.proofs.lemmas.Bool.Decides.{nat_tests}
use Rattle.fx_pixel.specs.declared.Depth.{Depth}
use Rattle.fx_pixel.specs.declared.Depth.TheVariants.{Byte, Short}
use Rattle.fx_pixel.specs.Pixel.{greatest, size}
use Rattle.fx_pam.specs.declared.numbers.HeaderNumbers.{HeaderNumbers}
use Rattle.fx_pam.specs.Header.{Reads}
use Rattle.fx_pam.specs.Raster.{IsWhole}
use Rattle.fx_pam.specs.Reading.{Header, header_with, header_in, is_pam, is_outside, field_out_of_range, sample_size, depth_of, sample_count, raster_length, sample_at, scaled, first_above, sample_fault, raster_fault, field_fault, header_fault, pam_fault}

-- no sample is above the greatest value
pub none-above : (h : Header) (i n : ℕ) → ((j : ℕ) → j < i + n → sample_at h j ≤ h.maxval) → first_above h i n ≡ None
none-above h i zero fits = refl
none-above h i (suc n) fits = rw (le-ltb h.maxval (sample_at h i) (fits i (omega arith))) (none-above h (i + 1) n (λ j low. fits j (omega arith)))

inside : (n most : ℕ) → 1 ≤ n → n ≤ most → is_outside n most ≡ false
inside n most low high = grind (arith, nat_tests)

whole-fields : (side : ℕ) (h : Header) → IsWhole side h → field_out_of_range side h ≡ None
whole-fields side h is = rw (inside h.width side is.ranged.width.0 is.ranged.width.1, inside h.height side is.ranged.height.0 is.ranged.height.1, inside h.depth 4 is.ranged.depth.0 is.ranged.depth.1, inside h.maxval 65535 is.ranged.maxval.0 is.ranged.maxval.1) refl

whole-raster : (side : ℕ) (h : Header) → IsWhole side h → raster_fault h ≡ None
whole-raster side h is = rw (le-ltb (length h.behind) (raster_length h) is.long) (ap (sample_fault h) (none-above h 0 (sample_count h) (λ i low. is.low i (omega arith))))

-- such a file has no fault
pub whole-no_fault : (bytes : List ℕ) (side : ℕ) (numbers : HeaderNumbers) (behind : List ℕ) → is_pam bytes ≡ true → header_in bytes ≡ Reads numbers behind → IsWhole side (header_with numbers behind) → pam_fault bytes side ≡ None
whole-no_fault bytes side numbers behind pam reads is =
    rw pam (ap (header_fault side) reads ∙ ap (field_fault (header_with numbers behind)) (whole-fields side (header_with numbers behind) is) ∙ whole-raster side (header_with numbers behind) is)

-- the greatest value of a depth shows the depth, and how many bytes a sample has
pub depth-shown : (h : Header) (depth : Depth) → h.maxval ≡ greatest depth → depth_of h ≡ depth
depth-shown h Byte is = rw is refl
depth-shown h Short is = rw is refl

pub size-shown : (h : Header) (depth : Depth) → h.maxval ≡ greatest depth → sample_size h ≡ size depth
size-shown h Byte is = rw is refl
size-shown h Short is = rw is refl

-- a sample stays as it is where the file's greatest value is the depth's
scaled-by : (depth : Depth) (s : ℕ) → (2 * s * greatest depth + greatest depth) / (2 * greatest depth) ≡ s
scaled-by Byte s = omega arith
scaled-by Short s = omega arith

pub scaled-same : (h : Header) (depth : Depth) (s : ℕ) → h.maxval ≡ greatest depth → scaled h s ≡ s
scaled-same h depth s is = rw (depth-shown h depth is, is) (scaled-by depth s)

-- the two ways to say how many bytes a sample has
pub sample_size-is : (h : Header) → sample_size h ≡ size (depth_of h)
sample_size-is h = by (nat_lt h.maxval 256) refl
  where
    by : (b : Bool) → nat_lt h.maxval 256 ≡ b → sample_size h ≡ size (depth_of h)
    by true is = rw is refl
    by false is = rw is refl
