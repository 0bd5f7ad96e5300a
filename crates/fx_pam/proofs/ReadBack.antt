-- What is written reads back.
use Rattle.std.proofs.Common.{◌≡◌, ◌≤◌, ◌<◌, ℕ, ◌+◌, ◌-◌, ◌*◌, pos, ◌+ℤ◌, ◌-ℤ◌, true, List, ◌++◌, length, get_or, refl, sym, ap, ◌∙◌, append_assoc, arith}
use Rattle.std.proofs.lemmas.Int.{ints}
use Rattle.std.proofs.lemmas.List.{length-append}
use Rattle.std.proofs.lemmas.Nat.{mul-add-lt}
use Rattle.fx_base.specs.Bounds.{Bounds}
use Rattle.fx_base.specs.Rect.{columns, rows, within}
use Rattle.fx_pixel.specs.declared.Depth.{Depth}
use Rattle.fx_pixel.specs.declared.Depth.TheVariants.{Byte, Short}
use Rattle.fx_pixel.specs.declared.Format.{Format}
use Rattle.fx_pixel.specs.Pixel.{greatest, size}
use Rattle.fx_image.specs.Image.{Image, pixel_at}
use Rattle.fx_pam.specs.declared.numbers.HeaderNumbers.{HeaderNumbers}
use Rattle.fx_pam.specs.Header.{Reads}
use Rattle.fx_pam.specs.Text.{format_depth, samples_of, sample_bytes, header, raster, pam_text}
use Rattle.fx_pam.specs.Reading.{Header, header_with, header_in, is_pam, depth_of, sample_count, sample_at, pixel_of, IsPam}
use Rattle.fx_pam.specs.Raster.{IsWhole}
use Rattle.fx_pam.specs.Laws.{CanBeRead, read_pixel, read_back}
use Rattle.fx_pam.proofs.Chunks.{up_to-at}
use Rattle.fx_pam.proofs.WrittenSamples.{length-bytes, sample-back}
use Rattle.fx_pam.proofs.WrittenHeader.{few_samples, header_in-header, is_pam-header}
use Rattle.fx_pam.proofs.WrittenRaster.{all_samples, raster-samples, HasPixels, length-all, up_to-all, sample-all}
use Rattle.fx_pam.proofs.PixelsBack.{pixel-by, back-rect, back-depth, back-components, back-pixel}
use Rattle.fx_pam.proofs.ReadingLaws.{whole-no_fault, depth-shown, size-shown}

greatest_for : (depth : Depth) → (1 ≤ greatest depth) × (greatest depth ≤ 65535)
greatest_for Byte = (omega arith, omega arith)
greatest_for Short = (omega arith, omega arith)

module _ (format : Format) (side : ℕ) (image : Image) (rest : List ℕ) (is : CanBeRead format side image) where
  abbrev numbers : HeaderNumbers
  numbers = record { width = is.width; height = is.height; depth = format_depth format; maxval = greatest image.depth }

  abbrev written : List ℕ
  written = raster format image is.height

  abbrev read_header : Header
  read_header = header_with numbers (written ++ rest)

  columns_are : columns image.rect ≡ is.width
  columns_are = ap columns is.rect ∙ omega arith

  rows_are : rows image.rect ≡ is.height
  rows_are = ap rows is.rect ∙ omega arith

  column_is : (c : ℕ) → (image.rect.x1 +ℤ pos c) ≡ pos c
  column_is c = ap (λ (r : Bounds). r.x1 +ℤ pos c) is.rect ∙ omega (arith, ints)

  row_is : (r : ℕ) → r < is.height → (image.rect.y2 -ℤ pos (r + 1)) ≡ pos (is.height - 1 - r)
  row_is r low = ap (λ (b : Bounds). b.y2 -ℤ pos (r + 1)) is.rect ∙ omega (arith, ints)

  pixel_is : (r c : ℕ) → r < is.height → pixel_at image (image.rect.x1 +ℤ pos c) (image.rect.y2 -ℤ pos (r + 1)) ≡ pixel_at image (pos c) (pos (is.height - 1 - r))
  pixel_is r c low = ap (λ x. pixel_at image x (image.rect.y2 -ℤ pos (r + 1))) (column_is c) ∙ ap (pixel_at image (pos c)) (row_is r low)

  has : HasPixels format image is.width is.height
  has r c low left = rw (pixel_is r c low) (is.pixels c (is.height - 1 - r) left (omega arith))

  abbrev samples : List ℕ
  samples = all_samples format image is.width is.height

  bytes_are : written ≡ sample_bytes image.depth samples
  bytes_are = raster-samples format image is.width is.height columns_are

  depth_is : depth_of read_header ≡ image.depth
  depth_is = depth-shown read_header image.depth refl

  count_is : length samples ≡ sample_count read_header
  count_is = length-all format image is.width is.height has ∙ omega arith

  sample_is : (i : ℕ) → i < sample_count read_header → sample_at read_header i ≡ get_or samples i 0
  sample_is i low = rw (depth_is, bytes_are) (sample-back image.depth samples rest i (rw count_is low))

  whole : IsWhole side read_header
  whole = record {
    ranged = record { width = (is.wide.0, is.wide.1); height = (is.high.0, is.high.1); depth = few_samples format; maxval = greatest_for image.depth };
    long = rw (size-shown read_header image.depth refl) (omega (arith, length-append written rest, ap length bytes_are, length-bytes image.depth samples, ap (λ n. n * size image.depth) count_is));
    low = λ i low. rw (sample_is i low) (up_to-at (greatest image.depth) samples i (up_to-all format image is.width is.height has));
  }

  text_is : pam_text format image ++ rest ≡ header is.width is.height format (greatest image.depth) ++ (written ++ rest)
  text_is =
      ap (λ n. (header n (rows image.rect) format (greatest image.depth) ++ raster format image (rows image.rect)) ++ rest) columns_are
      ∙ ap (λ n. (header is.width n format (greatest image.depth) ++ raster format image n) ++ rest) rows_are
      ∙ append_assoc (header is.width is.height format (greatest image.depth)) written rest

  reads : header_in (pam_text format image ++ rest) ≡ Reads numbers (written ++ rest)
  reads = ap header_in text_is ∙ header_in-header is.width is.height format (greatest image.depth) (written ++ rest) is.wide.2 is.high.2 (omega (arith, (greatest_for image.depth).1))

  begins : is_pam (pam_text format image ++ rest) ≡ true
  begins = ap is_pam text_is ∙ is_pam-header is.width is.height format (greatest image.depth) (written ++ rest)

  inside : (r c : ℕ) → r < is.height → c < is.width → within image.rect (pos c) (pos (is.height - 1 - r)) ≡ true
  inside r c low left = ap (λ (b : Bounds). within b (pos c) (pos (is.height - 1 - r))) is.rect ∙ grind (arith, ints)

  room : (r c k : ℕ) → r < is.height → c < is.width → k < format_depth format → (r * is.width + c) * format_depth format + k < sample_count read_header
  room r c k low left within_pixel =
      let place = mul-add-lt r is.width c is.height low left in
      omega (arith, mul-add-lt (r * is.width + c) (format_depth format) k (is.width * is.height) place within_pixel)

  pixel_back : (r c : ℕ) → r < is.height → c < is.width → pixel_of read_header r c ≡ read_pixel format (greatest image.depth) (pixel_at image (pos c) (pos (is.height - 1 - r)))
  pixel_back r c low left =
      pixel-by read_header image.depth refl r c format (pixel_at image (pos c) (pos (is.height - 1 - r))) refl (is.pixels c (is.height - 1 - r) left (omega arith))
      (λ k within_pixel.
      sample_is _ (room r c k low left within_pixel)
      ∙ sample-all format image is.width is.height has r c k low left within_pixel
      ∙ ap (λ p. get_or (samples_of format p) k 0) (pixel_is r c low))

  pub written_reads_back : IsPam (pam_text format image ++ rest) side (read_back format image)
  written_reads_back = record {
    numbers = numbers;
    behind = written ++ rest;
    reads = reads;
    no_fault = whole-no_fault (pam_text format image ++ rest) side numbers (written ++ rest) begins reads whole;
    rect = back-rect format image ∙ is.rect;
    depth = back-depth format image ∙ sym depth_is;
    components = back-components format image is.components;
    pixels = λ r c low left. back-pixel format image (pos c) (pos (is.height - 1 - r)) (inside r c low left) ∙ sym (pixel_back r c low left);
  }
