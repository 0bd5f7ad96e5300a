-- The text of a row of an image, by the bytes of the row.
use Rattle.std.proofs.Common.{◌≡◌, ◌≤◌, ◌<◌, ℕ, zero, suc, ◌+◌, ◌*◌, ◌/◌, ◌%◌, ℤ, pos, negsuc, ◌+ℤ◌, ◌≤ℤ◌, ◌<ℤ◌, List, [], ◌∷◌, ◌++◌, length, take, drop, ◌⊎◌, inl, inr, slice_index, refl, sym, ap, ◌∙◌, arith}
use Rattle.std.specs.Int.{int_gap}
use Rattle.std.proofs.Math.Nat.{suc-mul, add-mul, mul_assoc, mul-le-mul_right}
use Rattle.std.proofs.Math.Seq.{take-add}
use Rattle.std.proofs.lemmas.Int.{ints}
use Rattle.std.proofs.lemmas.List.{drop_more, drop-drop, take_all}
use Rattle.fx_base.specs.Bounds.{Bounds}
use Rattle.fx_base.specs.Rect.{columns, Holds}
use Rattle.fx_pixel.specs.declared.Depth.{Depth}
use Rattle.fx_pixel.specs.declared.Depth.TheVariants.{Byte, Short}
use Rattle.fx_pixel.specs.declared.Format.{Format}
use Rattle.fx_pixel.specs.declared.Format.TheVariants.{RgbAlpha, Rgb, Grayscale}
use Rattle.fx_pixel.specs.Pixel.{size, count}
use Rattle.fx_image.specs.Stored.{Stored, image_of, pixel_size, sample_in, pixel_in, shown}
use Rattle.fx_pam.specs.Fronts.{fronts}
use Rattle.fx_pam.specs.Text.{format_depth, samples_of, sample_bytes, row_bytes}
use Rattle.fx_pam.specs.Laws.{components_for}

-- each byte is one
abbrev pub AreBytes : List ℕ → Type 0
AreBytes row = (i : ℕ) → i < length row → slice_index row i < 256

-- k samples of a row from sample i on
abbrev samples_from : Depth → List ℕ → ℕ → ℕ → List ℕ
samples_from depth row i zero = []
samples_from depth row i (suc k) = sample_in depth row i ∷ samples_from depth row (i + 1) k

high_byte : (h l : ℕ) → l < 256 → (256 * h + l) / 256 ≡ h
high_byte h l low = omega arith

low_byte : (h l : ℕ) → l < 256 → (256 * h + l) % 256 ≡ l
low_byte h l low = omega arith

next_byte : (row : List ℕ) (i k : ℕ) → i < length row → take (suc k) (drop i row) ≡ slice_index row i ∷ take k (drop (i + 1) row)
next_byte row i k low = ap (take (suc k)) (drop_more row i 0 low)

-- a sample that is written is what stands in the row
sample-text : (depth : Depth) (row : List ℕ) (i : ℕ) (samples : List ℕ) → AreBytes row → i * size depth + size depth ≤ length row
    → sample_bytes depth (sample_in depth row i ∷ samples) ≡ take (size depth) (drop (i * size depth) row) ++ sample_bytes depth samples
sample-text Byte row i samples bytes room =
    let place : i * 1 ≡ i = omega arith in
    rw place (ap (λ bs. bs ++ sample_bytes Byte samples) (sym (next_byte row i 0 (omega arith))))
sample-text Short row i samples bytes room =
    let place : i * 2 ≡ 2 * i = omega arith in
    let low = bytes (2 * i + 1) (omega arith) in
    let two : take 2 (drop (2 * i) row) ≡ slice_index row (2 * i) ∷ slice_index row (2 * i + 1) ∷ [] =
    next_byte row (2 * i) 1 (omega arith) ∙ ap (λ bs. slice_index row (2 * i) ∷ bs) (next_byte row (2 * i + 1) 0 (omega arith)) in
    rw (place, two, high_byte (slice_index row (2 * i)) (slice_index row (2 * i + 1)) low, low_byte (slice_index row (2 * i)) (slice_index row (2 * i + 1)) low) refl

samples-text : (depth : Depth) (row : List ℕ) (i k : ℕ) → AreBytes row → (i + k) * size depth ≤ length row → sample_bytes depth (samples_from depth row i k) ≡ take (k * size depth) (drop (i * size depth) row)
samples-text Byte row i zero bytes room = refl
samples-text Short row i zero bytes room = refl
samples-text depth row i (suc k) bytes room =
    let bytes_long = size depth in
    let past : i + 1 + k ≡ i + suc k = omega arith in
    let next : (i + 1) * bytes_long ≡ i * bytes_long + bytes_long = omega (arith, add-mul i 1 bytes_long) in
    let all : suc k * bytes_long ≡ bytes_long + k * bytes_long = omega (arith, suc-mul k bytes_long) in
    let room_next : (i + 1 + k) * bytes_long ≤ length row = rw past room in
    let behind = drop (i * bytes_long) row in
    sample-text depth row i (samples_from depth row (i + 1) k) bytes (omega (arith, room_next, add-mul (i + 1) k bytes_long, next))
    ∙ ap (λ bs. take bytes_long behind ++ bs) (samples-text depth row (i + 1) k bytes room_next)
    ∙ ap (λ j. take bytes_long behind ++ take (k * bytes_long) (drop j row)) next
    ∙ ap (λ bs. take bytes_long behind ++ take (k * bytes_long) bs) (sym (drop-drop bytes_long (i * bytes_long) row))
    ∙ sym (take-add bytes_long (k * bytes_long) behind)
    ∙ ap (λ n. take n behind) (sym all)

cons_of : {x z : ℕ} {xs zs : List ℕ} → x ≡ z → xs ≡ zs → x ∷ xs ≡ z ∷ zs
cons_of p q = cc

sample_at : (depth : Depth) (row : List ℕ) (i j : ℕ) → i ≡ j → sample_in depth row i ≡ sample_in depth row j
sample_at depth row i j same = ap (sample_in depth row) same

-- the samples that a format writes of pixel n are the first of those that it has
pixel-samples : (format : Format) (depth : Depth) (row : List ℕ) (n : ℕ)
    → samples_of format (pixel_in depth (components_for format) row n) ≡ samples_from depth row (n * count (components_for format)) (format_depth format)
pixel-samples RgbAlpha depth row n =
    cons_of (sample_at depth row _ _ (omega arith)) (cons_of (sample_at depth row _ _ (omega arith)) (cons_of (sample_at depth row _ _ (omega arith)) (cons_of (sample_at depth row _ _ (omega arith)) refl)))
pixel-samples Rgb depth row n = cons_of (sample_at depth row _ _ (omega arith)) (cons_of (sample_at depth row _ _ (omega arith)) (cons_of (sample_at depth row _ _ (omega arith)) refl))
pixel-samples Grayscale depth row n = cons_of (sample_at depth row _ _ (omega arith)) refl

pixel-room : (format : Format) (depth : Depth) (n room : ℕ) → n * pixel_size depth (components_for format) + pixel_size depth (components_for format) ≤ room
    → (n * count (components_for format) + format_depth format) * size depth ≤ room
pixel-room RgbAlpha Byte n room fits = omega arith
pixel-room RgbAlpha Short n room fits = omega arith
pixel-room Rgb Byte n room fits = omega arith
pixel-room Rgb Short n room fits = omega arith
pixel-room Grayscale Byte n room fits = omega arith
pixel-room Grayscale Short n room fits = omega arith

pixel-text : (format : Format) (depth : Depth) (row : List ℕ) (n : ℕ) → AreBytes row → n * pixel_size depth (components_for format) + pixel_size depth (components_for format) ≤ length row
    → sample_bytes depth (samples_of format (pixel_in depth (components_for format) row n)) ≡ take (format_depth format * size depth) (drop (n * pixel_size depth (components_for format)) row)
pixel-text format depth row n bytes room =
    let samples = count (components_for format) in
    ap (sample_bytes depth) (pixel-samples format depth row n)
    ∙ samples-text depth row (n * samples) (format_depth format) bytes (pixel-room format depth n (length row) room)
    ∙ ap (λ i. take (format_depth format * size depth) (drop i row)) (mul_assoc n samples (size depth))

-- these are the bytes of the image's row y
pub record IsRow (s : Stored) (y : ℤ) (row : List ℕ) : Type 0 where
  pub long : length row ≡ columns s.rect * pixel_size s.depth s.components
  pub pixels : (n : ℕ) → n < columns s.rect → pixel_in s.depth s.components row n ≡ shown s (s.rect.x1 +ℤ pos n) y
  pub bytes : AreBytes row

pub row_bytes-fronts : (format : Format) (s : Stored) (y : ℤ) (row : List ℕ) (n : ℕ) → s.components ≡ components_for format → IsRow s y row → n ≤ columns s.rect
    → row_bytes format (image_of s) y n ≡ fronts (pixel_size s.depth (components_for format)) (format_depth format * size s.depth) row n
row_bytes-fronts format s y row zero is there low = refl
row_bytes-fronts format s y row (suc n) is there low =
    let pixel_long = pixel_size s.depth (components_for format) in
    let within : suc n * pixel_long ≤ columns s.rect * pixel_long = mul-le-mul_right pixel_long low in
    let long : length row ≡ columns s.rect * pixel_long = there.long ∙ ap (λ c. columns s.rect * pixel_size s.depth c) is in
    let pixel : shown s (s.rect.x1 +ℤ pos n) y ≡ pixel_in s.depth (components_for format) row n = sym (there.pixels n (omega arith)) ∙ ap (λ c. pixel_in s.depth c row n) is in
    ap (λ bs. bs ++ sample_bytes s.depth (samples_of format (shown s (s.rect.x1 +ℤ pos n) y))) (row_bytes-fronts format s y row n is there (omega arith))
    ∙ ap (λ p. fronts pixel_long (format_depth format * size s.depth) row n ++ sample_bytes s.depth (samples_of format p)) pixel
    ∙ ap (λ bs. fronts pixel_long (format_depth format * size s.depth) row n ++ bs) (pixel-text format s.depth row n there.bytes (omega (arith, within, suc-mul n pixel_long, long)))

-- the fronts are whole
fronts-whole : (size : ℕ) (row : List ℕ) (n : ℕ) → fronts size size row n ≡ take (n * size) row
fronts-whole size row zero = let none : 0 * size ≡ 0 = omega arith in rw none refl
fronts-whole size row (suc n) =
    let more : suc n * size ≡ n * size + size = suc-mul n size in
    ap (λ bs. bs ++ take size (drop (n * size) row)) (fronts-whole size row n) ∙ sym (take-add (n * size) size row) ∙ ap (λ k. take k row) (sym more)

-- a format that writes each sample writes the row as it stands
pub row_bytes-whole : (format : Format) (s : Stored) (y : ℤ) (row : List ℕ) → s.components ≡ components_for format → format_depth format ≡ count (components_for format) → IsRow s y row → row_bytes format (image_of s) y (columns s.rect) ≡ row
row_bytes-whole format s y row is each there =
    let pixel_long = pixel_size s.depth (components_for format) in
    let long : length row ≡ columns s.rect * pixel_long = there.long ∙ ap (λ c. columns s.rect * pixel_size s.depth c) is in
    row_bytes-fronts format s y row (columns s.rect) is there (omega arith)
    ∙ ap (λ k. fronts pixel_long (k * size s.depth) row (columns s.rect)) each
    ∙ fronts-whole pixel_long row (columns s.rect)
    ∙ take_all (columns s.rect * pixel_long) row (omega (arith, long))

-- RgbAlpha and Grayscale write each sample
pub writes_each : (format : Format) → (format ≡ RgbAlpha) ⊎ (format ≡ Grayscale) → format_depth format ≡ count (components_for format)
writes_each format (inl is) = rw is refl
writes_each format (inr is) = rw is refl

pixel_count : (depth : Depth) (n long : ℕ) → long ≡ n * (4 * size depth) → long / (4 * size depth) ≡ n
pixel_count Byte n long is = omega arith
pixel_count Short n long is = omega arith

-- Rgb writes each pixel without its a
pub row_bytes-colours : (s : Stored) (depth : Depth) (y : ℤ) (row : List ℕ) → depth ≡ s.depth → s.components ≡ components_for Rgb → IsRow s y row
    → row_bytes Rgb (image_of s) y (columns s.rect) ≡ fronts (4 * size depth) (3 * size depth) row (length row / (4 * size depth))
row_bytes-colours s depth y row same is there =
    let long : length row ≡ columns s.rect * (4 * size s.depth) = there.long ∙ ap (λ c. columns s.rect * pixel_size s.depth c) is in
    row_bytes-fronts Rgb s y row (columns s.rect) is there (omega arith)
    ∙ ap (fronts (4 * size s.depth) (3 * size s.depth) row) (sym (pixel_count s.depth (columns s.rect) (length row) long))
    ∙ ap (λ d. fronts (4 * size d) (3 * size d) row (length row / (4 * size d))) (sym same)

-- how far one number lies behind another
pub gap_is : (a b : ℤ) → a ≤ℤ b → a +ℤ pos (int_gap a b) ≡ b
gap_is (pos a) (pos b) h = omega (arith, ints)
gap_is (pos a) (negsuc b) h = omega (arith, ints)
gap_is (negsuc a) (pos b) h = omega (arith, ints)
gap_is (negsuc a) (negsuc b) h = omega (arith, ints)

gap_more : (a : ℤ) (n : ℕ) → int_gap a (a +ℤ pos n) ≡ n
gap_more a n = omega (arith, ints, gap_is a (a +ℤ pos n) (omega (arith, ints)))

gap_inside : (a b : ℤ) (n : ℕ) → n < int_gap a b → (a +ℤ pos n) <ℤ b
gap_inside (pos a) (pos b) n low = omega (arith, ints)
gap_inside (pos a) (negsuc b) n low = absurd (omega arith)
gap_inside (negsuc a) (pos b) n low = omega (arith, ints)
gap_inside (negsuc a) (negsuc b) n low = omega (arith, ints)

place_to : (r : Bounds) (x y : ℤ) → r.x1 ≤ℤ x → x <ℤ r.x2 → r.y1 ≤ℤ y → y <ℤ r.y2 → Holds r x y
place_to r x y left right bottom top = grind (arith, ints)

-- what a view of the whole image gives
pub row_of_view : (t s : Stored) (r : Bounds) (z y : ℤ) (row : List ℕ) → t ≡ s → r ≡ s.rect → z ≡ y → s.rect.y1 ≤ℤ y → y <ℤ s.rect.y2 → length row ≡ columns r * pixel_size t.depth t.components
    → ((x : ℤ) → Holds r x z → pixel_in t.depth t.components row (int_gap r.x1 x) ≡ shown t x z) → AreBytes row → IsRow s y row
row_of_view t s r z y row same bounds height low high long pixels bytes =
    let whole = rw (same, bounds) at long in
    let each = rw (same, bounds, height) at pixels in
    record {
      long = whole;
      pixels =
          λ n within.
          ap (pixel_in s.depth s.components row) (sym (gap_more s.rect.x1 n))
          ∙ each (s.rect.x1 +ℤ pos n) (place_to s.rect (s.rect.x1 +ℤ pos n) y (omega (arith, ints)) (gap_inside s.rect.x1 s.rect.x2 n within) low high);
      bytes = bytes;
    }
