-- The frames that are made of a number, row by row.
use Rattle.std.proofs.Common.{◌≡◌, ◌≤◌, ◌<◌, ◌+◌, ◌-◌, ◌*◌, ◌%◌, ◌^◌, ℕ, zero, suc, pos, ◌+ℤ◌, ◌-ℤ◌, true, List, [], ◌∷◌, ◌++◌, length, get_or, refl, sym, ap, subst, ◌∙◌, arith}
use Rattle.std.proofs.lemmas.List.{append_assoc, append-nil}
use Rattle.std.proofs.lemmas.Int.{ints}
use Rattle.std.specs.Prelude.{codes, decimal}
use Rattle.std.specs.Str.Parse.{AllDigits, digits_value}
use Rattle.std.proofs.lemmas.Bool.Decides.{nat_tests}
use Rattle.std.proofs.lemmas.Fmt.{decimal-digits_value}
use Rattle.std.proofs.lemmas.Str.Parse.{numerals_by_value, tells_digits}
use Rattle.fx_base.specs.Rect.{within}
use Rattle.fx_pam.proofs.FileImage.{gap_none}
use Rattle.fx_pixel.specs.declared.Depth.TheVariants.{Byte}
use Rattle.fx_pixel.specs.declared.Format.TheVariants.{RgbAlpha}
use Rattle.fx_pixel.specs.declared.Pixel.{Pixel}
use Rattle.fx_pixel.specs.declared.Pixel.TheVariants.{Rgba}
use Rattle.fx_image.specs.Image.{Image, pixel_at}
use Rattle.fx_pam.specs.Text as pam
use Rattle.fx_pam.specs.Reading.{IsPam}
use Rattle.fx_pam.specs.Laws.{CanBeRead, IsPixelFor}
use Rattle.fx_pam.proofs.ReadBack.{written_reads_back}
use Rattle.fx_pixel.specs.Pixel.{IsOfDepth}
use Rattle.fx_bench.specs.Generator.{state, draw}
use Rattle.fx_bench.specs.Frames.{frame_samples, samples, header, frame_text}
use Rattle.fx_bench.proofs.DrawLemmas.{samples_none, samples_more}
use Rattle.fx_runs.specs.Made.{made_pixel, made_image}

-- ---- the header

number : (ds : List ℕ) (n : ℕ) → digits_value 10 ds ≡ n → AllDigits 10 ds → 0 < length ds → (get_or ds 0 0 ≡ 48 → ⊥) → n < 2 ^ 64
    → decimal n ≡ ds
number ds n is digits some lead small =
    ap decimal (sym is)
    ∙ decimal-digits_value (numerals_by_value _ tells_digits) ds digits some (λ zero_first. absurd (lead zero_first)) (subst (λ m. m < 2 ^ 64) (sym is) small)

three_two_zero : decimal 320 ≡ codes "320"
three_two_zero = number (codes "320") 320 refl (omega arith, (omega arith, (omega arith, tt))) (omega arith) (λ e. omega (arith, e)) (omega arith)

two_four_zero : decimal 240 ≡ codes "240"
two_four_zero = number (codes "240") 240 refl (omega arith, (omega arith, (omega arith, tt))) (omega arith) (λ e. omega (arith, e)) (omega arith)

just_four : decimal 4 ≡ codes "4"
just_four = number (codes "4") 4 refl (omega arith, tt) (omega arith) (λ e. omega (arith, e)) (omega arith)

two_five_five : decimal 255 ≡ codes "255"
two_five_five = number (codes "255") 255 refl (omega arith, (omega arith, (omega arith, tt))) (omega arith) (λ e. omega (arith, e)) (omega arith)

pub head_is : header ≡ pam.header 320 240 RgbAlpha 255
head_is = rw (three_two_zero, two_four_zero, just_four, two_five_five) refl

-- ---- samples

abbrev byte : ℕ → ℕ → ℕ
byte s k = draw s k % 256

at : (s m n : ℕ) → m ≡ n → samples s m ≡ samples s n
at s m n same = ap (samples s) same

joined : (xs : List ℕ) (a b c d : ℕ) → (((xs ++ a ∷ []) ++ b ∷ []) ++ c ∷ []) ++ d ∷ [] ≡ xs ++ a ∷ b ∷ c ∷ d ∷ []
joined xs a b c d =
    append_assoc ((xs ++ a ∷ []) ++ b ∷ []) (c ∷ []) (d ∷ []) ∙ append_assoc (xs ++ a ∷ []) (b ∷ []) (c ∷ d ∷ [])
    ∙ append_assoc xs (a ∷ []) (b ∷ c ∷ d ∷ [])

pub four : (s n : ℕ) → samples s (n + 4) ≡ samples s n ++ byte s (n + 1) ∷ byte s (n + 2) ∷ byte s (n + 3) ∷ byte s (n + 4) ∷ []
four s n =
    let a = samples_more s n in
    let b = samples_more s (n + 1) in
    let c = samples_more s (n + 2) in
    let d = samples_more s (n + 3) in
    at s (n + 4) (n + 3 + 1) (omega arith) ∙ d
    ∙ ap (λ x. x ++ byte s (n + 3 + 1) ∷ []) (at s (n + 3) (n + 2 + 1) (omega arith) ∙ c)
    ∙ ap (λ x. (x ++ byte s (n + 2 + 1) ∷ []) ++ byte s (n + 3 + 1) ∷ []) (at s (n + 2) (n + 1 + 1) (omega arith) ∙ b)
    ∙ ap (λ x. ((x ++ byte s (n + 1 + 1) ∷ []) ++ byte s (n + 2 + 1) ∷ []) ++ byte s (n + 3 + 1) ∷ []) a
    ∙ joined (samples s n) (byte s (n + 1)) (byte s (n + 1 + 1)) (byte s (n + 2 + 1)) (byte s (n + 3 + 1))
    ∙ ap (λ k. samples s n ++ byte s (n + 1) ∷ byte s k ∷ byte s (n + 2 + 1) ∷ byte s (n + 3 + 1) ∷ []) (omega arith)
    ∙ ap (λ k. samples s n ++ byte s (n + 1) ∷ byte s (n + 2) ∷ byte s k ∷ byte s (n + 3 + 1) ∷ []) (omega arith)
    ∙ ap (λ k. samples s n ++ byte s (n + 1) ∷ byte s (n + 2) ∷ byte s (n + 3) ∷ byte s k ∷ []) (omega arith)

ap2 : {A B C : Type 0} (f : A → B → C) {a c : A} {b d : B} → a ≡ c → b ≡ d → f a b ≡ f c d
ap2 f {a} {c} {b} {d} first second = ap (λ x. f x b) first ∙ ap (f c) second

there : (x y : ℕ) → x < 320 → y < 240
    → within (record { x1 = pos 0; y1 = pos 0; x2 = pos 320; y2 = pos 240 }) (pos x) (pos y) ≡ true
there x y narrow low = grind (arith, nat_tests)

pub inside : (number f x y : ℕ) → x < 320 → y < 240 → pixel_at (made_image number f) (pos x) (pos y) ≡ made_pixel number f x y
inside number f x y narrow low =
    let is : within (made_image number f).rect (pos x) (pos y) ≡ true = there x y narrow low in
    rw is (ap2 (made_pixel number f) (gap_none x) (gap_none y))

-- ---- rows

module _ (number f : ℕ) where
  abbrev image : Image
  image = made_image number f

  abbrev first : ℕ
  first = state number (f * frame_samples)

  -- the samples up to column c of row n from the top
  row_so_far : (n c : ℕ) → n < 240 → c ≤ 320
      → samples first (n * 1280) ++ pam.row_bytes RgbAlpha image (pos 240 -ℤ pos (n + 1)) c ≡ samples first (n * 1280 + 4 * c)
  row_so_far n zero low narrow = append-nil (samples first (n * 1280)) ∙ at first (n * 1280) (n * 1280 + 4 * 0) (omega arith)
  row_so_far n (suc c) low narrow =
      let y : pos 240 -ℤ pos (n + 1) ≡ pos (239 - n) = high n low in
      let place : (239 - (239 - n)) * 1280 + 4 * c ≡ n * 1280 + 4 * c = omega (arith, low) in
      let pixel : pixel_at image (pos 0 +ℤ pos c) (pos 240 -ℤ pos (n + 1)) ≡ bytes_at (n * 1280 + 4 * c) =
      ap (λ z. pixel_at image (pos 0 +ℤ pos c) z) y ∙ ap (λ z. pixel_at image z (pos (239 - n))) (left c)
      ∙ inside number f c (239 - n) (omega (arith, narrow)) (omega (arith, low)) ∙ ap bytes_at place in
      let before = row_so_far n c low (omega (arith, narrow)) in
      ap (λ p. samples first (n * 1280) ++ (pam.row_bytes RgbAlpha image (pos 240 -ℤ pos (n + 1)) c
      ++ pam.sample_bytes Byte (pam.samples_of RgbAlpha p))) pixel
      ∙ sym (append_assoc (samples first (n * 1280)) (pam.row_bytes RgbAlpha image (pos 240 -ℤ pos (n + 1)) c) (four_at (n * 1280 + 4 * c)))
      ∙ ap (λ xs. xs ++ four_at (n * 1280 + 4 * c)) before
      ∙ sym (four first (n * 1280 + 4 * c))
      ∙ at first (n * 1280 + 4 * c + 4) (n * 1280 + 4 * suc c) (omega arith)
    where
      bytes_at : ℕ → Pixel
      bytes_at i = Rgba (byte first (i + 1)) (byte first (i + 2)) (byte first (i + 3)) (byte first (i + 4))

      four_at : ℕ → List ℕ
      four_at i = byte first (i + 1) ∷ byte first (i + 2) ∷ byte first (i + 3) ∷ byte first (i + 4) ∷ []

      high : (n : ℕ) → n < 240 → pos 240 -ℤ pos (n + 1) ≡ pos (239 - n)
      high n low = grind (arith, ints)

      left : (c : ℕ) → pos 0 +ℤ pos c ≡ pos c
      left c = grind (arith, ints)

  rows_so_far : (n : ℕ) → n ≤ 240 → pam.raster RgbAlpha image n ≡ samples first (n * 1280)
  rows_so_far zero few = sym (samples_none first) ∙ at first 0 (0 * 1280) (omega arith)
  rows_so_far (suc n) few =
      ap (λ xs. xs ++ pam.row_bytes RgbAlpha image (pos 240 -ℤ pos (n + 1)) 320) (rows_so_far n (omega (arith, few)))
      ∙ row_so_far n 320 (omega (arith, few)) (omega arith)
      ∙ at first (n * 1280 + 4 * 320) (suc n * 1280) (omega arith)

  -- the text of the image is that of the frame
  pub text_is : frame_text number f ≡ pam.pam_text RgbAlpha image
  text_is =
      ap (λ h. h ++ samples first frame_samples) head_is
      ∙ ap (λ xs. pam.header 320 240 RgbAlpha 255 ++ xs) (at first frame_samples (240 * 1280) (omega arith) ∙ sym (rows_so_far 240 (omega arith)))

  -- and can be read
  pub can_be_read : CanBeRead RgbAlpha 8192 image
  can_be_read = record {
    width = 320;
    height = 240;
    rect = refl;
    wide = (omega arith, omega arith, omega arith);
    high = (omega arith, omega arith, omega arith);
    components = refl;
    pixels = λ x y narrow low. subst (IsPixelFor RgbAlpha Byte) (sym (inside number f x y narrow low))
        (refl, small x y);
  }
    where
      below : (s k : ℕ) → byte s k ≤ 255
      below s k = omega arith

      small : (x y : ℕ) → IsOfDepth Byte (made_pixel number f x y)
      small x y = (below first _, below first _, below first _, below first _)

  pub reads : IsPam (frame_text number f) 8192 image
  reads = subst (λ (bytes : List ℕ). IsPam bytes 8192 image) (append-nil (pam.pam_text RgbAlpha image) ∙ sym text_is)
      (written_reads_back RgbAlpha 8192 image [] can_be_read)
