-- The image of a file: it is determined by the bytes, and it is that of a source's frame.
use Rattle.std.proofs.Common.{◌≡◌, ◌≤◌, ◌<◌, inr, ℕ, zero, suc, ◌+◌, ◌-◌, ◌*◌, ◌==◌, ℤ, pos, negsuc, Bool, true, false, nat_lt, List, length, Option, Some, None, if◌then◌else◌, refl, sym, ap, subst, ◌∙◌, arith}
use Rattle.std.proofs.Math.Nat.{mul-le-mul_right, div-lt_iff_lt-mul}
use Rattle.std.proofs.lemmas.Bool.Decides.{nat_tests}
use Rattle.std.proofs.lemmas.Int.{ints}
use Rattle.std.proofs.lemmas.Nat.{mul-add-lt}
use Rattle.fx_base.specs.Bounds.{Bounds}
use Rattle.fx_base.specs.Rect.{within}
use Rattle.fx_base.specs.declared.limits.TheConstants.{MOST_SIDE}
use Rattle.fx_image.specs.Image.{Image, SameImage, pixel_at}
use Rattle.fx_image.proofs.ImageLaws.{place_from}
use Rattle.fx_pam.proofs.RasterLemmas.{none-low}
use Rattle.fx_pam.specs.Header.{Reads}
use Rattle.fx_pam.specs.Reading.{Header, IsPam, depth_of, field_fault, field_out_of_range, first_above, header_fault, header_in, header_with, is_outside, is_pam, pixel_of, raster_fault, raster_length, sample_at, sample_count, sample_fault, scaled}
use Rattle.fx_pam.specs.declared.fault.PamFault.TheVariants.{NotPam}
use Rattle.fx_pam.specs.declared.fault.PamField.{PamField}
use Rattle.fx_pam.specs.declared.numbers.HeaderNumbers.{HeaderNumbers}
use Rattle.fx_pixel.specs.Pixel.{IsOfDepth, components_of, greatest, zero as zero_pixel}
use Rattle.fx_pixel.specs.PixelLaws.{zero_form}
use Rattle.fx_pixel.specs.declared.Components.TheVariants as components
use Rattle.fx_pixel.specs.declared.Depth.{Depth}
use Rattle.fx_pixel.specs.declared.Pixel.{Pixel}
use Rattle.fx_pixel.specs.declared.Pixel.TheVariants.{Rgba}
use Rattle.fx_proxy.specs.Reduced.{IsScale, reduced}
use Rattle.fx_scene.specs.Nodes.{IsFrameImage}
use Rattle.fx_modes.proofs.ScaledLemmas.{small_image}

-- ---- one file, one image

same_reading : (m n : HeaderNumbers) (s t : List ℕ) → Reads m s ≡ Reads n t → header_with m s ≡ header_with n t
same_reading m n s t same = cc

same_numbers : (m n : HeaderNumbers) (s t : List ℕ) → Reads m s ≡ Reads n t → m ≡ n
same_numbers m n s t same = cc

-- ---- samples that are low

first_of : {A : Type 0} (b : Bool) (v : A) (rest : Option A) → (if b then Some v else rest) ≡ None → (b ≡ false) × (rest ≡ None)
first_of true v rest e = absurd cc
first_of false v rest e = (refl, e)

second_of : {A : Type 0} (b : Bool) (first : Option A) (v : A) → (if b then first else Some v) ≡ None → first ≡ None
second_of true first v e = e
second_of false first v e = absurd cc

in_range : (n most : ℕ) → is_outside n most ≡ false → (1 ≤ n) × (n ≤ most)
in_range n most e = (grind (arith, nat_tests), grind (arith, nat_tests))

no_field : (h : Header) (f : Option PamField) → field_fault h f ≡ None → (f ≡ None) × (raster_fault h ≡ None)
no_field h None e = (refl, e)
no_field h (Some f) e = absurd cc

no_sample : (h : Header) (o : Option ℕ) → sample_fault h o ≡ None → o ≡ None
no_sample h None e = refl
no_sample h (Some i) e = absurd cc

pub record IsRanged (side : ℕ) (h : Header) : Type 0 where
  pub width : (1 ≤ h.width) × (h.width ≤ side)
  pub height : (1 ≤ h.height) × (h.height ≤ side)
  pub depth : (1 ≤ h.depth) × (h.depth ≤ 4)
  pub maxval : (1 ≤ h.maxval) × (h.maxval ≤ 65535)
  pub low : (i : ℕ) → i < sample_count h → sample_at h i ≤ h.maxval

ranged : (side : ℕ) (h : Header) → field_fault h (field_out_of_range side h) ≡ None → IsRanged side h
ranged side h e =
    let both = no_field h (field_out_of_range side h) e in
    let a = first_of (is_outside h.width side) _ _ both.0 in
    let b = first_of (is_outside h.height side) _ _ a.1 in
    let c = first_of (is_outside h.depth 4) _ _ b.1 in
    let d = first_of (is_outside h.maxval 65535) _ _ c.1 in
    let raster = first_of (nat_lt (length h.behind) (raster_length h)) _ _ both.1 in
    let none = no_sample h (first_above h 0 (sample_count h)) raster.1 in
    record {
      width = in_range h.width side a.0;
      height = in_range h.height side b.0;
      depth = in_range h.depth 4 c.0;
      maxval = in_range h.maxval 65535 d.0;
      low = λ i here. none-low h 0 (sample_count h) none i (omega arith) (omega (arith, here));
    }

scaled_low : (h : Header) (s : ℕ) → 1 ≤ h.maxval → s ≤ h.maxval → scaled h s ≤ greatest (depth_of h)
scaled_low h s some low =
    let m = greatest (depth_of h) in
    let most : s * m ≤ h.maxval * m = mul-le-mul_right m low in
    let below = (div-lt_iff_lt-mul {k = 2 * h.maxval} {x = 2 * s * m + h.maxval} {y = m + 1} (omega (arith, some))).1 (omega (arith, most, some)) in
    omega (arith, below)

pixel_low : (m d : ℕ) (s : ℕ → ℕ) (depth : Depth) → m ≡ greatest depth → 1 ≤ d → d ≤ 4 → ((k : ℕ) → k < d → s k ≤ m)
    → IsOfDepth depth (if d == 1 then Rgba (s 0) (s 0) (s 0) m else if d == 2 then Rgba (s 0) (s 0) (s 0) (s 1) else if d == 3 then Rgba (s 0) (s 1) (s 2) m else Rgba (s 0) (s 1) (s 2) (s 3))
pixel_low m zero s depth is some few low = absurd (omega (arith, some))
pixel_low m (suc zero) s depth is some few low = let a = low 0 (omega arith) in rw (← is) (a, a, a, omega arith)
pixel_low m (suc (suc zero)) s depth is some few low = let a = low 0 (omega arith) in rw (← is) (a, a, a, low 1 (omega arith))
pixel_low m (suc (suc (suc zero))) s depth is some few low =
    rw (← is) (low 0 (omega arith), low 1 (omega arith), low 2 (omega arith), omega arith)
pixel_low m (suc (suc (suc (suc zero)))) s depth is some few low =
    rw (← is) (low 0 (omega arith), low 1 (omega arith), low 2 (omega arith), low 3 (omega arith))
pixel_low m (suc (suc (suc (suc (suc d))))) s depth is some few low = absurd (omega (arith, few))

pixel_rgba : (m d : ℕ) (s : ℕ → ℕ) → 1 ≤ d → d ≤ 4
    → components_of (if d == 1 then Rgba (s 0) (s 0) (s 0) m else if d == 2 then Rgba (s 0) (s 0) (s 0) (s 1) else if d == 3 then Rgba (s 0) (s 1) (s 2) m else Rgba (s 0) (s 1) (s 2) (s 3)) ≡ components.Rgba
pixel_rgba m zero s some few = absurd (omega (arith, some))
pixel_rgba m (suc zero) s some few = refl
pixel_rgba m (suc (suc zero)) s some few = refl
pixel_rgba m (suc (suc (suc zero))) s some few = refl
pixel_rgba m (suc (suc (suc (suc zero)))) s some few = refl
pixel_rgba m (suc (suc (suc (suc (suc d))))) s some few = absurd (omega (arith, few))

-- a place of the file's rectangle, by its column and its row from the top
record IsCell (h : Header) (x y : ℤ) : Type 0 where
  c : ℕ
  r : ℕ
  column : x ≡ pos c
  row : y ≡ pos (h.height - 1 - r)
  wide : c < h.width
  high : r < h.height

-- the image has the pixels of the file's raster
abbrev PixelsOf : Image → Header → Type 0
PixelsOf image h =
    (r c : ℕ) → r < h.height → c < h.width → pixel_at image (pos c) (pos (h.height - 1 - r)) ≡ pixel_of h r c

cell_pixel : (image : Image) (h : Header) → PixelsOf image h → (x y : ℤ) (at : IsCell h x y) → pixel_at image x y ≡ pixel_of h at.r at.c
cell_pixel image h pixels x y at =
    ap (λ z. pixel_at image z y) at.column ∙ ap (pixel_at image (pos at.c)) at.row ∙ pixels at.r at.c at.high at.wide

cell_of : (h : Header) (x y : ℤ) → within (record { x1 = pos 0; y1 = pos 0; x2 = pos h.width; y2 = pos h.height }) x y ≡ true → IsCell h x y
cell_of h (pos c) (pos j) inside =
    let place = place_from (record { x1 = pos 0; y1 = pos 0; x2 = pos h.width; y2 = pos h.height }) (pos c) (pos j) inside in
    let right = place.right in
    let top = place.top in
    record { c = c; r = h.height - 1 - j; column = refl; row = ap pos (omega (arith, ints, top)); wide = omega (arith, ints, right); high = omega (arith, ints, top) }
cell_of h (negsuc k) y inside =
    let place = place_from (record { x1 = pos 0; y1 = pos 0; x2 = pos h.width; y2 = pos h.height }) (negsuc k) y inside in
    let left = place.left in absurd (omega (arith, ints, left))
cell_of h (pos c) (negsuc k) inside =
    let place = place_from (record { x1 = pos 0; y1 = pos 0; x2 = pos h.width; y2 = pos h.height }) (pos c) (negsuc k) inside in
    let bottom = place.bottom in absurd (omega (arith, ints, bottom))

module _ (bytes : List ℕ) (side : ℕ) (image : Image) (pam : IsPam bytes side image) where
  abbrev header : Header
  header = header_with pam.numbers pam.behind

  is_ranged : IsRanged side header
  is_ranged =
      let fault = second_of (is_pam bytes) (header_fault side (header_in bytes)) NotPam pam.no_fault in
      ranged side header (sym (ap (header_fault side) pam.reads) ∙ fault)

  inside_is : (x y : ℤ) → within image.rect x y ≡ true → IsCell header x y
  inside_is x y inside = cell_of header x y (subst (λ (r : Bounds). within r x y ≡ true) pam.rect inside)

  pixel_is : (x y : ℤ) (at : IsCell header x y) → pixel_at image x y ≡ pixel_of header at.r at.c
  pixel_is x y at = cell_pixel image header pam.pixels x y at

  cell_low : (r c : ℕ) → r < header.height → c < header.width → IsOfDepth (depth_of header) (pixel_of header r c)
  cell_low r c high wide =
      let h = header in
      let is = is_ranged in
      pixel_low (greatest (depth_of h)) h.depth (λ k. scaled h (sample_at h ((r * h.width + c) * h.depth + k))) (depth_of h) refl is.depth.0 is.depth.1
      (λ k low. scaled_low h (sample_at h ((r * h.width + c) * h.depth + k)) is.maxval.0
      (is.low ((r * h.width + c) * h.depth + k)
      (let place = mul-add-lt r h.width c h.height high wide in
      let sample = mul-add-lt (r * h.width + c) h.depth k (h.width * h.height) place low in
      omega (arith, sample))))

  fits_by : (x y : ℤ) (b : Bool) → within image.rect x y ≡ b
      → IsOfDepth image.depth (pixel_at image x y) × (components_of (pixel_at image x y) ≡ image.components)
  fits_by x y true inside =
      let at = inside_is x y inside in
      let h = header in (
        subst (λ (p : Pixel). IsOfDepth image.depth p) (sym (pixel_is x y at)) (subst (λ (d : Depth). IsOfDepth d (pixel_of h at.r at.c)) (sym pam.depth) (cell_low at.r at.c at.high at.wide)),
        ap components_of (pixel_is x y at) ∙ pixel_rgba (greatest (depth_of h)) h.depth (λ k. scaled h (sample_at h ((at.r * h.width + at.c) * h.depth + k))) is_ranged.depth.0 is_ranged.depth.1 ∙ sym pam.components,
      )
  fits_by x y false outside = rw outside (zero_form image.depth image.components)

  pub frame_image : side ≤ MOST_SIDE → IsFrameImage image
  frame_image few =
      let wide = is_ranged.width in
      let high = is_ranged.height in
      let w0 = wide.0 in let w1 = wide.1 in let h0 = high.0 in let h1 = high.1 in
      record {
        bounds = rw pam.rect (inr (omega (arith, ints, w0), omega (arith, ints, h0)));
        near = rw pam.rect (record {
          left = (omega (arith, ints), omega (arith, ints));
          bottom = (omega (arith, ints), omega (arith, ints));
          right = (omega (arith, ints, w1, few), omega (arith, ints, w1, few));
          top = (omega (arith, ints, h1, few), omega (arith, ints, h1, few));
        });
        fit = record { depth = λ x y. (fits_by x y (within image.rect x y) refl).0; components = λ x y. (fits_by x y (within image.rect x y) refl).1 };
      }

  -- and so is it at a fraction of its size
  pub small_frame : (q : ℕ) → IsScale q → side ≤ MOST_SIDE → IsFrameImage (reduced q image)
  small_frame q scale few =
      let wide = is_ranged.width in
      let high = is_ranged.height in
      let w0 = wide.0 in let w1 = wide.1 in let h0 = high.0 in let h1 = high.1 in
      small_image q scale image (ap (λ (r : Bounds). r.x1) pam.rect) (ap (λ (r : Bounds). r.y1) pam.rect)
      (rw pam.rect (omega (arith, ints, w0), omega (arith, ints, w1, few)))
      (rw pam.rect (omega (arith, ints, h0), omega (arith, ints, h1, few)))
      (frame_image few).fit

-- two images of the same bytes are the same
pub same_image : (bytes : List ℕ) (side : ℕ) (a b : Image) → IsPam bytes side a → IsPam bytes side b → SameImage a b
same_image bytes side a b p q =
    let reads = sym p.reads ∙ q.reads in
    let numbers = same_numbers p.numbers q.numbers p.behind q.behind reads in
    let header = same_reading p.numbers q.numbers p.behind q.behind reads in
    let rect : a.rect ≡ b.rect = p.rect ∙ ap (λ (n : HeaderNumbers). record { x1 = pos 0; y1 = pos 0; x2 = pos n.width; y2 = pos n.height }) numbers ∙ sym q.rect in
    let samples : a.components ≡ b.components = p.components ∙ sym q.components in
    record {
      rect = rect;
      depth = p.depth ∙ ap depth_of header ∙ sym q.depth;
      components = samples;
      pixels = λ x y.
          same_by a b (header_with p.numbers p.behind) p.pixels (subst (PixelsOf b) (sym header) q.pixels) rect samples x y (within a.rect x y) refl
          (λ inside. inside_is bytes side a p x y inside);
    }
  where
    same_by : (a b : Image) (h : Header) → PixelsOf a h → PixelsOf b h → a.rect ≡ b.rect → a.components ≡ b.components → (x y : ℤ) (b' : Bool)
        → within a.rect x y ≡ b' → (within a.rect x y ≡ true → IsCell h x y) → pixel_at a x y ≡ pixel_at b x y
    same_by a b h pa pb rect samples x y true inside cell =
        let at = cell inside in cell_pixel a h pa x y at ∙ sym (cell_pixel b h pb x y at)
    same_by a b h pa pb rect samples x y false outside cell =
        let other : within b.rect x y ≡ false = ap (λ (r : Bounds). within r x y) (sym rect) ∙ outside in
        rw (outside, other) (ap zero_pixel samples)
