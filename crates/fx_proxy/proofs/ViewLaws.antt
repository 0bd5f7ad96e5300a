-- Rows of an image that starts at (0, 0).
use Rattle.std.proofs.Common.{◌≡◌, ◌≤◌, ◌<◌, ℕ, zero, suc, ◌-◌, ◌*◌, ℤ, pos, negsuc, ◌+ℤ◌, ◌*ℤ◌, ◌≤ℤ◌, ◌<ℤ◌, List, refl, ap, sym, subst, arith, ◌∙◌, inl, inr, w64, to_z, of_z}
use Rattle.std.specs.Int.{int_gap}
use Rattle.std.proofs.Math.Nat.{mul-le-mul_right}
use Rattle.std.proofs.lemmas.Bool.{cases_Bool}
use Rattle.std.proofs.lemmas.Int.{ints}
use Rattle.fx_base.specs.Bounds.{Bounds}
use Rattle.fx_base.specs.Rect.{columns, within}
use Rattle.fx_pixel.specs.declared.Depth.{Depth}
use Rattle.fx_pixel.specs.declared.Components.{Components}
use Rattle.fx_pixel.specs.declared.Components.TheVariants as components
use Rattle.fx_pixel.specs.Pixel.{count, zero as zero_pixel}
use Rattle.fx_image.specs.Image.{Image, pixel_at}
use Rattle.fx_image.specs.Runs.{ShowsPixels}
use Rattle.fx_image.specs.Stored.{Stored, image_of, pixel_in, sample_in, shown}
use Rattle.fx_image.proofs.ImageLaws.{place_from, place_to}
use Rattle.fx_kernel.specs.RowLaws.{samples_of}
use Rattle.fx_kernel.specs.Samples.{nth}
use Rattle.fx_proxy.specs.Blocks.{block_sample}

right_of : (i : ℕ) (a b : ℤ) → a ≡ pos 0 → i < int_gap a b → pos i <ℤ b
right_of i a b left low = on b (rw left at low)
  where
    on : (b : ℤ) → i < int_gap (pos 0) b → pos i <ℤ b
    on (pos b) low = omega (arith, ints, low)
    on (negsuc b) low = absurd (omega (arith, low))

gap_from : (i : ℕ) (a : ℤ) → a ≡ pos 0 → int_gap a (pos i) ≡ i
gap_from i a left = ap (λ b. int_gap b (pos i)) left ∙ plain
  where
    plain : int_gap (pos 0) (pos i) ≡ i
    plain = omega arith

-- the pixels of a row, by their place in it
row_shows : (s : Stored) (rect : Bounds) (y : ℤ) (bytes : List ℕ) (d : Depth) (c : Components) → s.depth ≡ d → s.components ≡ c
    → rect.x1 ≡ pos 0 → rect.y1 ≤ℤ y → y <ℤ rect.y2 → ShowsPixels s rect y bytes → (i : ℕ) → i < columns rect
    → pixel_in d c bytes i ≡ pixel_at (image_of s) (pos i) y
row_shows s rect y bytes d c deep alike left above below shows i low =
    let right = right_of i rect.x1 rect.x2 left low in
    let place = place_to rect (pos i) y (omega (arith, ints, left)) right above below in
    subst (λ (e : Depth). pixel_in e c bytes i ≡ shown s (pos i) y) deep
    (subst (λ (e : Components). pixel_in s.depth e bytes i ≡ shown s (pos i) y) alike
    (ap (pixel_in s.depth s.components bytes) (sym (gap_from i rect.x1 left)) ∙ shows (pos i) place))

pub row_samples : (s : Stored) (rect : Bounds) (y : ℤ) (bytes : List ℕ) (d : Depth) (c : Components) → s.depth ≡ d → s.components ≡ c
    → rect.x1 ≡ pos 0 → rect.y1 ≤ℤ y → y <ℤ rect.y2 → ShowsPixels s rect y bytes → (t : ℕ) → t < columns rect * count c
    → sample_in d bytes t ≡ block_sample (image_of s) c t y
row_samples s rect y bytes d c deep alike left above below shows t low =
    samples_of d c bytes (columns rect) (λ i. pixel_at (image_of s) (pos i) y) (row_shows s rect y bytes d c deep alike left above below shows) t low

no_sample : (c : Components) (n : ℕ) → nth (zero_pixel c) n ≡ 0
no_sample components.Rgba zero = refl
no_sample components.Rgba (suc zero) = refl
no_sample components.Rgba (suc (suc zero)) = refl
no_sample components.Rgba (suc (suc (suc n))) = refl
no_sample components.Alpha n = refl

-- behind its last column an image is zero
pub beyond_zero : (image : Image) (w : ℕ) → image.rect.x1 ≡ pos 0 → columns image.rect ≡ w
    → (x : ℕ) (j : ℤ) (n : ℕ) → w ≤ x → nth (pixel_at image (pos x) j) n ≡ 0
beyond_zero image w left wide x j n past = elim (cases_Bool (within image.rect (pos x) j)) [
  | inl there ↦
      let right = (place_from image.rect (pos x) j there).right in
      absurd (outside image.rect.x1 image.rect.x2 left (subst (λ (k : ℕ). k ≤ x) (sym wide) past) right)
  | inr gone ↦ rw gone (no_sample image.components n)
]
  where
    outside : (a b : ℤ) → a ≡ pos 0 → int_gap a b ≤ x → pos x <ℤ b → ⊥
    outside a (pos b) at few right = let low : b - 0 ≤ x = rw at at few in omega (arith, ints, low, right)
    outside a (negsuc b) at few right = omega (arith, ints, right)

-- ---- the rows of a block

near_product : (q n : ℕ) → q ≤ 8 → n ≤ 1073741824 → q * n ≤ 8589934592
near_product q n few low = let up = mul-le-mul_right n few in omega (arith, up, low)

wrapped : (p : ℤ) (k : ℕ) → pos 0 ≤ℤ p → p ≤ℤ pos 8589934592 → k < 8
    → to_z w64 (of_z w64 (to_z w64 (of_z w64 p) +ℤ to_z w64 k)) ≡ p +ℤ pos k
wrapped p k above below few = omega (arith, ints)

near : (q : ℕ) (y : ℤ) → q ≤ 8 → pos 0 ≤ℤ y → y ≤ℤ pos 1073741824 → (pos 0 ≤ℤ (pos q *ℤ y)) × ((pos q *ℤ y) ≤ℤ pos 8589934592)
near q (pos n) few above below =
    let up = near_product q n few (omega (arith, ints, below)) in
    (near_low q n, near_high q n up)
  where
    near_low : (q n : ℕ) → pos 0 ≤ℤ (pos q *ℤ pos n)
    near_low q n = let is : (pos q *ℤ pos n) ≡ pos (q * n) = refl in omega (arith, ints, is)

    near_high : (q n : ℕ) → q * n ≤ 8589934592 → (pos q *ℤ pos n) ≤ℤ pos 8589934592
    near_high q n up = let is : (pos q *ℤ pos n) ≡ pos (q * n) = refl in omega (arith, ints, is, up)
near q (negsuc n) few above below = absurd (omega (arith, ints, above))

pub row_is : (q k : ℕ) (y : ℤ) → q ≤ 8 → k < q → pos 0 ≤ℤ y → y ≤ℤ pos 1073741824
    → to_z w64 (of_z w64 (to_z w64 (of_z w64 (to_z w64 q *ℤ to_z w64 (of_z w64 y))) +ℤ to_z w64 k)) ≡ (pos q *ℤ to_z w64 (of_z w64 y)) +ℤ pos k
row_is q k y few low above below =
    let back : to_z w64 (of_z w64 y) ≡ y = omega (arith, ints) in
    let side : to_z w64 q ≡ pos q = omega (arith, ints) in
    let bounds = near q y few above below in
    rw (back, side) (wrapped (pos q *ℤ y) k bounds.0 bounds.1 (omega (arith, few, low)))
