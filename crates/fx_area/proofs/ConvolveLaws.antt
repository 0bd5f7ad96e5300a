-- Sums of nine samples, each times its number.
use Rattle.std.proofs.Common.{◌≡◌, ◌≤◌, ◌<◌, ◌∙◌, ℕ, zero, suc, ◌+◌, ◌*◌, ◌/◌, min, ℤ, pos, negsuc, ◌≤ℤ◌, ◌<ℤ◌, ◌+ℤ◌, ◌-ℤ◌, ◌*ℤ◌, List, [], ◌∷◌, map, ap, sym, refl, arith, w64, to_z, of_z, FitsSigned}
use Rattle.std.specs.Int.{int_div_euclid}
use Rattle.std.proofs.Math.Nat.{div-eq_of_lt, mul-le-mul}
use Rattle.std.proofs.lemmas.Int.{ints, to_z-of_z}
use Rattle.std.proofs.lemmas.Nat.{le-div}
use Rattle.fx_base.specs.Bounds.{Bounds}
use Rattle.fx_base.specs.Rect.{columns, IsStep}
use Rattle.fx_pixel.specs.declared.Depth.{Depth}
use Rattle.fx_pixel.specs.declared.Depth.TheVariants.{Byte, Short}
use Rattle.fx_pixel.specs.declared.Components.{Components}
use Rattle.fx_pixel.specs.declared.Components.TheVariants as components
use Rattle.fx_pixel.specs.declared.Pixel.{Pixel}
use Rattle.fx_pixel.specs.Pixel.{count, size, greatest}
use Rattle.fx_image.specs.Stored.{pixel_size, sample_in, pixel_in}
use Rattle.fx_image.proofs.ImageLaws.{fits_near}
use Rattle.fx_image.proofs.RowsLaws.{rows_apart}
use Rattle.fx_kernel.specs.Samples.{nth, rounded, clamped}
use Rattle.fx_kernel.specs.RowLaws.{sample_at, shows_samples}
use Rattle.fx_effect.specs.Tap.{tap}
use Rattle.fx_effect.specs.Given.{Given, input_pixel, row_pixel}
use Rattle.fx_effect.specs.Meaning.{rendered}
use Rattle.fx_effect.specs.Numbers.{number}
use Rattle.fx_effect.specs.NumberLaws.{Between, number_between}
use Rattle.fx_effect.specs.Rows.{ShowsRow}
use Rattle.fx_effect.specs.Shape.{IsLawfulIn}
use Rattle.fx_effect.specs.declared.action.Context.{Context}
use Rattle.fx_effect.specs.declared.values.Values.{Values}
use Rattle.fx_area.specs.declared.convolve3.Factors.{Factors}
use Rattle.fx_area.specs.declared.convolve3.Triple.{Triple}
use Rattle.fx_area.specs.Convolve3.{factor, convolve_params, factors, divisor, nine, sum_of_products, rounded_z, convolve_shape, convolve3}
use Rattle.fx_area.specs.Convolve3Laws.{nine_are}
use Rattle.fx_area.specs.ConvolveRows.{triple_of, factors_of, IsTriple, triple_sum, nine_sum, convolved_sample}

-- ---- sums that are rounded and brought into the samples' range

least_of : (m n : ℕ) → n ≤ m → min m n ≡ n
least_of m n few = grind arith

most_of : (m n : ℕ) → m ≤ n → min m n ≡ m
most_of m n many = grind arith

low_quotient : (m b : ℕ) (w : ℤ) → w <ℤ pos b → clamped m (int_div_euclid w (pos b)) ≡ 0
low_quotient m b (pos n) less = ap (min m) (div-eq_of_lt (omega (arith, ints, less))) ∙ least_of m 0 (omega arith)
low_quotient m b (negsuc n) less = refl

-- a sum up to 0
pub clamped_low : (m q : ℕ) (z : ℤ) → 0 < q → z ≤ℤ pos 0 → 0 ≡ clamped m (rounded_z z q)
clamped_low m q z some low = sym (low_quotient m (2 * q) ((pos 2 *ℤ z) +ℤ pos q) (omega (arith, ints)))

-- a sum whose mean is a sample
pub clamped_between : (m q n : ℕ) → rounded n q ≤ m → rounded n q ≡ clamped m (rounded_z (pos n) q)
clamped_between m q n few = sym (least_of m (rounded n q) few)

-- a sum whose mean is the greatest or more
pub clamped_high : (m q n : ℕ) → 0 < q → m * q ≤ n → m ≡ clamped m (rounded_z (pos n) q)
clamped_high m q n some many =
    sym (most_of m (rounded n q) (le-div m (2 * n + q) (2 * q) (omega arith) (omega (arith, many))))

-- a product of a number and a sample
pub product_near : (k : ℤ) (s : ℕ) → IsStep 256 k → s ≤ 65535 → IsStep 16776960 (k *ℤ pos s)
product_near (pos k) s near few =
    let q : k ≤ 256 = omega (arith, ints, near.1) in
    let p : k * s ≤ 256 * 65535 = mul-le-mul q few in
    (omega (arith, ints), omega (arith, ints, p))
product_near (negsuc k) s near few =
    let q : suc k ≤ 256 = omega (arith, ints, near.0) in
    let p : suc k * s ≤ 256 * 65535 = mul-le-mul q few in
    (omega (arith, ints, p), omega (arith, ints))

pub wrapped : (n : ℕ) (z : ℤ) → n ≤ 9223372036854775807 → IsStep n z → to_z w64 (of_z w64 z) ≡ z
wrapped n z few near = omega (arith, ints, few, near.0, near.1)

-- sums of terms that are near
two_fit : (a b : ℤ) → IsStep 50331648 a → IsStep 50331648 b → FitsSigned w64 (a +ℤ b)
two_fit a b p q = fits_near (a +ℤ b) (omega (arith, ints, p.0, q.0)) (omega (arith, ints, p.1, q.1))

three_fit : (a b c : ℤ) → IsStep 50331648 a → IsStep 50331648 b → IsStep 50331648 c → FitsSigned w64 ((a +ℤ b) +ℤ c)
three_fit a b c p q r =
    fits_near ((a +ℤ b) +ℤ c) (omega (arith, ints, p.0, q.0, r.0)) (omega (arith, ints, p.1, q.1, r.1))

near_is : (z : ℤ) → IsStep 50331648 z → to_z w64 (of_z w64 z) ≡ z
near_is z near = wrapped 50331648 z (omega arith) near

pub two_sum : (a b : ℤ) → IsStep 50331648 a → IsStep 50331648 b
    → FitsSigned w64 (to_z w64 (of_z w64 a) +ℤ to_z w64 (of_z w64 b))
two_sum a b p q = rw (near_is a p, near_is b q) (two_fit a b p q)

two_are : (a b : ℤ) → IsStep 50331648 a → IsStep 50331648 b
    → to_z w64 (of_z w64 (to_z w64 (of_z w64 a) +ℤ to_z w64 (of_z w64 b))) ≡ a +ℤ b
two_are a b p q = rw (near_is a p, near_is b q) (to_z-of_z w64 (a +ℤ b) (two_fit a b p q))

pub three_sum : (a b c : ℤ) → IsStep 50331648 a → IsStep 50331648 b → IsStep 50331648 c
    → FitsSigned w64 (to_z w64 (of_z w64 (to_z w64 (of_z w64 a) +ℤ to_z w64 (of_z w64 b))) +ℤ to_z w64 (of_z w64 c))
three_sum a b c p q r = rw (two_are a b p q, near_is c r) (three_fit a b c p q r)

pub three_are : (a b c : ℤ) → IsStep 50331648 a → IsStep 50331648 b → IsStep 50331648 c
    → to_z w64 (of_z w64 (to_z w64 (of_z w64 (to_z w64 (of_z w64 a) +ℤ to_z w64 (of_z w64 b))) +ℤ to_z w64 (of_z w64 c)))
    ≡ (a +ℤ b) +ℤ c
three_are a b c p q r =
    rw (two_are a b p q, near_is c r) (to_z-of_z w64 ((a +ℤ b) +ℤ c) (three_fit a b c p q r))

pub three_near : (a b c : ℤ) → IsStep 16776960 a → IsStep 16776960 b → IsStep 16776960 c
    → IsStep 50331648 ((a +ℤ b) +ℤ c)
three_near a b c p q r = (omega (arith, ints, p.0, q.0, r.0), omega (arith, ints, p.1, q.1, r.1))

pub step_more : (z : ℤ) → IsStep 16776960 z → IsStep 50331648 z
step_more z p = (omega (arith, ints, p.0), omega (arith, ints, p.1))

pub sums_of : (x y z u v w : ℤ) → x ≡ u → y ≡ v → z ≡ w → (x +ℤ y) +ℤ z ≡ (u +ℤ v) +ℤ w
sums_of x y z u v w p q r = rw (p, q, r) refl

-- ---- the numbers

step_of : {z : ℤ} → Between (negsuc 255) (pos 256) z → IsStep 256 z
step_of between = (between.above, between.below)

pub factor_near : (context : Context) (v : Values) → IsLawfulIn convolve_shape context v → (k : ℕ) → k < 9
    → IsStep 256 (number v k)
factor_near context v lawful zero low = step_of (number_between convolve_params v 0 (factor [] (pos 0)) lawful.numbers (omega arith))
factor_near context v lawful (suc zero) low = step_of (number_between convolve_params v 1 (factor [] (pos 0)) lawful.numbers (omega arith))
factor_near context v lawful (suc (suc zero)) low = step_of (number_between convolve_params v 2 (factor [] (pos 0)) lawful.numbers (omega arith))
factor_near context v lawful (suc (suc (suc zero))) low = step_of (number_between convolve_params v 3 (factor [] (pos 0)) lawful.numbers (omega arith))
factor_near context v lawful (suc (suc (suc (suc zero)))) low = step_of (number_between convolve_params v 4 (factor [] (pos 0)) lawful.numbers (omega arith))
factor_near context v lawful (suc (suc (suc (suc (suc zero))))) low = step_of (number_between convolve_params v 5 (factor [] (pos 0)) lawful.numbers (omega arith))
factor_near context v lawful (suc (suc (suc (suc (suc (suc zero)))))) low = step_of (number_between convolve_params v 6 (factor [] (pos 0)) lawful.numbers (omega arith))
factor_near context v lawful (suc (suc (suc (suc (suc (suc (suc zero))))))) low = step_of (number_between convolve_params v 7 (factor [] (pos 0)) lawful.numbers (omega arith))
factor_near context v lawful (suc (suc (suc (suc (suc (suc (suc (suc zero)))))))) low = step_of (number_between convolve_params v 8 (factor [] (pos 0)) lawful.numbers (omega arith))
factor_near context v lawful (suc (suc (suc (suc (suc (suc (suc (suc (suc k))))))))) low = absurd (omega arith)

pub triple_near : (context : Context) (v : Values) → IsLawfulIn convolve_shape context v → (first : ℕ) → first ≤ 6
    → IsTriple (triple_of v first)
triple_near context v lawful first low =
    record {
      left = factor_near context v lawful first (omega (arith, low));
      middle = factor_near context v lawful (first + 1) (omega (arith, low));
      right = factor_near context v lawful (first + 2) (omega (arith, low));
    }

pub same_triple : (a b c x y z : ℤ) → a ≡ x → b ≡ y → c ≡ z
    → ◌≡◌ {A = Triple} (record { left = a; middle = b; right = c }) (record { left = x; middle = y; right = z })
same_triple a b c x y z p q r = rw (p, q, r) refl

pub same_factors : (a b c x y z : Triple) → a ≡ x → b ≡ y → c ≡ z
    → ◌≡◌ {A = Factors} (record { top = a; middle = b; bottom = c }) (record { top = x; middle = y; bottom = z })
same_factors a b c x y z p q r = rw (p, q, r) refl

-- ---- places in rows of bytes

-- two pixels more than a row
pub sum_room : (d : Depth) (c : Components) (s long line n step : ℕ) → n ≡ size d → step ≡ count c → s < long / n
    → line ≡ long + 2 * pixel_size d c → size d * (s + 2 * step) + size d ≤ line
sum_room Byte components.Rgba s long line n step is by low whole = let p = (rw is at low) in omega (arith, p, by, whole)
sum_room Byte components.Alpha s long line n step is by low whole = let p = (rw is at low) in omega (arith, p, by, whole)
sum_room Short components.Rgba s long line n step is by low whole = let p = (rw is at low) in omega (arith, p, by, whole)
sum_room Short components.Alpha s long line n step is by low whole = let p = (rw is at low) in omega (arith, p, by, whole)

pub row_room : (d : Depth) (s long n : ℕ) → n ≡ size d → s < long / n → size d * s + size d ≤ long
row_room Byte s long n is low = let p = (rw is at low) in omega (arith, p)
row_room Short s long n is low = let p = (rw is at low) in omega (arith, p)

-- a sample that has room is one of the row
pub sample_below : (d : Depth) (s long m n : ℕ) → n ≡ size d → s * size d + size d ≤ long → long / n ≤ m → s < m
sample_below Byte s long m n is room few = let h = (rw is at few) in omega (arith, h, room)
sample_below Short s long m n is room few = let h = (rw is at few) in omega (arith, h, room)

-- a sample of a row has room
pub sample_fits : (d : Depth) (c : Components) (w s long : ℕ) → s < w * count c → long ≡ w * pixel_size d c
    → s * size d + size d ≤ long
sample_fits d c w s long less is = let p = rows_apart s (w * count c) (size d) less in omega (arith, p, is)

-- ---- samples of a line

next_place : (n i k : ℕ) → k + n * i + n ≡ k + n * (i + 1)
next_place n i k = omega arith

third_place : (n i k : ℕ) → k + n * i + 2 * n ≡ k + n * (i + 2)
third_place n i k = omega arith

left_of : (a : ℤ) (i : ℕ) → (a -ℤ pos 1) +ℤ pos i ≡ (a +ℤ pos i) -ℤ pos 1
left_of a i = omega (arith, ints)

middle_of : (a : ℤ) (i : ℕ) → (a -ℤ pos 1) +ℤ pos (i + 1) ≡ a +ℤ pos i
middle_of a i = omega (arith, ints)

right_of : (a : ℤ) (i : ℕ) → (a -ℤ pos 1) +ℤ pos (i + 2) ≡ (a +ℤ pos i) +ℤ pos 1
right_of a i = omega (arith, ints)

module _ (d : Depth) (c : Components) (line : List ℕ) (f : ℤ → Pixel) (a : ℤ) (w : ℕ)
    (shows : (i : ℕ) → i < w + 2 → pixel_in d c line i ≡ f ((a -ℤ pos 1) +ℤ pos i)) where
  left_sample : (i k : ℕ) → i < w → k < count c
      → sample_in d line (k + count c * i) ≡ nth (f ((a +ℤ pos i) -ℤ pos 1)) k
  left_sample i k low few =
      sample_at d c line i k (f ((a +ℤ pos i) -ℤ pos 1)) few (shows i (omega (arith, low)) ∙ ap f (left_of a i))

  middle_sample : (i k : ℕ) → i < w → k < count c
      → sample_in d line (k + count c * i + count c) ≡ nth (f (a +ℤ pos i)) k
  middle_sample i k low few =
      ap (sample_in d line) (next_place (count c) i k)
      ∙ sample_at d c line (i + 1) k (f (a +ℤ pos i)) few (shows (i + 1) (omega (arith, low)) ∙ ap f (middle_of a i))

  right_sample : (i k : ℕ) → i < w → k < count c
      → sample_in d line (k + count c * i + 2 * count c) ≡ nth (f ((a +ℤ pos i) +ℤ pos 1)) k
  right_sample i k low few =
      ap (sample_in d line) (third_place (count c) i k)
      ∙ sample_at d c line (i + 2) k (f ((a +ℤ pos i) +ℤ pos 1)) few
      (shows (i + 2) (omega (arith, low)) ∙ ap f (right_of a i))

  pub triple_is : (t : Triple) (i k : ℕ) → i < w → k < count c
      → triple_sum t d (count c) line (k + count c * i)
      ≡ ((t.left *ℤ pos (nth (f ((a +ℤ pos i) -ℤ pos 1)) k)) +ℤ (t.middle *ℤ pos (nth (f (a +ℤ pos i)) k)))
      +ℤ (t.right *ℤ pos (nth (f ((a +ℤ pos i) +ℤ pos 1)) k))
  triple_is t i k low few = rw (left_sample i k low few, middle_sample i k low few, right_sample i k low few) refl

-- ---- the row

in_order : (a b c d m e f g h : ℤ) (n1 n2 n3 n4 n5 n6 n7 n8 n9 : ℕ)
    → ((((a *ℤ pos n1) +ℤ (b *ℤ pos n2)) +ℤ (c *ℤ pos n3)) +ℤ (((d *ℤ pos n4) +ℤ (m *ℤ pos n5)) +ℤ (e *ℤ pos n6)))
    +ℤ (((f *ℤ pos n7) +ℤ (g *ℤ pos n8)) +ℤ (h *ℤ pos n9))
    ≡ sum_of_products (a ∷ b ∷ c ∷ d ∷ m ∷ e ∷ f ∷ g ∷ h ∷ []) (n1 ∷ n2 ∷ n3 ∷ n4 ∷ n5 ∷ n6 ∷ n7 ∷ n8 ∷ n9 ∷ [])
in_order a b c d m e f g h n1 n2 n3 n4 n5 n6 n7 n8 n9 = omega (arith, ints)

module _ (v : Values) (given : Given) (d : Depth) (c : Components) (rect : Bounds) (y : ℤ) (top middle bottom : List ℕ)
    (high : (i : ℕ) → i < columns rect + 2
    → pixel_in d c top i ≡ row_pixel given 0 v.frame ((rect.x1 -ℤ pos 1) +ℤ pos i) (y +ℤ pos 1))
    (level : (i : ℕ) → i < columns rect + 2
    → pixel_in d c middle i ≡ row_pixel given 0 v.frame ((rect.x1 -ℤ pos 1) +ℤ pos i) y)
    (low : (i : ℕ) → i < columns rect + 2
    → pixel_in d c bottom i ≡ row_pixel given 0 v.frame ((rect.x1 -ℤ pos 1) +ℤ pos i) (y -ℤ pos 1)) where
  abbrev sum_at : ℤ → ℕ → ℤ
  sum_at x k = sum_of_products (factors v) (map (λ p. nth p k) (map (input_pixel given) (nine (tap 0 v.frame) x y)))

  abbrev value : ℤ → ℤ → ℕ → ℕ
  value x j k = nth (row_pixel given 0 v.frame x j) k

  nine_is : (i k : ℕ) → i < columns rect → k < count c
      → nine_sum (factors_of v) d (count c) top middle bottom (k + count c * i) ≡ sum_at (rect.x1 +ℤ pos i) k
  nine_is i k less few =
      let f = factors_of v in
      let x = rect.x1 +ℤ pos i in
      sums_of _ _ _ _ _ _
      (triple_is d c top (λ z. row_pixel given 0 v.frame z (y +ℤ pos 1)) rect.x1 (columns rect) high f.top i k less few)
      (triple_is d c middle (λ z. row_pixel given 0 v.frame z y) rect.x1 (columns rect) level f.middle i k less few)
      (triple_is d c bottom (λ z. row_pixel given 0 v.frame z (y -ℤ pos 1)) rect.x1 (columns rect) low f.bottom i k less few)
      ∙ in_order f.top.left f.top.middle f.top.right f.middle.left f.middle.middle f.middle.right f.bottom.left
      f.bottom.middle f.bottom.right (value (x -ℤ pos 1) (y +ℤ pos 1) k) (value x (y +ℤ pos 1) k)
      (value (x +ℤ pos 1) (y +ℤ pos 1) k) (value (x -ℤ pos 1) y k) (value x y k) (value (x +ℤ pos 1) y k)
      (value (x -ℤ pos 1) (y -ℤ pos 1) k) (value x (y -ℤ pos 1) k) (value (x +ℤ pos 1) (y -ℤ pos 1) k)
      ∙ ap (λ taps. sum_of_products (factors v) (map (λ p. nth p k) (map (input_pixel given) taps)))
      (sym (nine_are (tap 0 v.frame) x y))

  pub convolved_row : (row : List ℕ)
      → ((i k : ℕ) → i < columns rect → k < count c → sample_in d row (k + count c * i)
      ≡ convolved_sample (factors_of v) (divisor v) d (count c) top middle bottom (k + count c * i))
      → ShowsRow d c rect y (rendered convolve3 v given d c) row
  convolved_row row is =
      shows_samples d c rect y row (λ x k. clamped (greatest d) (rounded_z (sum_at x k) (divisor v)))
      (λ i k less few. is i k less few
      ∙ ap (λ s. clamped (greatest d) (rounded_z s (divisor v))) (nine_is i k less few))
