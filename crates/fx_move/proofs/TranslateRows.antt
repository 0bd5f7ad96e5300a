-- The rows that translate reads.
use Rattle.std.proofs.Common.{◌≡◌, ◌<◌, ◌∙◌, ℕ, ◌+◌, ◌*◌, ◌==◌, ℤ, pos, negsuc, ◌+ℤ◌, ◌≤ℤ◌, ◌<ℤ◌, Bool, true, false, List, length, map, ap, refl, sym, subst, arith, w64, to_z, of_z, FitsSigned}
use Rattle.std.specs.Int.{int_gap, int_min, int_max}
use Rattle.std.proofs.lemmas.Bool.Decides.{nat_tests}
use Rattle.std.proofs.lemmas.Int.{ints}
use Rattle.fx_base.specs.Bounds.{Bounds}
use Rattle.fx_base.specs.Rect.{Holds, IsNear, columns, shifted, stretched, hull, is_empty}
use Rattle.fx_base.proofs.RectLemmas.{within-shifted, IsProper-from_test, is_empty-proper, hull-proper}
use Rattle.fx_base.proofs.RectLaws.{gap_is}
use Rattle.fx_pixel.specs.declared.Depth.{Depth}
use Rattle.fx_pixel.specs.declared.Components.{Components}
use Rattle.fx_pixel.specs.declared.Pixel.{Pixel}
use Rattle.fx_pixel.specs.Pixel.{components_of, count}
use Rattle.fx_image.specs.Stored.{pixel_size, sample_in, pixel_in}
use Rattle.fx_image.proofs.ImageLaws.{place_from}
use Rattle.fx_kernel.specs.Samples.{nth, each}
use Rattle.fx_kernel.specs.SampleLaws.{each_same, each_of}
use Rattle.fx_kernel.specs.Blends.{in_units}
use Rattle.fx_kernel.specs.RowLaws.{sample_at, sample_low, pixel_of_samples}
use Rattle.fx_effect.specs.Tap.{Tap, tap}
use Rattle.fx_effect.specs.Given.{Given, row_pixel}
use Rattle.fx_effect.specs.Meaning.{rendered}
use Rattle.fx_effect.specs.Rows.{IsLine, ShowsRow}
use Rattle.fx_effect.specs.declared.values.Values.{Values}
use Rattle.fx_move.specs.declared.translate.Along.{Along}
use Rattle.fx_move.specs.Translate.{across, upward, extra, places, weights, weighted, weighed, translate}
use Rattle.fx_move.specs.TranslateRows.{IsWhole, four_weights, of_four, weighed_sample}

pub fits_wide : (x : ℤ) → negsuc 4294967295 ≤ℤ x → x ≤ℤ pos 4294967296 → FitsSigned w64 x
fits_wide x low high = grind (arith, ints)

-- a row of a near rectangle, moved
pub moved_row : (r : Bounds) (y d first : ℤ) → IsNear r → r.y1 ≤ℤ y → y <ℤ r.y2 → d ≡ first → negsuc 16383 ≤ℤ first
    → first ≤ℤ pos 16384 → to_z w64 (of_z w64 y) +ℤ to_z w64 (of_z w64 d) ≡ y +ℤ first
moved_row r y d first near above below is low high =
    let a = near.bottom in let b = near.top in omega (arith, ints, is, a, b, above, below, low, high)

pub row_fits : (r : Bounds) (y d first : ℤ) → IsNear r → r.y1 ≤ℤ y → y <ℤ r.y2 → d ≡ first → negsuc 16383 ≤ℤ first
    → first ≤ℤ pos 16384 → FitsSigned w64 (to_z w64 (of_z w64 y) +ℤ to_z w64 (of_z w64 d))
row_fits r y d first near above below is low high =
    let a = near.bottom in let b = near.top in
    let same = moved_row r y d first near above below is low high in
    fits_wide (to_z w64 (of_z w64 y) +ℤ to_z w64 (of_z w64 d)) (omega (arith, ints, same, a, b, above, below, low, high)) (omega (arith, ints, same, a, b, above, below, low, high))

-- ---- rectangles that move

low_of : (x y : ℤ) → x ≤ℤ y → int_min x y ≡ x
low_of x y h = grind (arith, ints)

high_of : (x y : ℤ) → x ≤ℤ y → int_max x y ≡ y
high_of x y h = grind (arith, ints)

same_bounds : (x1 y1 x2 y2 a b c d : ℤ) → x1 ≡ a → y1 ≡ b → x2 ≡ c → y2 ≡ d
    → ◌≡◌ {A = Bounds} (record { x1 = x1; y1 = y1; x2 = x2; y2 = y2 }) (record { x1 = a; y1 = b; x2 = c; y2 = d })
same_bounds x1 y1 x2 y2 a b c d p q r s = rw (p, q, r, s) refl

pub shift_by : (s r : Bounds) (a b a' b' : ℤ) → s ≡ shifted r a b → a ≡ a' → b ≡ b' → s ≡ shifted r a' b'
shift_by s r a b a' b' is p q = is ∙ rw (p, q) refl

-- a rectangle at two places, and what lies between
pub hull_moved : (r : Bounds) (a b c d : ℤ) → a ≤ℤ c → b ≤ℤ d → hull (shifted r a b) (shifted r c d) ≡ stretched r a b c d
hull_moved r a b c d right up = go (is_empty r) refl
  where
    go : (e : Bool) → is_empty r ≡ e → hull (shifted r a b) (shifted r c d) ≡ stretched r a b c d
    go true is = rw is refl
    go false is =
        let p = IsProper-from_test r is in
        let w = p.wide in
        let h = p.high in
        let one : Bounds = record { x1 = r.x1 +ℤ a; y1 = r.y1 +ℤ b; x2 = r.x2 +ℤ a; y2 = r.y2 +ℤ b } in
        let other : Bounds = record { x1 = r.x1 +ℤ c; y1 = r.y1 +ℤ d; x2 = r.x2 +ℤ c; y2 = r.y2 +ℤ d } in
        rw is
        (hull-proper one other (is_empty-proper one (record { wide = omega (arith, ints); high = omega (arith, ints) })) (is_empty-proper other (record { wide = omega (arith, ints); high = omega (arith, ints) }))
        ∙ same_bounds (int_min (r.x1 +ℤ a) (r.x1 +ℤ c)) (int_min (r.y1 +ℤ b) (r.y1 +ℤ d)) (int_max (r.x2 +ℤ a) (r.x2 +ℤ c)) (int_max (r.y2 +ℤ b) (r.y2 +ℤ d)) (r.x1 +ℤ a) (r.y1 +ℤ b) (r.x2 +ℤ c) (r.y2 +ℤ d) (low_of (r.x1 +ℤ a) (r.x1 +ℤ c) (omega (arith, ints))) (low_of (r.y1 +ℤ b) (r.y1 +ℤ d) (omega (arith, ints))) (high_of (r.x2 +ℤ a) (r.x2 +ℤ c) (omega (arith, ints))) (high_of (r.y2 +ℤ b) (r.y2 +ℤ d) (omega (arith, ints))))

-- ---- whole pixels

module _ (d : Depth) (c : Components) (r : Bounds) (y dx dy : ℤ) (wide : r.x1 <ℤ r.x2) (above : r.y1 ≤ℤ y) (below : y <ℤ r.y2) where
  shifted_is : shifted r dx dy ≡ record { x1 = r.x1 +ℤ dx; y1 = r.y1 +ℤ dy; x2 = r.x2 +ℤ dx; y2 = r.y2 +ℤ dy }
  shifted_is = rw (is_empty-proper r (record { wide = wide; high = omega (arith, ints, above, below) })) refl

  same_gap : (a b : ℤ) → a ≤ℤ b → int_gap (a +ℤ dx) (b +ℤ dx) ≡ int_gap a b
  same_gap a b up =
      let p = gap_is a b up in
      let q = gap_is (a +ℤ dx) (b +ℤ dx) (omega (arith, ints)) in
      omega (arith, ints, p, q)

  pub shifted_line : (bytes : List ℕ) → length bytes ≡ columns r * pixel_size d c → IsLine d c (shifted r dx dy) (y +ℤ dy) bytes
  shifted_line bytes long =
      subst (λ b. IsLine d c b (y +ℤ dy) bytes) (sym shifted_is)
      (record { wide = omega (arith, ints, wide); above = omega (arith, ints, above); below = omega (arith, ints, below); long = long ∙ ap (λ n. n * pixel_size d c) (sym (same_gap r.x1 r.x2 (omega (arith, ints, wide)))) })

  pub shifted_pixel : (bytes : List ℕ) (f : ℤ → ℤ → Pixel) (x : ℤ) → Holds r x y → ShowsRow d c (shifted r dx dy) (y +ℤ dy) f bytes
      → pixel_in d c bytes (int_gap r.x1 x) ≡ f (x +ℤ dx) (y +ℤ dy)
  shifted_pixel bytes f x inside shows =
      let place = place_from r x y inside in
      ap (pixel_in d c bytes) (sym (ap (λ (b : Bounds). int_gap b.x1 (x +ℤ dx)) shifted_is ∙ same_gap r.x1 x place.left))
      ∙ shows (x +ℤ dx) (within-shifted r dx dy x y ∙ inside)

whole_unit : (s : ℕ) → in_units (65536 * s + 0) ≡ s
whole_unit s = omega arith

zero_share : (a : Along) → a.share ≡ 0 → (a.share == 0) ≡ true
zero_share a is = grind (arith, nat_tests)

-- the pixel of a picture that moves by whole pixels
pub whole_pixel : (v : Values) (given : Given) (d : Depth) (c : Components) (x y : ℤ) → IsWhole v
    → components_of (row_pixel given 0 v.frame (x +ℤ (across v).first) (y +ℤ (upward v).first)) ≡ c
    → row_pixel given 0 v.frame (x +ℤ (across v).first) (y +ℤ (upward v).first) ≡ rendered translate v given d c x y
whole_pixel v given d c x y whole of =
    let p = row_pixel given 0 v.frame (x +ℤ (across v).first) (y +ℤ (upward v).first) in
    rw (zero_share (across v) whole.across, zero_share (upward v) whole.upward)
    (sym (ap (λ k. each k (λ n. in_units (65536 * nth p n + 0))) (sym of) ∙ each_same (components_of p) (λ n. in_units (65536 * nth p n + 0)) (nth p) (λ n. whole_unit (nth p n)) ∙ each_of p))

-- ---- parts of pixels

no_share : (n : ℕ) → (n == 0) ≡ true → n ≡ 0
no_share n h = grind (arith, nat_tests)

-- of the four pixels, those without a share don't count
four_are : (a b : Along) (t : ℤ) (value : Tap → Pixel) (k : ℕ) (x y : ℤ)
    → of_four (four_weights a b) (nth (value (tap 0 t x y)) k) (nth (value (tap 0 t x (y +ℤ pos 1))) k) (nth (value (tap 0 t (x +ℤ pos 1) y)) k) (nth (value (tap 0 t (x +ℤ pos 1) (y +ℤ pos 1))) k)
    ≡ in_units (weighted (weights a b) (map (λ p. nth p k) (map value (places (tap 0 t) x (1 + extra a) y (1 + extra b)))))
four_are a b t value k x y = go (a.share == 0) (b.share == 0) refl refl
  where
    goal : Type 0
    goal =
        of_four (four_weights a b) (nth (value (tap 0 t x y)) k) (nth (value (tap 0 t x (y +ℤ pos 1))) k) (nth (value (tap 0 t (x +ℤ pos 1) y)) k) (nth (value (tap 0 t (x +ℤ pos 1) (y +ℤ pos 1))) k)
        ≡ in_units (weighted (weights a b) (map (λ p. nth p k) (map value (places (tap 0 t) x (1 + extra a) y (1 + extra b)))))

    go : (s u : Bool) → (a.share == 0) ≡ s → (b.share == 0) ≡ u → goal
    go true true p q =
        let i = no_share a.share p in let j = no_share b.share q in
        rw (p, q) (ap in_units (rw (i, j) (omega arith)))
    go true false p q = let i = no_share a.share p in rw (p, q) (ap in_units (rw i (omega arith)))
    go false true p q = let j = no_share b.share q in rw (p, q) (ap in_units (rw j (omega arith)))
    go false false p q = rw (p, q) (ap in_units (omega arith))

next_sample : (n i k : ℕ) → k + n * i + n ≡ k + n * (i + 1)
next_sample n i k = omega arith

module _ (a b : Along) (d : Depth) (c : Components) (t : ℤ) (value : Tap → Pixel) (x y : ℤ) (w : ℕ) (low high row : List ℕ)
    (lows : (i : ℕ) → i < w + 1 → pixel_in d c low i ≡ value (tap 0 t (x +ℤ pos i) y))
    (highs : (i : ℕ) → i < w + 1 → pixel_in d c high i ≡ value (tap 0 t (x +ℤ pos i) (y +ℤ pos 1)))
    (made : (s : ℕ) → s < w * count c → sample_in d row s ≡ weighed_sample d (count c) (four_weights a b) low high s) where
  next_pixel : (bytes : List ℕ) (i k : ℕ) (p : Pixel) → k < count c → pixel_in d c bytes (i + 1) ≡ p → sample_in d bytes (k + count c * i + count c) ≡ nth p k
  next_pixel bytes i k p few is = ap (sample_in d bytes) (next_sample (count c) i k) ∙ sample_at d c bytes (i + 1) k p few is

  pub weighed_row : (i : ℕ) → i < w
      → pixel_in d c row i ≡ weighed c (weights a b) (map value (places (tap 0 t) (x +ℤ pos i) (1 + extra a) y (1 + extra b)))
  weighed_row i less =
      let z = x +ℤ pos i in
      let on : x +ℤ pos (i + 1) ≡ z +ℤ pos 1 = omega (arith, ints) in
      pixel_of_samples d c row i (λ k. in_units (weighted (weights a b) (map (λ p. nth p k) (map value (places (tap 0 t) z (1 + extra a) y (1 + extra b))))))
      (λ k few.
      let p = sample_at d c low i k (value (tap 0 t z y)) few (lows i (omega (arith, less))) in
      let q = sample_at d c high i k (value (tap 0 t z (y +ℤ pos 1))) few (highs i (omega (arith, less))) in
      let r = next_pixel low i k (value (tap 0 t (z +ℤ pos 1) y)) few (lows (i + 1) (omega (arith, less)) ∙ ap (λ j. value (tap 0 t j y)) on) in
      let s = next_pixel high i k (value (tap 0 t (z +ℤ pos 1) (y +ℤ pos 1))) few (highs (i + 1) (omega (arith, less)) ∙ ap (λ j. value (tap 0 t j (y +ℤ pos 1))) on) in
      made (k + count c * i) (sample_low c w i k less few)
      ∙ rw (p, q, r, s) (four_are a b t value k z y))
