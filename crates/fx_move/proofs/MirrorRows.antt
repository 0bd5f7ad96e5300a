-- Rows of the mirrored rectangle.
use Rattle.std.proofs.Common.{◌≡◌, ◌<◌, ◌∙◌, ℕ, ◌-◌, ◌*◌, ◌/◌, ℤ, ◌-ℤ◌, ◌≤ℤ◌, ◌<ℤ◌, true, false, inl, inr, List, length, ap, refl, sym, subst, arith}
use Rattle.std.specs.Int.{int_gap}
use Rattle.std.proofs.Math.Nat.{mul-div_cancel}
use Rattle.std.proofs.lemmas.Int.{ints}
use Rattle.fx_base.specs.Bounds.{Bounds, IsRect}
use Rattle.fx_base.specs.Rect.{Holds, columns, rect_of}
use Rattle.fx_base.proofs.RectLaws.{gap_is}
use Rattle.fx_pixel.specs.declared.Depth.{Depth}
use Rattle.fx_pixel.specs.declared.Components.{Components}
use Rattle.fx_pixel.specs.declared.Pixel.{Pixel}
use Rattle.fx_image.specs.Stored.{pixel_size, pixel_in}
use Rattle.fx_image.proofs.ImageLaws.{place_from}
use Rattle.fx_effect.specs.Given.{Given, row_pixel}
use Rattle.fx_effect.specs.Meaning.{rendered}
use Rattle.fx_effect.specs.Rows.{IsLine, ShowsRow}
use Rattle.fx_effect.specs.declared.values.Values.{Values}
use Rattle.fx_move.specs.Mirror.{turns_columns, opposite, mirror_x, mirror_y, mirrored, mirror}
use Rattle.fx_move.specs.MirrorLaws.{in_mirrored}

-- a rectangle that has a row has a column
pub row_wide : (r : Bounds) (y : ℤ) → IsRect r → r.y1 ≤ℤ y → y <ℤ r.y2 → r.x1 <ℤ r.x2
row_wide r y (inl is) above below =
    let low = ap (λ b. b.y1) is in
    let high = ap (λ b. b.y2) is in
    absurd (omega (arith, ints))
row_wide r y (inr proper) above below = proper.0

pub rect_of-proper : (x1 y1 x2 y2 : ℤ) → x1 <ℤ x2 → y1 <ℤ y2 → rect_of x1 y1 x2 y2 ≡ record { x1 = x1; y1 = y1; x2 = x2; y2 = y2 }
rect_of-proper x1 y1 x2 y2 wide high = grind (arith, ints)

pub columns_turned : (v : Values) (r : Bounds) → turns_columns v ≡ true → r.x1 <ℤ r.x2 → r.y1 <ℤ r.y2
    → mirrored v r ≡ record { x1 = v.project.x2 -ℤ r.x2; y1 = r.y1; x2 = v.project.x2 -ℤ r.x1; y2 = r.y2 }
columns_turned v r is wide high =
    rw is (rect_of-proper (v.project.x2 -ℤ r.x2) r.y1 (v.project.x2 -ℤ r.x1) r.y2 (omega (arith, ints)) high)

pub rows_turned : (v : Values) (r : Bounds) → turns_columns v ≡ false → r.x1 <ℤ r.x2 → r.y1 <ℤ r.y2
    → mirrored v r ≡ record { x1 = r.x1; y1 = v.project.y2 -ℤ r.y2; x2 = r.x2; y2 = v.project.y2 -ℤ r.y1 }
rows_turned v r is wide high =
    rw is (rect_of-proper r.x1 (v.project.y2 -ℤ r.y2) r.x2 (v.project.y2 -ℤ r.y1) wide (omega (arith, ints)))

-- as many columns
pub gap_turned : (n a b : ℤ) → a <ℤ b → int_gap (n -ℤ b) (n -ℤ a) ≡ int_gap a b
gap_turned n a b wide =
    let p = gap_is a b (omega (arith, ints)) in
    let q = gap_is (n -ℤ b) (n -ℤ a) (omega (arith, ints)) in
    omega (arith, ints, p, q)

-- the column that a column reads, counted from the other side
pub opposite_gap : (n a b x : ℤ) → a ≤ℤ x → x <ℤ b → int_gap (n -ℤ b) (opposite n x) ≡ (int_gap a b - 1) - int_gap a x
opposite_gap n a b x left right =
    let p = gap_is a b (omega (arith, ints)) in
    let q = gap_is a x left in
    let r = gap_is (n -ℤ b) (opposite n x) (omega (arith, ints)) in
    omega (arith, ints, p, q, r)

-- how many pixels a row has
pub whole_count : (n size long : ℕ) → 0 < size → n * size ≡ long → long / size ≡ n
whole_count n size long some is = rw (← is) (mul-div_cancel n some)

-- ---- the rows that are read

module _ (v : Values) (d : Depth) (c : Components) (r : Bounds) (y : ℤ) (wide : r.x1 <ℤ r.x2) (above : r.y1 ≤ℤ y) (below : y <ℤ r.y2) where
  high : r.y1 <ℤ r.y2
  high = omega (arith, ints, above, below)

  pub turned_line : (bytes : List ℕ) → turns_columns v ≡ true → length bytes ≡ columns r * pixel_size d c → IsLine d c (mirrored v r) y bytes
  turned_line bytes test long =
      subst (λ b. IsLine d c b y bytes) (sym (columns_turned v r test wide high))
      (record { wide = omega (arith, ints, wide); above = above; below = below; long = long ∙ ap (λ n. n * pixel_size d c) (sym (gap_turned v.project.x2 r.x1 r.x2 wide)) })

  pub other_line : (bytes : List ℕ) → turns_columns v ≡ false → length bytes ≡ columns r * pixel_size d c → IsLine d c (mirrored v r) (opposite v.project.y2 y) bytes
  other_line bytes test long =
      subst (λ b. IsLine d c b (opposite v.project.y2 y) bytes) (sym (rows_turned v r test wide high))
      (record { wide = omega (arith, ints, wide); above = omega (arith, ints, below); below = omega (arith, ints, above); long = long })

  pub turned_pixel : (bytes : List ℕ) (f : ℤ → ℤ → Pixel) (x : ℤ) → turns_columns v ≡ true → Holds r x y → ShowsRow d c (mirrored v r) y f bytes
      → pixel_in d c bytes ((columns r - 1) - int_gap r.x1 x) ≡ f (opposite v.project.x2 x) y
  turned_pixel bytes f x test inside shows =
      let place = place_from r x y inside in
      let is = columns_turned v r test wide high in
      let across : mirror_x v x ≡ opposite v.project.x2 x = rw test refl in
      let level : mirror_y v y ≡ y = rw test refl in
      let held : Holds (mirrored v r) (opposite v.project.x2 x) y = subst (λ i. Holds (mirrored v r) i y) across (subst (λ j. Holds (mirrored v r) (mirror_x v x) j) level (in_mirrored v r x y inside)) in
      ap (pixel_in d c bytes) (sym (ap (λ (b : Bounds). int_gap b.x1 (opposite v.project.x2 x)) is ∙ opposite_gap v.project.x2 r.x1 r.x2 x place.left place.right))
      ∙ shows (opposite v.project.x2 x) held

  pub other_pixel : (bytes : List ℕ) (f : ℤ → ℤ → Pixel) (x : ℤ) → turns_columns v ≡ false → Holds r x y → ShowsRow d c (mirrored v r) (opposite v.project.y2 y) f bytes
      → pixel_in d c bytes (int_gap r.x1 x) ≡ f x (opposite v.project.y2 y)
  other_pixel bytes f x test inside shows =
      let is = rows_turned v r test wide high in
      let across : mirror_x v x ≡ x = rw test refl in
      let level : mirror_y v y ≡ opposite v.project.y2 y = rw test refl in
      let held : Holds (mirrored v r) x (opposite v.project.y2 y) = subst (λ i. Holds (mirrored v r) i (opposite v.project.y2 y)) across (subst (λ j. Holds (mirrored v r) (mirror_x v x) j) level (in_mirrored v r x y inside)) in
      ap (pixel_in d c bytes) (sym (ap (λ (b : Bounds). int_gap b.x1 x) is)) ∙ shows x held

  -- the pixel of the effect
  pub mirror_turned : (given : Given) (x : ℤ) → turns_columns v ≡ true → row_pixel given 0 v.frame (opposite v.project.x2 x) y ≡ rendered mirror v given d c x y
  mirror_turned given x test = rw test refl

  pub mirror_other : (given : Given) (x : ℤ) → turns_columns v ≡ false → row_pixel given 0 v.frame x (opposite v.project.y2 y) ≡ rendered mirror v given d c x y
  mirror_other given x test = rw test refl
