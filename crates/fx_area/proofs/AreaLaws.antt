-- Pixels of an area, row after row.
use Rattle.std.proofs.Common.{◌≡◌, ◌≤◌, ◌<◌, ◌⊎◌, ◌∙◌, inl, inr, ℕ, ◌+◌, ◌*◌, ℤ, pos, negsuc, ◌+ℤ◌, ◌≤ℤ◌, ◌<ℤ◌, List, ◌++◌, length, take, ap, sym, subst, arith, w64, Fits, FitsSigned}
use Rattle.std.specs.Int.{int_gap}
use Rattle.std.proofs.Math.Nat.{mul-le-mul, mul-le-mul_left, mul-le-mul_right}
use Rattle.std.proofs.Math.Seq.{take-append_seam}
use Rattle.std.proofs.lemmas.Bool.{cases_lt}
use Rattle.std.proofs.lemmas.Int.{ints}
use Rattle.fx_base.specs.Bounds.{Bounds, IsRect}
use Rattle.fx_base.specs.Rect.{columns, rows, IsNear}
use Rattle.fx_base.proofs.RectLaws.{gap_is}
use Rattle.fx_pixel.specs.declared.Depth.{Depth}
use Rattle.fx_pixel.specs.declared.Components.{Components}
use Rattle.fx_image.specs.Stored.{pixel_in}
use Rattle.fx_effect.specs.Given.{Given, row_pixel}
use Rattle.fx_area.specs.Gathered.{IsProperArea, ShowsArea}

-- an earlier row lies before a later one
row_before : (w i j n : ℕ) → i < w → j < n → j * w + i < n * w
row_before w i j n low less = let p : (j + 1) * w ≤ n * w = mul-le-mul_right w (omega (arith, less)) in omega (arith, p, low)

-- one row more
pub area_more : (given : Given) (frame : ℤ) (d : Depth) (c : Components) (area : Bounds) (w n : ℕ) (line old new : List ℕ)
    → w ≡ columns area → ShowsArea given frame d c area n old
    → ((i : ℕ) → i < w → pixel_in d c line i ≡ row_pixel given 0 frame (area.x1 +ℤ pos i) (area.y1 +ℤ pos n))
    → ((i : ℕ) → i < w → pixel_in d c new (n * w + i) ≡ pixel_in d c line i)
    → ((j : ℕ) → (j < n * w) ⊎ (n * w + w ≤ j) → pixel_in d c new j ≡ pixel_in d c old j)
    → ShowsArea given frame d c area (n + 1) new
area_more given frame d c area w n line old new wide shows read copied others i j low less =
    let narrow : i < w = omega (arith, wide, low) in
    let place : j * columns area + i ≡ j * w + i = ap (λ k. j * k + i) (sym wide) in
    ap (pixel_in d c new) place ∙ go narrow place (cases_lt j n)
  where
    go : i < w → j * columns area + i ≡ j * w + i → (j < n) ⊎ (n ≤ j)
        → pixel_in d c new (j * w + i) ≡ row_pixel given 0 frame (area.x1 +ℤ pos i) (area.y1 +ℤ pos j)
    go narrow place (inl before) =
        others (j * w + i) (inl (row_before w i j n narrow before))
        ∙ ap (pixel_in d c old) (sym place) ∙ shows i j low before
    go narrow place (inr last) =
        let is : j ≡ n = omega (arith, last, less) in
        ap (λ k. pixel_in d c new (k * w + i)) is ∙ copied i narrow ∙ read i narrow
        ∙ ap (λ k. row_pixel given 0 frame (area.x1 +ℤ pos i) (area.y1 +ℤ pos k)) (sym is)

-- a row has room
pub row_fits : (j w h size : ℕ) → j < h → (j * w + w) * size ≤ h * w * size
row_fits j w h size less =
    let p : (j + 1) * w ≤ h * w = mul-le-mul_right w (omega (arith, less)) in
    let q = mul-le-mul_right size p in
    omega (arith, q)

-- the windows have room
pub tall_room : (w h r step : ℕ) → 2 * r + 1 ≤ h → w * step * (2 * r + 1) ≤ h * w * step
tall_room w h r step many = let p = mul-le-mul_left (w * step) many in omega (arith, p)

pub wide_room : (w h r step : ℕ) → 2 * r + 1 ≤ w → 0 < h → step * (2 * r + 1) ≤ h * w * step
wide_room w h r step many some =
    let p : 1 * w ≤ h * w = mul-le-mul_right w (omega (arith, some)) in
    let q : (2 * r + 1) ≤ h * w = omega (arith, p, many) in
    let s = mul-le-mul_left step q in
    omega (arith, s)

-- ---- areas that aren't too great

pub product_fits : (m n : ℕ) → m ≤ 2147483776 → n ≤ 2147483776 → Fits w64 (m * n)
product_fits m n p q = let s : m * n ≤ 2147483776 * 2147483776 = mul-le-mul p q in omega (arith, s)

pub fits_far : (x : ℤ) → negsuc 4294967295 ≤ℤ x → x ≤ℤ pos 4294967296 → FitsSigned w64 x
fits_far x low high = grind (arith, ints)

pub record HasSides (area : Bounds) : Type 0 where
  pub some_columns : 0 < columns area
  pub few_columns : columns area ≤ 2147483776
  pub some_rows : 0 < rows area
  pub few_rows : rows area ≤ 2147483776

pub sides_of : (area : Bounds) → IsProperArea area → HasSides area
sides_of area is =
    let p = gap_is area.x1 area.x2 (omega (arith, ints, is.wide)) in
    let q = gap_is area.y1 area.y2 (omega (arith, ints, is.high)) in
    let left = is.near.left.0 in
    let right = is.near.right.1 in
    let bottom = is.near.bottom.0 in
    let top = is.near.top.1 in
    record {
      some_columns = omega (arith, ints, p, is.wide);
      few_columns = omega (arith, ints, p, left, right);
      some_rows = omega (arith, ints, q, is.high);
      few_rows = omega (arith, ints, q, bottom, top);
    }

-- row j of it
pub level_far : (area : Bounds) (y : ℤ) (j : ℕ) → IsProperArea area → y ≡ area.y1 → j < rows area
    → (negsuc 1073741888 ≤ℤ (y +ℤ pos j)) × ((y +ℤ pos j) ≤ℤ pos 1073741888)
level_far area y j is low less =
    let q = gap_is area.y1 area.y2 (omega (arith, ints, is.high)) in
    let bottom = is.near.bottom.0 in
    let top = is.near.top.1 in
    (omega (arith, ints, low, bottom), omega (arith, ints, low, q, top, less))

-- ---- rows that begin those of an area

pub row_wide : (r : Bounds) (y : ℤ) → IsRect r → r.y1 ≤ℤ y → y <ℤ r.y2 → r.x1 <ℤ r.x2
row_wide r y (inl is) above below =
    absurd (omega (arith, ints, ap (λ (b : Bounds). b.y1) is, ap (λ (b : Bounds). b.y2) is, above, below))
row_wide r y (inr proper) above below = proper.0

pub near_rows : (r : Bounds) (y : ℤ) → IsNear r → r.y1 ≤ℤ y → y <ℤ r.y2
    → (int_gap r.y1 y < rows r) × (int_gap r.y1 y ≤ 2147483776)
near_rows r y near above below =
    let p = gap_is r.y1 y above in
    let q = gap_is r.y1 r.y2 (omega (arith, ints, above, below)) in
    let bottom = near.bottom in
    let top = near.top in
    (omega (arith, ints, p, q, below), omega (arith, ints, p, bottom, top, below))

pub copy_room : (j w h size long count : ℕ) → j < h → long ≤ w * size → h * w * size ≤ count
    → j * w * size + long ≤ count
copy_room j w h size long count less few room =
    let p : (j + 1) * w ≤ h * w = mul-le-mul_right w (omega (arith, less)) in
    let q = mul-le-mul_right size p in
    omega (arith, q, few, room)

pub row_few : (n w size long : ℕ) → long ≡ n * size → n ≤ w → long ≤ w * size
row_few n w size long is few = rw is (mul-le-mul_right size few)

pub pixel_fits : (i n size long : ℕ) → long ≡ n * size → i < n → i * size + size ≤ long
pixel_fits i n size long is low = rw is (let p : (i + 1) * size ≤ n * size = mul-le-mul_right size (omega (arith, low)) in omega (arith, p))

-- ---- how many bytes an area has

pub counted : (long count a b c h w s : ℕ) → long ≡ count → count ≡ a * (b * c) → a ≡ h → b ≡ w → c ≡ s
    → long ≡ h * w * s
counted long count a b c h w s p q x y z = p ∙ q ∙ rw (x, y, z) (omega arith)

pub take_all : (n : ℕ) (xs ys : List ℕ) → length xs ≡ n → take n (xs ++ ys) ≡ xs
take_all n xs ys is = subst (λ k. take k (xs ++ ys) ≡ xs) is (take-append_seam xs ys)

pub rows_fit : (h more w size : ℕ) → h ≤ more → h * w * size ≤ more * w * size
rows_fit h more w size few =
    let p : h * w ≤ more * w = mul-le-mul_right w few in
    mul-le-mul_right size p
