-- The pixels of an image, by the bytes of its rows.
use Rattle.std.proofs.Common.{◌≡◌, ◌≤◌, ◌<◌, inl, inr, ℕ, ◌+◌, ◌*◌, ◌/◌, ◌^◌, ℤ, pos, negsuc, ◌+ℤ◌, ◌-ℤ◌, ◌≤ℤ◌, ◌<ℤ◌, Bool, true, false, replicate, slice_index, take, drop, refl, sym, ap, arith, ◌∙◌, FitsSigned, w64, to_z, of_z, List}
use Rattle.std.specs.Int.{int_gap}
use Rattle.std.proofs.lemmas.Int.{ints, to_z-of_z}
use Rattle.std.proofs.lemmas.List.{places}
use Rattle.std.proofs.Math.Nat.{mul-le-mul_right, mul_assoc}
use Rattle.fx_base.specs.Bounds.{Bounds, IsRect}
use Rattle.fx_base.specs.Rect.{within, IsWithin, IsNear, columns, rows}
use Rattle.fx_pixel.specs.declared.Depth.{Depth}
use Rattle.fx_pixel.specs.declared.Depth.TheVariants.{Byte, Short}
use Rattle.fx_pixel.specs.declared.Components.{Components}
use Rattle.fx_pixel.specs.declared.Components.TheVariants as components
use Rattle.fx_pixel.specs.Pixel.{zero, components_of, IsOfDepth}
use Rattle.fx_image.specs.Image.{PixelsFit}
use Rattle.fx_image.specs.Rows.{row_of, block_of, start_of, AreBytes}
use Rattle.fx_image.specs.Stored.{Stored, IsStored, image_of, pixel_size, pixel_in, shown}
use Rattle.fx_image.specs.Runs.{IsRun, place_of, bytes_of, run_of, ShowsPixels, ShowsRows}
use Rattle.fx_image.proofs.RowsLaws.{rows_apart}
use Rattle.fx_image.proofs.PixelLaws.{pixel_of_run, pixel_fits, pixel_components, run_of_bytes}

-- how far one number lies behind another
pub gap_is : (a b : ℤ) → a ≤ℤ b → a +ℤ pos (int_gap a b) ≡ b
gap_is (pos a) (pos b) h = omega (arith, ints)
gap_is (pos a) (negsuc b) h = omega (arith, ints)
gap_is (negsuc a) (pos b) h = omega (arith, ints)
gap_is (negsuc a) (negsuc b) h = omega (arith, ints)

pub gap_below : (a b c : ℤ) → a ≤ℤ b → b <ℤ c → int_gap a b < int_gap a c
gap_below a b c h k = omega (arith, ints, gap_is a b h, gap_is a c (omega (arith, ints)))

pub gap_up_to : (a b c : ℤ) → a ≤ℤ b → b ≤ℤ c → int_gap a b ≤ int_gap a c
gap_up_to a b c h k = omega (arith, ints, gap_is a b h, gap_is a c (omega (arith, ints)))

pub gap_split : (a b c : ℤ) → a ≤ℤ b → b ≤ℤ c → int_gap a c ≡ int_gap a b + int_gap b c
gap_split a b c h k = omega (arith, ints, gap_is a b h, gap_is b c k, gap_is a c (omega (arith, ints)))

-- a place in a rectangle, by its bounds
pub record IsPlace (r : Bounds) (x y : ℤ) : Type 0 where
  pub left : r.x1 ≤ℤ x
  pub right : x <ℤ r.x2
  pub bottom : r.y1 ≤ℤ y
  pub top : y <ℤ r.y2

pub place_from : (r : Bounds) (x y : ℤ) → within r x y ≡ true → IsPlace r x y
place_from r x y h = record { left = grind (arith, ints); right = grind (arith, ints); bottom = grind (arith, ints); top = grind (arith, ints) }

pub place_to : (r : Bounds) (x y : ℤ) → r.x1 ≤ℤ x → x <ℤ r.x2 → r.y1 ≤ℤ y → y <ℤ r.y2 → within r x y ≡ true
place_to r x y left right bottom top = grind (arith, ints)

zero_sample : (n i : ℕ) → slice_index (replicate n 0) i ≡ 0
zero_sample n i = grind (arith, places)

zero_short : (n i j : ℕ) → 256 * slice_index (replicate n 0) i + slice_index (replicate n 0) j ≡ 0
zero_short n i j = omega (arith, zero_sample n i, zero_sample n j)

-- the pixels of a row of zeros
zero_pixel : (depth : Depth) (c : Components) (n i : ℕ) → pixel_in depth c (replicate n 0) i ≡ zero c
zero_pixel Byte components.Rgba n i = rw (zero_sample n (4 * i), zero_sample n (4 * i + 1), zero_sample n (4 * i + 2), zero_sample n (4 * i + 3)) refl
zero_pixel Byte components.Alpha n i = rw (zero_sample n i) refl
zero_pixel Short components.Rgba n i =
    rw (zero_short n (2 * (4 * i)) (2 * (4 * i) + 1), zero_short n (2 * (4 * i + 1)) (2 * (4 * i + 1) + 1), zero_short n (2 * (4 * i + 2)) (2 * (4 * i + 2) + 1), zero_short n (2 * (4 * i + 3)) (2 * (4 * i + 3) + 1)) refl
zero_pixel Short components.Alpha n i = rw (zero_short n (2 * i) (2 * i + 1)) refl

-- an image of rows of zeros shows zero
pub zeros_shown : (s : Stored) → ((y : ℕ) → y < rows s.rect → row_of s.raster y ≡ replicate s.raster.pitch 0) → (x y : ℤ) → shown s x y ≡ zero s.components
zeros_shown s none x y = go (within s.rect x y) refl
  where
    go : (b : Bool) → within s.rect x y ≡ b → shown s x y ≡ zero s.components
    go false is = rw is refl
    go true is =
        let place = place_from s.rect x y is in
        let low : int_gap s.rect.y1 y < rows s.rect = gap_below s.rect.y1 y s.rect.y2 place.bottom place.top in
        rw (is, none (int_gap s.rect.y1 y) low) (zero_pixel s.depth s.components s.raster.pitch (int_gap s.rect.x1 x))

-- an image whose rows follow one another shows them
pub rows_shown : (s : Stored) (bytes : List ℕ) → s.raster.pitch ≡ columns s.rect * pixel_size s.depth s.components
    → ((y : ℕ) → y < rows s.rect → row_of s.raster y ≡ take s.raster.pitch (drop (y * s.raster.pitch) bytes)) → ShowsRows s bytes
rows_shown s bytes narrow each x y inside =
    let place = place_from s.rect x y inside in
    let r = int_gap s.rect.y1 y in
    let i = int_gap s.rect.x1 x in
    let n = columns s.rect in
    let size = pixel_size s.depth s.components in
    let row = each r (gap_below s.rect.y1 y s.rect.y2 place.bottom place.top) in
    let room : i * size + size ≤ n * size = rows_apart i n size (gap_below s.rect.x1 x s.rect.x2 place.left place.right) in
    let from : r * (n * size) ≡ (r * n) * size = sym (mul_assoc r n size) in
    let whole : row_of s.raster r ≡ take (n * size) (drop ((r * n) * size) bytes) = row ∙ ap (λ p. take p (drop (r * p) bytes)) narrow ∙ ap (λ k. take (n * size) (drop k bytes)) from in
    rw (inside, whole) (pixel_of_run s.depth s.components bytes (n * size) (r * n) i room)

pub run_here : (s : Stored) (x y : ℤ) → within s.rect x y ≡ true → IsRun s x y 1
run_here s x y h =
    let place = place_from s.rect x y h in
    record { from_bottom = place.bottom; to_top = place.top; from_left = place.left; to_right = omega (arith, ints) }

-- a run ends within its row
pub run_fits : (s : Stored) (x y : ℤ) (n : ℕ) → IsStored s → IsRun s x y n → place_of s x + n * pixel_size s.depth s.components ≤ s.raster.pitch
run_fits s x y n is run =
    let left = gap_is s.rect.x1 x run.from_left in
    let whole = gap_is s.rect.x1 s.rect.x2 (omega (arith, ints, run.from_left, run.to_right)) in
    let high : int_gap s.rect.x1 x + n ≤ columns s.rect = omega (arith, ints, left, whole, run.to_right) in
    omega (arith, mul-le-mul_right (pixel_size s.depth s.components) high, is.row_fits)

pub row_there : (s : Stored) (x y : ℤ) (n : ℕ) → IsStored s → IsRun s x y n → int_gap s.rect.y1 y < s.raster.height
row_there s x y n is run = rw is.row_count (gap_below s.rect.y1 y s.rect.y2 run.from_bottom run.to_top)

-- the pixels of a run are the image's
pub run_shown : (s : Stored) (x y : ℤ) (n i : ℕ) → IsRun s x y n → i < n → pixel_in s.depth s.components (run_of s x y n) i ≡ shown s (x +ℤ pos i) y
run_shown s x y n i run low =
    let left = gap_is s.rect.x1 x run.from_left in
    let right = gap_is s.rect.x1 (x +ℤ pos i) (omega (arith, ints, run.from_left)) in
    let column : int_gap s.rect.x1 x + i ≡ int_gap s.rect.x1 (x +ℤ pos i) = omega (arith, ints, left, right) in
    let room : i * pixel_size s.depth s.components + pixel_size s.depth s.components ≤ n * pixel_size s.depth s.components = rows_apart i n (pixel_size s.depth s.components) low in
    let inside = place_to s.rect (x +ℤ pos i) y (omega (arith, ints, run.from_left)) (omega (arith, ints, run.to_right)) run.from_bottom run.to_top in
    pixel_of_run s.depth s.components (bytes_of s y) (n * pixel_size s.depth s.components) (int_gap s.rect.x1 x) i room ∙ ap (pixel_in s.depth s.components (bytes_of s y)) column ∙ rw inside refl

-- a rectangle with a row y, within another
pub record IsInside (r s : Bounds) (y : ℤ) : Type 0 where
  pub left : s.x1 ≤ℤ r.x1
  pub wide : r.x1 <ℤ r.x2
  pub right : r.x2 ≤ℤ s.x2
  pub bottom : s.y1 ≤ℤ r.y1
  pub top : r.y2 ≤ℤ s.y2
  pub above : s.y1 ≤ℤ y
  pub below : y <ℤ s.y2

has_columns : (r : Bounds) (y : ℤ) → IsRect r → r.y1 ≤ℤ y → y <ℤ r.y2 → r.x1 <ℤ r.x2
has_columns r y (inl is) above below = let low = ap (λ (b : Bounds). b.y1) is in let high = ap (λ (b : Bounds). b.y2) is in absurd (omega (arith, ints))
has_columns r y (inr is) above below = is.0

pub inside_from : (r s : Bounds) (y : ℤ) → IsRect r → IsWithin r s → r.y1 ≤ℤ y → y <ℤ r.y2 → IsInside r s y
inside_from r s y is within_s above below =
    let wide = has_columns r y is above below in
    let low = place_from s r.x1 r.y1 (within_s r.x1 r.y1 (place_to r r.x1 r.y1 (omega (arith, ints)) wide (omega (arith, ints)) (omega (arith, ints)))) in
    let high = place_from s (r.x2 -ℤ pos 1) (r.y2 -ℤ pos 1) (within_s (r.x2 -ℤ pos 1) (r.y2 -ℤ pos 1) (place_to r (r.x2 -ℤ pos 1) (r.y2 -ℤ pos 1) (omega (arith, ints)) (omega (arith, ints)) (omega (arith, ints)) (omega (arith, ints)))) in
    record {
      left = low.left;
      wide = wide;
      right = omega (arith, ints, high.right);
      bottom = low.bottom;
      top = omega (arith, ints, high.top);
      above = omega (arith, ints, low.bottom);
      below = omega (arith, ints, high.top);
    }

pub near_inside : (r s : Bounds) (y : ℤ) → IsInside r s y → IsNear s → r.y1 ≤ℤ y → y <ℤ r.y2 → IsNear r
near_inside r s y there near above below =
    record {
      left = omega (arith, ints, there.left, near.left);
      right = omega (arith, ints, there.right, near.right);
      bottom = omega (arith, ints, there.bottom, near.bottom);
      top = omega (arith, ints, there.top, near.top);
    }

-- a rectangle within a near one is near
pub near_within : (r s : Bounds) → IsRect r → IsWithin r s → IsNear s → IsNear r
near_within r s (inl is) within_s near = rw is (record { left = omega (arith, ints); right = omega (arith, ints); bottom = omega (arith, ints); top = omega (arith, ints) })
near_within r s (inr is) within_s near =
    let low : r.y1 ≤ℤ r.y1 = omega (arith, ints) in
    near_inside r s r.y1 (inside_from r s r.y1 (inr is) within_s low is.1) near low is.1

-- a row of a rectangle has no more bytes than a row of the image
pub row_is_small : (s : Stored) (r : Bounds) → IsStored s → IsRect r → IsWithin r s.rect → columns r * pixel_size s.depth s.components < 2 ^ 32
row_is_small s r stored (inl is) within_s = rw is (omega arith)
row_is_small s r stored (inr is) within_s =
    let low : r.y1 ≤ℤ r.y1 = omega (arith, ints) in
    let there = inside_from r s.rect r.y1 (inr is) within_s low is.1 in
    let whole = gap_is r.x1 r.x2 (omega (arith, ints, there.wide)) in
    let all = gap_is s.rect.x1 s.rect.x2 (omega (arith, ints, there.left, there.wide, there.right)) in
    let few : columns r ≤ columns s.rect = omega (arith, ints, whole, all, there.left, there.right) in
    omega (arith, mul-le-mul_right (pixel_size s.depth s.components) few, stored.row_fits, stored.narrow)

pub row_run : (s : Stored) (r : Bounds) (y : ℤ) → IsInside r s.rect y → IsRun s r.x1 y (columns r)
row_run s r y there =
    let whole = gap_is r.x1 r.x2 (omega (arith, ints, there.wide)) in
    record { from_bottom = there.above; to_top = there.below; from_left = there.left; to_right = omega (arith, ints, whole, there.right) }

pub fits_near : (x : ℤ) → negsuc 1073741823 ≤ℤ x → x ≤ℤ pos 1073741824 → FitsSigned w64 x
fits_near x low high = grind (arith, ints)

-- the pixels of a row of a rectangle are the image's
pub row_shown : (s : Stored) (r : Bounds) (y : ℤ) → IsInside r s.rect y → (x : ℤ) → within r x y ≡ true → pixel_in s.depth s.components (run_of s r.x1 y (columns r)) (int_gap r.x1 x) ≡ shown s x y
row_shown s r y there x inside =
    let place = place_from r x y inside in
    let here = gap_is r.x1 x place.left in
    run_shown s r.x1 y (columns r) (int_gap r.x1 x) (row_run s r y there) (gap_below r.x1 x r.x2 place.left place.right) ∙ ap (λ column. shown s column y) here

-- row y of a rectangle within an image, as the code reads it: x is the rectangle's left column
module _ (s : Stored) (r : Bounds) (y x : ℤ) (stored : IsStored s) (is : IsRect r) (inside : IsWithin r s.rect) (above : r.y1 ≤ℤ y) (below : y <ℤ r.y2) (x_is : x ≡ r.x1) where
  there : IsInside r s.rect y
  there = inside_from r s.rect y is inside above below

  -- the left column
  pub left_column : to_z w64 (of_z w64 x) ≡ r.x1
  left_column =
      let near = near_inside r s.rect y there stored.near above below in
      ap (λ z. to_z w64 (of_z w64 z)) x_is ∙ to_z-of_z w64 r.x1 (fits_near r.x1 near.left (omega (arith, ints, there.wide, near.right)))

  pub row_of_rect : (n : ℕ) → n ≡ columns r → FitsSigned w64 y → IsRun s (to_z w64 (of_z w64 x)) (to_z w64 (of_z w64 y)) n
  row_of_rect n few fy = rw (left_column, to_z-of_z w64 y fy, few) (row_run s r y there)

  pub shows_pixels : (n : ℕ) (bytes : List ℕ) → n ≡ columns r → FitsSigned w64 y → bytes ≡ run_of s (to_z w64 (of_z w64 x)) (to_z w64 (of_z w64 y)) n → ShowsPixels s r y bytes
  shows_pixels n bytes few fy run z held =
      let value = rw (left_column, to_z-of_z w64 y fy, few) at run in
      ap (λ ws. pixel_in s.depth s.components ws (int_gap r.x1 z)) value ∙ row_shown s r y there z held

zero_fits : (depth : Depth) (c : Components) → IsOfDepth depth (zero c)
zero_fits Byte components.Rgba = (omega arith, omega arith, omega arith, omega arith)
zero_fits Short components.Rgba = (omega arith, omega arith, omega arith, omega arith)
zero_fits Byte components.Alpha = omega arith
zero_fits Short components.Alpha = omega arith

zero_components : (c : Components) → components_of (zero c) ≡ c
zero_components components.Rgba = refl
zero_components components.Alpha = refl

module _ (s : Stored) (bytes : AreBytes s.raster.blocks) where
  row_bytes : (y : ℤ) (j : ℕ) → slice_index (bytes_of s y) j < 256
  row_bytes y = let k = int_gap s.rect.y1 y in run_of_bytes (block_of s.raster k) (start_of s.raster k) s.raster.pitch (bytes (k / s.raster.step))

  shown_fits : (x y : ℤ) (b : Bool) → within s.rect x y ≡ b → IsOfDepth s.depth (shown s x y)
  shown_fits x y true is = rw is (pixel_fits s.depth s.components (bytes_of s y) (int_gap s.rect.x1 x) (row_bytes y))
  shown_fits x y false is = rw is (zero_fits s.depth s.components)

  shown_components : (x y : ℤ) (b : Bool) → within s.rect x y ≡ b → components_of (shown s x y) ≡ s.components
  shown_components x y true is = rw is (pixel_components s.depth s.components (bytes_of s y) (int_gap s.rect.x1 x))
  shown_components x y false is = rw is (zero_components s.components)

  -- the pixels of an image whose rows are of bytes
  pub all_fit : PixelsFit (image_of s)
  all_fit = record { depth = λ x y. shown_fits x y (within s.rect x y) refl; components = λ x y. shown_components x y (within s.rect x y) refl }
