-- Places in a row.
use Rattle.std.proofs.Common.{◌≡◌, ◌≤◌, ◌<◌, ℕ, ◌+◌, ◌*◌, ◌/◌, ℤ, pos, negsuc, ◌+ℤ◌, ◌≤ℤ◌, arith, w64, to_z, FitsSigned}
use Rattle.std.specs.Int.{int_gap}
use Rattle.std.proofs.lemmas.Int.{ints}
use Rattle.fx_pixel.specs.declared.Depth.{Depth}
use Rattle.fx_pixel.specs.declared.Depth.TheVariants.{Byte, Short}
use Rattle.fx_pixel.specs.declared.Components.{Components}
use Rattle.fx_pixel.specs.declared.Components.TheVariants as components
use Rattle.fx_pixel.specs.Pixel.{size}
use Rattle.fx_image.specs.Stored.{pixel_size}
use Rattle.fx_image.proofs.ImageLaws.{fits_near}
use Rattle.fx_image.proofs.RowsLaws.{rows_apart}

-- the column of a pixel fits
pub left_fits : (x1 x2 left : ℤ) (i : ℕ) → negsuc 1073741823 ≤ℤ x1 → x2 ≤ℤ pos 1073741824 → left ≡ x1
    → x1 +ℤ pos (int_gap x1 x2) ≡ x2 → i < int_gap x1 x2 → FitsSigned w64 (left +ℤ to_z w64 i)
left_fits x1 x2 left i low high same whole below =
    let is : to_z w64 i ≡ pos i = omega (arith, ints) in
    let above : negsuc 1073741823 ≤ℤ (left +ℤ to_z w64 i) = omega (arith, ints) in
    let under : (left +ℤ to_z w64 i) ≤ℤ pos 1073741824 = omega (arith, ints) in
    fits_near (left +ℤ to_z w64 i) above under

-- a pixel of a row has room
pub pixel_room : (size i n long : ℕ) → i < n → long ≡ n * size → i * size + size ≤ long
pixel_room size i n long low is = rw is (rows_apart i n size low)

pub size_some : (d : Depth) (c : Components) → 0 < pixel_size d c
size_some Byte components.Rgba = omega arith
size_some Short components.Rgba = omega arith
size_some Byte components.Alpha = omega arith
size_some Short components.Alpha = omega arith

-- a sample that has room is one of the row
pub sample_below : (d : Depth) (s long m n : ℕ) → n ≡ size d → s * size d + size d ≤ long → long / n ≤ m → s < m
sample_below Byte s long m n is room few = let h = (rw is at few) in omega (arith, h, room)
sample_below Short s long m n is room few = let h = (rw is at few) in omega (arith, h, room)
