-- The rows of a small window have room in an image's.
use Rattle.std.proofs.Common.{◌≤◌, ◌*◌, ℤ, pos, negsuc, ◌≤ℤ◌, arith}
use Rattle.std.specs.Int.{int_gap}
use Rattle.std.proofs.lemmas.Int.{ints}
use Rattle.fx_base.specs.Bounds.{Bounds}
use Rattle.fx_base.specs.Rect.{columns}
use Rattle.fx_pixel.specs.declared.Depth.{Depth}
use Rattle.fx_pixel.specs.declared.Depth.TheVariants.{Byte, Short}
use Rattle.fx_pixel.specs.declared.Components.{Components}
use Rattle.fx_pixel.specs.declared.Components.TheVariants.{Rgba, Alpha}
use Rattle.fx_image.specs.Stored.{pixel_size}
use Rattle.fx_rows_effects.specs.Asked.{IsSmallWindow}

few_between : (a b : ℤ) → negsuc 63 ≤ℤ a → b ≤ℤ pos 64 → int_gap a b ≤ 128
few_between (pos a) (pos b) left right = omega (arith, ints, right)
few_between (pos a) (negsuc b) left right = omega arith
few_between (negsuc a) (pos b) left right = omega (arith, ints, left, right)
few_between (negsuc a) (negsuc b) left right = omega (arith, ints, left)

pub small_row : (r : Bounds) (depth : Depth) (c : Components) → IsSmallWindow r → columns r * pixel_size depth c ≤ 1024
small_row r Byte Rgba is = let few = few_between r.x1 r.x2 is.left is.right in omega (arith, few)
small_row r Byte Alpha is = let few = few_between r.x1 r.x2 is.left is.right in omega (arith, few)
small_row r Short Rgba is = let few = few_between r.x1 r.x2 is.left is.right in omega (arith, few)
small_row r Short Alpha is = let few = few_between r.x1 r.x2 is.left is.right in omega (arith, few)
