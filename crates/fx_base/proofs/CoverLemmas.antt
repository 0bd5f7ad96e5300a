-- Floors and ceilings of fixed-point numbers, by whole numbers.
use Rattle.std.proofs.Common.{ℤ, pos, negsuc, ◌+ℤ◌, ◌*ℤ◌, ◌≤ℤ◌, ◌<ℤ◌, neg_ℤ, arith}
use Rattle.std.specs.Int.{int_div_euclid}
use Rattle.std.proofs.lemmas.Int.{ints}
use Rattle.fx_base.specs.declared.fix.Fix.{Fix}
use Rattle.fx_base.specs.Rect.{floor, ceiling}

-- the floor of a quotient: at most it, and above one less
pub record IsFloor (a q : ℤ) : Type 0 where
  pub low : (q *ℤ pos 65536) ≤ℤ a
  pub high : a <ℤ ((q +ℤ pos 1) *ℤ pos 65536)

pub IsFloor-div : (a : ℤ) → IsFloor a (int_div_euclid a (pos 65536))
IsFloor-div (pos n) = record { low = omega (arith, ints); high = omega (arith, ints) }
IsFloor-div (negsuc n) = record { low = omega (arith, ints); high = omega (arith, ints) }

pub floor_low : (n : Fix) (x : ℤ) → floor n ≤ℤ x → n.raw <ℤ ((x +ℤ pos 1) *ℤ pos 65536)
floor_low n x le = let is = IsFloor-div n.raw in omega (arith, ints)

pub low_floor : (n : Fix) (x : ℤ) → n.raw <ℤ ((x +ℤ pos 1) *ℤ pos 65536) → floor n ≤ℤ x
low_floor n x lt = let is = IsFloor-div n.raw in omega (arith, ints)

pub ceiling_high : (n : Fix) (x : ℤ) → x <ℤ ceiling n → (x *ℤ pos 65536) <ℤ n.raw
ceiling_high n x lt = let is = IsFloor-div (neg_ℤ n.raw) in omega (arith, ints)

pub high_ceiling : (n : Fix) (x : ℤ) → (x *ℤ pos 65536) <ℤ n.raw → x <ℤ ceiling n
high_ceiling n x lt = let is = IsFloor-div (neg_ℤ n.raw) in omega (arith, ints)
