-- What every effect keeps, of ramp.
use Rattle.std.specs.Prelude.{◌≡◌, ◌≤◌, ◌<◌, ◌≢◌, ℕ, ◌-◌, ◌*◌, ◌==◌, min, ℤ, pos, negsuc, Bool, true, false, if◌then◌else◌, refl}
use Rattle.std.specs.Ordering.{int_eq}
use Rattle.std.proofs.Common.{arith}
use Rattle.fx_pixel.specs.Pixel.{greatest}
use Rattle.fx_effect.specs.Numbers.{number}
use Rattle.fx_effect.specs.Laws.{Laws}
use Rattle.fx_effect.specs.Generator.{generator_laws}
use Rattle.fx_effect.specs.ShapeTests.{shape_is}
use Rattle.fx_effect.specs.declared.values.Values.{Values}
use Rattle.fx_gen.specs.Grey.{grey_of_depth, grey_components}
use Rattle.fx_gen.specs.Ramp.{shade, ramp_shade, ramp_pixel, ramp_shape, ramp}

least_bound : (one : Bool) (m n : ℕ) → (if one then 0 else min m n) ≤ m
least_bound true m n = omega arith
least_bound false m n = omega arith

shade_bound : (m : ℕ) (side place : ℤ) → shade m side place ≤ m
shade_bound m (pos side) (pos place) = least_bound (side == 1) m _
shade_bound m (pos side) (negsuc place) = omega arith
shade_bound m (negsuc side) (pos place) = omega arith
shade_bound m (negsuc side) (negsuc place) = omega arith

one_bound : (along : Bool) (m a b : ℕ) → a ≤ m → b ≤ m → (if along then a else b) ≤ m
one_bound true m a b low few = low
one_bound false m a b low few = few

pub ramp_laws : Laws ramp
ramp_laws =
    generator_laws ramp_shape ramp_pixel (shape_is ramp_shape refl) refl (record {
      depth = λ context v depth c x y lawful supported.
          let m = greatest depth in
          grey_of_depth depth c (ramp_shade v m x y)
          (one_bound (int_eq (number v 0) (pos 0)) m _ _ (shade_bound m v.project.x2 x) (shade_bound m v.project.y2 y));
      components = λ v m c x y. grey_components c m _;
    })
