-- What every effect keeps, of checker.
use Rattle.std.specs.Prelude.{◌≤◌, ℕ, ℤ, pos, ◌≤ℤ◌, Bool, true, false, [], if◌then◌else◌, refl}
use Rattle.std.proofs.Common.{arith}
use Rattle.fx_pixel.specs.declared.Depth.{Depth}
use Rattle.fx_pixel.specs.declared.Components.{Components}
use Rattle.fx_pixel.specs.Pixel.{greatest, IsOfDepth}
use Rattle.fx_effect.specs.Shape.{IsLawfulIn}
use Rattle.fx_effect.specs.Numbers.{number}
use Rattle.fx_effect.specs.NumberLaws.{number_between}
use Rattle.fx_effect.specs.Laws.{Laws}
use Rattle.fx_effect.specs.Generator.{generator_laws}
use Rattle.fx_effect.specs.ShapeTests.{shape_is}
use Rattle.fx_effect.specs.declared.action.Context.{Context}
use Rattle.fx_effect.specs.declared.values.Values.{Values}
use Rattle.fx_gen.specs.Solid.{scale, level}
use Rattle.fx_gen.specs.SolidLaws.{scale_bound}
use Rattle.fx_gen.specs.Grey.{grey_of_depth, grey_components}
use Rattle.fx_gen.specs.Checker.{is_even, checker_pixel, checker_params, checker_shape, checker}

light_bound : (context : Context) (v : Values) (depth : Depth) → IsLawfulIn checker_shape context v
    → scale (greatest depth) (number v 1) ≤ greatest depth
light_bound context v depth lawful =
    scale_bound (greatest depth) (number v 1)
    (number_between checker_params v 1 (level [] (pos 0)) lawful.numbers (omega arith)).below

either_bound : (even : Bool) (n m : ℕ) → n ≤ m → (if even then n else 0) ≤ m
either_bound true n m few = few
either_bound false n m few = omega arith

pub checker_laws : Laws checker
checker_laws =
    generator_laws checker_shape checker_pixel (shape_is checker_shape refl) refl (record {
      depth = λ context v depth c x y lawful supported.
          let light = light_bound context v depth lawful in
          grey_of_depth depth c _ (either_bound (is_even (number v 0) x y) _ (greatest depth) light);
      components = λ v m c x y. grey_components c m _;
    })
