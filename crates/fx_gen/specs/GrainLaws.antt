-- What every effect keeps, of grain.
use Rattle.std.specs.Prelude.{◌≤◌, ◌<◌, ℕ, ◌+◌, ◌*◌, ◌/◌, ◌%◌, ℤ, pos, ◌≤ℤ◌, [], refl}
use Rattle.std.proofs.Common.{arith}
use Rattle.std.proofs.Math.Nat.{mul-le-mul_right}
use Rattle.std.proofs.lemmas.Nat.{mod_below}
use Rattle.fx_pixel.specs.declared.Depth.{Depth}
use Rattle.fx_pixel.specs.Pixel.{greatest}
use Rattle.fx_effect.specs.Shape.{IsLawfulIn}
use Rattle.fx_effect.specs.Numbers.{number}
use Rattle.fx_effect.specs.NumberLaws.{number_between}
use Rattle.fx_effect.specs.Laws.{Laws}
use Rattle.fx_effect.specs.Generator.{generator_laws}
use Rattle.fx_effect.specs.ShapeTests.{shape_is}
use Rattle.fx_effect.specs.declared.action.Context.{Context}
use Rattle.fx_effect.specs.declared.values.Values.{Values}
use Rattle.fx_gen.specs.Solid.{scale, level}
use Rattle.fx_gen.specs.SolidLaws.{scale_bound}
use Rattle.fx_gen.specs.Grey.{grey_of_depth, grey_components}
use Rattle.fx_gen.specs.Grain.{noise, squared, turned, mixed_in, grain_shade, grain_pixel, grain_params, grain_shape, grain}

pub noise_bound : (h : ℕ) → noise h ≤ 65535
noise_bound h =
    let g = turned (squared h) in
    let low : (g * (2 * g + 1)) % 4294967296 < 4294967296 = mod_below _ 4294967296 (omega arith) in
    omega (arith, low)

pub shade_bound : (n most : ℕ) → n ≤ 65535 → n * most / 65535 ≤ most
shade_bound n most few =
    let room : n * most ≤ 65535 * most = mul-le-mul_right most few in
    omega (arith, room)

amount_bound : (context : Context) (v : Values) (depth : Depth) → IsLawfulIn grain_shape context v
    → scale (greatest depth) (number v 1) ≤ greatest depth
amount_bound context v depth lawful =
    scale_bound (greatest depth) (number v 1)
    (number_between grain_params v 1 (level [] (pos 0)) lawful.numbers (omega arith)).below

bound_by : (n most m : ℕ) → n ≤ 65535 → most ≤ m → n * most / 65535 ≤ m
bound_by n most m few low = omega (arith, shade_bound n most few)

pub grain_laws : Laws grain
grain_laws =
    generator_laws grain_shape grain_pixel (shape_is grain_shape refl) refl (record {
      depth = λ context v depth c x y lawful supported.
          let most = scale (greatest depth) (number v 1) in
          let h = mixed_in (number v 0) x y v.frame in
          grey_of_depth depth c _
          (bound_by (noise h) most (greatest depth) (noise_bound h) (amount_bound context v depth lawful));
      components = λ v m c x y. grey_components c m _;
    })
