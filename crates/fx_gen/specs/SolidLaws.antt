-- What every effect keeps, of solid.
use Rattle.std.specs.Prelude.{◌≡◌, ◌≤◌, ◌<◌, ℕ, ◌*◌, ℤ, pos, negsuc, ◌≤ℤ◌, [], slice_index_or, refl}
use Rattle.std.proofs.Common.{arith, subst}
use Rattle.std.proofs.Math.Nat.{mul-le-mul_right}
use Rattle.std.proofs.lemmas.Int.{ints}
use Rattle.fx_pixel.specs.declared.Depth.{Depth}
use Rattle.fx_pixel.specs.declared.Components.{Components}
use Rattle.fx_pixel.specs.declared.Components.TheVariants as components
use Rattle.fx_pixel.specs.Pixel.{greatest, IsOfDepth, components_of}
use Rattle.fx_effect.specs.Shape.{IsLawfulIn}
use Rattle.fx_effect.specs.Numbers.{number}
use Rattle.fx_effect.specs.NumberLaws.{number_between}
use Rattle.fx_effect.specs.Laws.{Laws}
use Rattle.fx_effect.specs.Generator.{generator_laws}
use Rattle.fx_effect.specs.ShapeTests.{shape_is}
use Rattle.fx_effect.specs.declared.action.Context.{Context}
use Rattle.fx_effect.specs.declared.values.Values.{Values}
use Rattle.fx_gen.specs.Solid.{scale, colour, level, levels, solid_shape, solid}

pub scale_bound : (m : ℕ) (n : ℤ) → n ≤ℤ pos 65536 → scale m n ≤ m
scale_bound m (pos n) few =
    let most : n * m ≤ 65536 * m = mul-le-mul_right m (omega (arith, ints)) in
    omega (arith, most)
scale_bound m (negsuc n) few = omega arith

colour_of_depth : (context : Context) (v : Values) (depth : Depth) (c : Components)
    → IsLawfulIn solid_shape context v → IsOfDepth depth (colour v c (greatest depth))
colour_of_depth context v depth c lawful = go c
  where
    bound : (k : ℕ) → k < 4 → (slice_index_or levels k (level [] (pos 0))).greatest ≡ pos 65536
        → scale (greatest depth) (number v k) ≤ greatest depth
    bound k low is =
        scale_bound (greatest depth) (number v k)
        (subst (λ g. number v k ≤ℤ g) is
        (number_between levels v k (level [] (pos 0)) lawful.numbers low).below)

    go : (c : Components) → IsOfDepth depth (colour v c (greatest depth))
    go components.Rgba =
        (bound 0 (omega arith) refl, bound 1 (omega arith) refl, bound 2 (omega arith) refl, bound 3 (omega arith) refl)
    go components.Alpha = bound 3 (omega arith) refl

colour_components : (v : Values) (m : ℕ) (c : Components) → components_of (colour v c m) ≡ c
colour_components v m components.Rgba = refl
colour_components v m components.Alpha = refl

pub solid_laws : Laws solid
solid_laws =
    generator_laws solid_shape (λ v c m x y. colour v c m) (shape_is solid_shape refl) refl (record {
      depth = λ context v depth c x y lawful supported. colour_of_depth context v depth c lawful;
      components = λ v m c x y. colour_components v m c;
    })
