-- What every effect keeps, of premult.
use Rattle.std.specs.Prelude.{◌≡◌, ◌<◌, ℕ, false, [], ◌∷◌, codes, refl}
use Rattle.std.proofs.Common.{arith, zero, suc}
use Rattle.std.proofs.lemmas.Bool.{false≢true}
use Rattle.fx_pixel.specs.declared.Depth.{Depth}
use Rattle.fx_pixel.specs.declared.Depth.TheVariants as depths
use Rattle.fx_pixel.specs.declared.Components.TheVariants as components
use Rattle.fx_pixel.specs.Pixel.{greatest}
use Rattle.fx_kernel.specs.Blends.{product}
use Rattle.fx_kernel.specs.BlendLaws.{product_bound, product_zero}
use Rattle.fx_effect.specs.Laws.{Laws}
use Rattle.fx_effect.specs.ShapeTests.{shape_is}
use Rattle.fx_point.specs.Colours.{source_laws, colours_of_depth, colours_components, colours_clear}
use Rattle.fx_point.specs.Premult.{premultiplied, premult_shape, premult}

some_greatest : (depth : Depth) → 0 < greatest depth
some_greatest depths.Byte = omega arith
some_greatest depths.Short = omega arith

nothing_stays : (m : ℕ) → product m 0 0 ≡ 0
nothing_stays zero = refl
nothing_stays (suc m) = product_zero (suc m) 0 (omega arith)

pub premult_laws : Laws premult
premult_laws =
    source_laws (codes "premult") (depths.Byte ∷ depths.Short ∷ []) (components.Rgba ∷ []) []
    (λ v m p. premultiplied m p) (λ v. false) (shape_is premult_shape refl)
    (record {
      zero_stays = λ context v m c lawful. colours_clear (λ a x. product m x a) c (nothing_stays m);
      of_depth = λ context v depth p lawful supported is.
          colours_of_depth depth (λ a c. product (greatest depth) c a) p
          (λ a c low few. product_bound (greatest depth) c a (some_greatest depth) few low) is;
      components = λ v m p. colours_components (λ a c. product m c a) p;
      stays = λ v depth p never supported is. absurd (false≢true never);
    })
