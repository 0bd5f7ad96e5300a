-- What every effect keeps, of unpremult.
use Rattle.std.specs.Prelude.{◌≤◌, ℕ, ◌==◌, min, Bool, true, false, [], ◌∷◌, codes, if◌then◌else◌, refl}
use Rattle.std.proofs.Common.{arith}
use Rattle.std.proofs.lemmas.Bool.{false≢true}
use Rattle.fx_pixel.specs.declared.Depth.TheVariants as depths
use Rattle.fx_pixel.specs.declared.Components.TheVariants as components
use Rattle.fx_pixel.specs.Pixel.{greatest}
use Rattle.fx_effect.specs.Laws.{Laws}
use Rattle.fx_effect.specs.ShapeTests.{shape_is}
use Rattle.fx_point.specs.Colours.{source_laws, colours_of_depth, colours_components, colours_clear}
use Rattle.fx_point.specs.Unpremult.{quotient, unpremultiplied, unpremult_shape, unpremult}

few_where : (none : Bool) (m n : ℕ) → (if none then 0 else min m n) ≤ m
few_where true m n = omega arith
few_where false m n = omega arith

quotient_bound : (m a c : ℕ) → quotient m a c ≤ m
quotient_bound m a c = few_where (a == 0) m _

pub unpremult_laws : Laws unpremult
unpremult_laws =
    source_laws (codes "unpremult") (depths.Byte ∷ depths.Short ∷ []) (components.Rgba ∷ []) []
    (λ v m p. unpremultiplied m p) (λ v. false) (shape_is unpremult_shape refl)
    (record {
      zero_stays = λ context v m c lawful. colours_clear (quotient m) c refl;
      of_depth = λ context v depth p lawful supported is.
          colours_of_depth depth (quotient (greatest depth)) p
          (λ a c low few. quotient_bound (greatest depth) a c) is;
      components = λ v m p. colours_components (quotient m) p;
      stays = λ v depth p never supported is. absurd (false≢true never);
    })
