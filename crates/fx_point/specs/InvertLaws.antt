-- What every effect keeps, of invert.
use Rattle.std.specs.Prelude.{◌≡◌, [], ◌∷◌, codes, refl}
use Rattle.std.proofs.Common.{arith}
use Rattle.fx_pixel.specs.declared.Depth.{Depth}
use Rattle.fx_pixel.specs.declared.Depth.TheVariants as depths
use Rattle.fx_pixel.specs.declared.Components.{Components}
use Rattle.fx_pixel.specs.declared.Components.TheVariants as components
use Rattle.fx_pixel.specs.declared.Pixel.{Pixel}
use Rattle.fx_pixel.specs.declared.Pixel.TheVariants.{Rgba, Alpha}
use Rattle.fx_pixel.specs.Pixel.{zero as clear, IsOfDepth, components_of}
use Rattle.fx_effect.specs.Laws.{Laws}
use Rattle.fx_effect.specs.ShapeTests.{shape_is}
use Rattle.fx_effect.specs.Source.{IsMaking, point_laws}
use Rattle.fx_effect.specs.declared.action.Identity.TheVariants.{No}
use Rattle.fx_effect.specs.declared.action.Safety.TheVariants.{FullySafe}
use Rattle.fx_point.specs.Invert.{inverted, invert_shape, invert}

inverted_of_depth : (depth : Depth) (p : Pixel) → IsOfDepth depth p → IsOfDepth depth (inverted p)
inverted_of_depth depth (Rgba r g b a) of_depth =
    (omega (arith, of_depth.3), omega (arith, of_depth.3), omega (arith, of_depth.3), of_depth.3)
inverted_of_depth depth (Alpha a) of_depth = of_depth

inverted_components : (p : Pixel) → components_of (inverted p) ≡ components_of p
inverted_components (Rgba r g b a) = refl
inverted_components (Alpha a) = refl

inverted_clear : (c : Components) → inverted (clear c) ≡ clear c
inverted_clear components.Rgba = refl
inverted_clear components.Alpha = refl

making : IsMaking invert_shape (λ v m p. inverted p) (λ v window. No)
making =
    record {
      zero_stays = λ context v m c lawful. inverted_clear c;
      of_depth = λ context v depth p lawful supported is. inverted_of_depth depth p is;
      components = λ v m p. inverted_components p;
      source = λ context v window clip frame lawful is. absurd cc;
      stays = λ context v window clip frame depth p lawful is supported of_depth. absurd cc;
    }

pub invert_laws : Laws invert
invert_laws =
    point_laws (codes "invert") (depths.Byte ∷ depths.Short ∷ []) (components.Rgba ∷ []) FullySafe []
    (λ v m p. inverted p) (λ v window. No) (shape_is invert_shape refl) making
