-- What every effect keeps, of gain.
use Rattle.std.specs.Prelude.{◌≡◌, ◌≤◌, ℕ, ℤ, pos, negsuc, [], ◌∷◌, codes, refl, IsTrue}
use Rattle.std.specs.Ordering.{int_eq}
use Rattle.std.specs.Cmp.{signed_Decides}
use Rattle.std.proofs.Common.{ap, arith, ◌∙◌}
use Rattle.fx_pixel.specs.declared.Depth.{Depth}
use Rattle.fx_pixel.specs.declared.Depth.TheVariants as depths
use Rattle.fx_pixel.specs.declared.Components.{Components}
use Rattle.fx_pixel.specs.declared.Components.TheVariants as components
use Rattle.fx_pixel.specs.declared.Pixel.{Pixel}
use Rattle.fx_pixel.specs.declared.Pixel.TheVariants.{Rgba, Alpha}
use Rattle.fx_pixel.specs.Pixel.{greatest, zero as clear, IsOfDepth, components_of}
use Rattle.fx_effect.specs.Numbers.{number}
use Rattle.fx_effect.specs.Laws.{Laws}
use Rattle.fx_effect.specs.ShapeTests.{shape_is}
use Rattle.fx_point.specs.Colours.{source_laws}
use Rattle.fx_point.specs.Gain.{gained, gained_pixel, gain_params, gain_shape, gain}

gained_bound : (m : ℕ) (k : ℤ) (c : ℕ) → gained m k c ≤ m
gained_bound m (pos k) c = omega arith
gained_bound m (negsuc k) c = omega arith

gained_zero : (m : ℕ) (k : ℤ) → gained m k 0 ≡ 0
gained_zero m (pos k) = omega arith
gained_zero m (negsuc k) = refl

gained_by_one : (m c : ℕ) (k : ℤ) → k ≡ pos 65536 → c ≤ m → gained m k c ≡ c
gained_by_one m c k one low = ap (λ z. gained m z c) one ∙ whole
  where
    whole : gained m (pos 65536) c ≡ c
    whole = omega arith

gained_of_depth : (k : ℤ) (depth : Depth) (p : Pixel) → IsOfDepth depth p
    → IsOfDepth depth (gained_pixel k (greatest depth) p)
gained_of_depth k depth (Rgba r g b a) is =
    let bound = gained_bound (greatest depth) k in
    (bound r, bound g, bound b, is.3)
gained_of_depth k depth (Alpha a) is = gained_bound (greatest depth) k a

gained_components : (k : ℤ) (m : ℕ) (p : Pixel) → components_of (gained_pixel k m p) ≡ components_of p
gained_components k m (Rgba r g b a) = refl
gained_components k m (Alpha a) = refl

gained_clear : (k : ℤ) (m : ℕ) (c : Components) → gained_pixel k m (clear c) ≡ clear c
gained_clear k m components.Rgba = ap (λ x. Rgba x x x 0) (gained_zero m k)
gained_clear k m components.Alpha = ap Alpha (gained_zero m k)

gained_stays : (depth : Depth) (k : ℤ) (p : Pixel) → IsTrue (int_eq k (pos 65536)) → IsOfDepth depth p
    → gained_pixel k (greatest depth) p ≡ p
gained_stays depth k (Rgba r g b a) one is =
    let k_is = (signed_Decides k (pos 65536)).0 one in
    let red = gained_by_one (greatest depth) r k k_is is.0 in
    let green = gained_by_one (greatest depth) g k k_is is.1 in
    let blue = gained_by_one (greatest depth) b k k_is is.2 in
    cc
gained_stays depth k (Alpha a) one is =
    ap Alpha (gained_by_one (greatest depth) a k ((signed_Decides k (pos 65536)).0 one) is)

pub gain_laws : Laws gain
gain_laws =
    source_laws (codes "gain") (depths.Byte ∷ depths.Short ∷ []) (components.Rgba ∷ components.Alpha ∷ []) gain_params
    (λ v m p. gained_pixel (number v 0) m p) (λ v. int_eq (number v 0) (pos 65536)) (shape_is gain_shape refl)
    (record {
      zero_stays = λ context v m c lawful. gained_clear (number v 0) m c;
      of_depth = λ context v depth p lawful supported is. gained_of_depth (number v 0) depth p is;
      components = λ v m p. gained_components (number v 0) m p;
      stays = λ v depth p one supported is. gained_stays depth (number v 0) p one is;
    })
