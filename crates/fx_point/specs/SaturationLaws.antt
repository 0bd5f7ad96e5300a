-- What every effect keeps, of saturation.
use Rattle.std.specs.Prelude.{◌≡◌, ◌≤◌, ℕ, ◌+◌, ◌*◌, ℤ, pos, negsuc, ◌+ℤ◌, ◌-ℤ◌, ◌*ℤ◌, [], ◌∷◌, codes, refl, IsTrue}
use Rattle.std.specs.Int.{int_div_euclid}
use Rattle.std.specs.Ordering.{int_eq}
use Rattle.std.specs.Cmp.{signed_Decides}
use Rattle.std.proofs.Common.{ap, arith, suc, ◌∙◌}
use Rattle.std.proofs.lemmas.Int.{ints}
use Rattle.fx_pixel.specs.declared.Depth.{Depth}
use Rattle.fx_pixel.specs.declared.Depth.TheVariants as depths
use Rattle.fx_pixel.specs.declared.Components.{Components}
use Rattle.fx_pixel.specs.declared.Components.TheVariants as components
use Rattle.fx_pixel.specs.declared.Pixel.{Pixel}
use Rattle.fx_pixel.specs.declared.Pixel.TheVariants.{Rgba, Alpha}
use Rattle.fx_pixel.specs.Pixel.{greatest, zero as clear, IsOfDepth, components_of}
use Rattle.fx_effect.specs.Numbers.{number}
use Rattle.fx_effect.specs.Laws.{Laws}
use Rattle.fx_effect.specs.ShapeTests.{shape_is}
use Rattle.fx_kernel.specs.Samples.{clamped}
use Rattle.fx_kernel.specs.SampleLaws.{clamped_few}
use Rattle.fx_point.specs.Colours.{source_laws}
use Rattle.fx_point.specs.Saturation.{luma, saturated, saturated_pixel, saturation_params, saturation_shape, saturation}

-- the floor of a whole number
whole_is : (z : ℤ) → int_div_euclid (z *ℤ pos 65536) (pos 65536) ≡ z
whole_is (pos n) = ap pos (omega arith)
whole_is (negsuc n) =
    let product : suc n * 65536 ≡ suc (65535 + n * 65536) = omega arith in
    rw product (ap negsuc (omega arith))

clamped_low : (m c : ℕ) (z : ℤ) → z ≡ pos c → c ≤ m → clamped m z ≡ c
clamped_low m c z is low = ap (clamped m) is ∙ few
  where
    few : clamped m (pos c) ≡ c
    few = omega arith

back : (l c : ℕ) → (pos l +ℤ (pos c -ℤ pos l)) ≡ pos c
back l c = omega (arith, ints)

saturated_by_one : (m l c : ℕ) (k : ℤ) → k ≡ pos 65536 → c ≤ m → saturated m k l c ≡ c
saturated_by_one m l c k one low =
    ap (λ z. saturated m z l c) one
    ∙ clamped_low m c (pos l +ℤ int_div_euclid ((pos c -ℤ pos l) *ℤ pos 65536) (pos 65536))
    (ap (λ z. pos l +ℤ z) (whole_is (pos c -ℤ pos l)) ∙ back l c) low

still : (k : ℤ) → int_div_euclid (pos 0 *ℤ k) (pos 65536) ≡ pos 0
still (pos k) = ap pos (omega arith)
still (negsuc k) =
    let product : 0 * suc k ≡ 0 = omega arith in
    rw product refl

saturated_zero : (m : ℕ) (k : ℤ) → saturated m k (luma 0 0 0) 0 ≡ 0
saturated_zero m k =
    let none : clamped m (pos 0) ≡ 0 = omega arith in
    ap (λ z. clamped m (pos 0 +ℤ z)) (still k) ∙ none

saturated_of_depth : (k : ℤ) (depth : Depth) (p : Pixel) → IsOfDepth depth p
    → IsOfDepth depth (saturated_pixel k (greatest depth) p)
saturated_of_depth k depth (Rgba r g b a) is =
    let bound = clamped_few (greatest depth) in
    (bound _, bound _, bound _, is.3)
saturated_of_depth k depth (Alpha a) is = is

saturated_components : (k : ℤ) (m : ℕ) (p : Pixel) → components_of (saturated_pixel k m p) ≡ components_of p
saturated_components k m (Rgba r g b a) = refl
saturated_components k m (Alpha a) = refl

saturated_clear : (k : ℤ) (m : ℕ) (c : Components) → saturated_pixel k m (clear c) ≡ clear c
saturated_clear k m components.Rgba = ap (λ x. Rgba x x x 0) (saturated_zero m k)
saturated_clear k m components.Alpha = refl

saturated_stays : (depth : Depth) (k : ℤ) (p : Pixel) → IsTrue (int_eq k (pos 65536)) → IsOfDepth depth p
    → saturated_pixel k (greatest depth) p ≡ p
saturated_stays depth k (Rgba r g b a) one is =
    let l = luma r g b in
    let k_is = (signed_Decides k (pos 65536)).0 one in
    let red = saturated_by_one (greatest depth) l r k k_is is.0 in
    let green = saturated_by_one (greatest depth) l g k k_is is.1 in
    let blue = saturated_by_one (greatest depth) l b k k_is is.2 in
    cc
saturated_stays depth k (Alpha a) one is = refl

pub saturation_laws : Laws saturation
saturation_laws =
    source_laws (codes "saturation") (depths.Byte ∷ depths.Short ∷ []) (components.Rgba ∷ []) saturation_params
    (λ v m p. saturated_pixel (number v 0) m p) (λ v. int_eq (number v 0) (pos 65536))
    (shape_is saturation_shape refl)
    (record {
      zero_stays = λ context v m c lawful. saturated_clear (number v 0) m c;
      of_depth = λ context v depth p lawful supported is. saturated_of_depth (number v 0) depth p is;
      components = λ v m p. saturated_components (number v 0) m p;
      stays = λ v depth p one supported is. saturated_stays depth (number v 0) p one is;
    })
