-- What every effect keeps, of posterise.
use Rattle.std.specs.Prelude.{◌≡◌, ◌≤◌, ℕ, ◌-◌, ◌*◌, ℤ, pos, negsuc, ◌≤ℤ◌, [], ◌∷◌, codes, refl, IsTrue}
use Rattle.std.specs.Ordering.{int_eq}
use Rattle.std.specs.Cmp.{signed_Decides}
use Rattle.std.proofs.Common.{ap, arith, zero, suc, zero-mul, ◌∙◌}
use Rattle.std.proofs.lemmas.Bool.{false≢true}
use Rattle.std.proofs.Math.Nat.{mul-le-mul_right, mul-zero}
use Rattle.std.proofs.lemmas.Int.{ints}
use Rattle.fx_pixel.specs.declared.Depth.{Depth}
use Rattle.fx_pixel.specs.declared.Depth.TheVariants as depths
use Rattle.fx_pixel.specs.declared.Components.{Components}
use Rattle.fx_pixel.specs.declared.Components.TheVariants as components
use Rattle.fx_pixel.specs.declared.Pixel.{Pixel}
use Rattle.fx_pixel.specs.Pixel.{greatest, IsOfDepth, components_of}
use Rattle.fx_kernel.specs.Samples.{rounded}
use Rattle.fx_kernel.specs.SampleLaws.{rounded_bound, rounded_zero}
use Rattle.fx_effect.specs.Shape.{IsLawfulIn, supports}
use Rattle.fx_effect.specs.Numbers.{number}
use Rattle.fx_effect.specs.NumberLaws.{number_between}
use Rattle.fx_effect.specs.Laws.{Laws}
use Rattle.fx_effect.specs.ShapeTests.{shape_is}
use Rattle.fx_effect.specs.declared.action.Context.{Context}
use Rattle.fx_effect.specs.declared.values.Values.{Values}
use Rattle.fx_params.specs.Def.{int_def}
use Rattle.fx_point.specs.Colours.{source_laws, colours_of_depth, colours_components, colours_clear, colours_stay}
use Rattle.fx_point.specs.Posterise.{posterised, posterised_pixel, posterise_params, posterise_shape, posterise}

pub byte_alone : (depth : Depth) (c : Components) → IsTrue (supports posterise_shape depth c) → depth ≡ depths.Byte
byte_alone depths.Byte c supported = refl
byte_alone depths.Short c supported = absurd (false≢true supported)

pub posterised_bound : (n c : ℕ) → 2 ≤ n → c ≤ 255 → posterised 255 (pos n) c ≤ 255
posterised_bound n c some low =
    let room : c * (n - 1) ≤ 255 * (n - 1) = mul-le-mul_right (n - 1) low in
    let few : rounded (c * (n - 1)) 255 ≤ n - 1 =
    rounded_bound (c * (n - 1)) 255 (n - 1) (omega arith) room in
    rounded_bound (rounded (c * (n - 1)) 255 * 255) (n - 1) 255 (omega arith) (mul-le-mul_right 255 few)

nothing : (m : ℕ) → rounded 0 m * m ≡ 0
nothing zero = mul-zero (rounded 0 0)
nothing (suc m) = ap (λ z. z * suc m) (rounded_zero (suc m) (omega arith)) ∙ zero-mul (suc m)

posterised_zero : (m : ℕ) (n : ℤ) → pos 2 ≤ℤ n → posterised m n 0 ≡ 0
posterised_zero m (pos n) some =
    ap (λ x. rounded (rounded x m * m) (n - 1)) (zero-mul (n - 1))
    ∙ ap (λ x. rounded x (n - 1)) (nothing m) ∙ rounded_zero (n - 1) (omega (arith, ints))
posterised_zero m (negsuc n) some = refl

bound_of : (n : ℤ) (c : ℕ) → pos 2 ≤ℤ n → c ≤ 255 → posterised 255 n c ≤ 255
bound_of (pos n) c some low = posterised_bound n c (omega (arith, ints)) low
bound_of (negsuc n) c some low = low

by_all : (n : ℤ) (c : ℕ) → n ≡ pos 256 → c ≤ 255 → posterised 255 n c ≡ c
by_all n c all low = ap (λ z. posterised 255 z c) all ∙ whole
  where
    whole : posterised 255 (pos 256) c ≡ c
    whole = omega arith

levels_of : (context : Context) (v : Values) → IsLawfulIn posterise_shape context v → pos 2 ≤ℤ number v 0
levels_of context v lawful =
    (number_between posterise_params v 0 (int_def [] (pos 2) (pos 256) (pos 256)) lawful.numbers (omega arith)).above

pixel_of_depth : (n : ℤ) (depth : Depth) (p : Pixel) → pos 2 ≤ℤ n → depth ≡ depths.Byte → IsOfDepth depth p
    → IsOfDepth depth (posterised_pixel n (greatest depth) p)
pixel_of_depth n depths.Byte p some byte is =
    colours_of_depth depths.Byte (λ a c. posterised 255 n c) p (λ a c low few. bound_of n c some few) is
pixel_of_depth n depths.Short p some byte is = absurd cc

pixel_stays : (n : ℤ) (depth : Depth) (p : Pixel) → n ≡ pos 256 → depth ≡ depths.Byte → IsOfDepth depth p
    → posterised_pixel n (greatest depth) p ≡ p
pixel_stays n depths.Byte p all byte is =
    colours_stay depths.Byte (λ a c. posterised 255 n c) p (λ a c few. by_all n c all few) is
pixel_stays n depths.Short p all byte is = absurd cc

pub posterise_laws : Laws posterise
posterise_laws =
    source_laws (codes "posterise") (depths.Byte ∷ []) (components.Rgba ∷ []) posterise_params
    (λ v m p. posterised_pixel (number v 0) m p) (λ v. int_eq (number v 0) (pos 256)) (shape_is posterise_shape refl)
    (record {
      zero_stays = λ context v m c lawful.
          colours_clear (λ a x. posterised m (number v 0) x) c
          (posterised_zero m (number v 0) (levels_of context v lawful));
      of_depth = λ context v depth p lawful supported is.
          pixel_of_depth (number v 0) depth p (levels_of context v lawful)
          (byte_alone depth (components_of p) supported) is;
      components = λ v m p. colours_components (λ a c. posterised m (number v 0) c) p;
      stays = λ v depth p all supported is.
          pixel_stays (number v 0) depth p ((signed_Decides (number v 0) (pos 256)).0 all)
          (byte_alone depth (components_of p) supported) is;
    })
