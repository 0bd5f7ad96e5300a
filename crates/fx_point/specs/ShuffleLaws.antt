-- What every effect keeps, of shuffle.
use Rattle.std.specs.Prelude.{◌≡◌, ◌≤◌, ℕ, ℤ, pos, negsuc, Bool, ◌&&◌, true, false, [], ◌∷◌, codes, slice_index, IsTrue, refl}
use Rattle.std.specs.Ordering.{int_eq}
use Rattle.std.specs.Cmp.{signed_Decides}
use Rattle.std.proofs.Common.{arith, zero, suc}
use Rattle.std.proofs.lemmas.Bool.{false≢true}
use Rattle.fx_pixel.specs.declared.Depth.{Depth}
use Rattle.fx_pixel.specs.declared.Depth.TheVariants as depths
use Rattle.fx_pixel.specs.declared.Components.{Components}
use Rattle.fx_pixel.specs.declared.Components.TheVariants as components
use Rattle.fx_pixel.specs.declared.Pixel.{Pixel}
use Rattle.fx_pixel.specs.declared.Pixel.TheVariants.{Rgba, Alpha}
use Rattle.fx_pixel.specs.Pixel.{greatest, zero as clear, IsOfDepth, components_of}
use Rattle.fx_effect.specs.Numbers.{number}
use Rattle.fx_effect.specs.Laws.{Laws}
use Rattle.fx_effect.specs.ShapeTests.{shape_is}
use Rattle.fx_effect.specs.declared.values.Values.{Values}
use Rattle.fx_point.specs.Colours.{source_laws}
use Rattle.fx_point.specs.Shuffle.{chosen, shuffled, shuffle_pixel, keeps_all, shuffle_params, shuffle_shape, shuffle}

place_bound : (m r g b a k : ℕ) → r ≤ m → g ≤ m → b ≤ m → a ≤ m → slice_index (r ∷ g ∷ b ∷ a ∷ 0 ∷ []) k ≤ m
place_bound m r g b a zero red green blue alpha = red
place_bound m r g b a (suc zero) red green blue alpha = green
place_bound m r g b a (suc (suc zero)) red green blue alpha = blue
place_bound m r g b a (suc (suc (suc zero))) red green blue alpha = alpha
place_bound m r g b a (suc (suc (suc (suc zero)))) red green blue alpha = omega arith
place_bound m r g b a (suc (suc (suc (suc (suc k))))) red green blue alpha = omega arith

pub chosen_bound : (depth : Depth) (r g b a : ℕ) (z : ℤ) → IsOfDepth depth (Rgba r g b a)
    → chosen (r ∷ g ∷ b ∷ a ∷ 0 ∷ []) z ≤ greatest depth
chosen_bound depth r g b a (pos k) is = place_bound (greatest depth) r g b a k is.0 is.1 is.2 is.3
chosen_bound depth r g b a (negsuc k) is = omega arith

chosen_clear : (z : ℤ) → chosen (0 ∷ 0 ∷ 0 ∷ 0 ∷ 0 ∷ []) z ≡ 0
chosen_clear (pos k) =
    omega (arith, place_bound 0 0 0 0 0 k (omega arith) (omega arith) (omega arith) (omega arith))
chosen_clear (negsuc k) = refl

shuffled_of_depth : (depth : Depth) (red green blue alpha : ℤ) (p : Pixel) → IsOfDepth depth p
    → IsOfDepth depth (shuffled red green blue alpha p)
shuffled_of_depth depth red green blue alpha (Rgba r g b a) is =
    let bound = chosen_bound depth r g b a in
    (bound red is, bound green is, bound blue is, bound alpha is)
shuffled_of_depth depth red green blue alpha (Alpha a) is = is

shuffled_components : (red green blue alpha : ℤ) (p : Pixel)
    → components_of (shuffled red green blue alpha p) ≡ components_of p
shuffled_components red green blue alpha (Rgba r g b a) = refl
shuffled_components red green blue alpha (Alpha a) = refl

shuffled_clear : (red green blue alpha : ℤ) (c : Components) → shuffled red green blue alpha (clear c) ≡ clear c
shuffled_clear red green blue alpha components.Rgba =
    rw (chosen_clear red, chosen_clear green, chosen_clear blue, chosen_clear alpha) refl
shuffled_clear red green blue alpha components.Alpha = refl

own : (red green blue alpha : ℤ) (p : Pixel) → red ≡ pos 0 → green ≡ pos 1 → blue ≡ pos 2 → alpha ≡ pos 3
    → shuffled red green blue alpha p ≡ p
own red green blue alpha (Rgba r g b a) is_red is_green is_blue is_alpha =
    rw (is_red, is_green, is_blue, is_alpha) refl
own red green blue alpha (Alpha a) is_red is_green is_blue is_alpha = refl

first_of_both : (a b : Bool) → IsTrue (a && b) → IsTrue a
first_of_both true b h = refl
first_of_both false b h = absurd (false≢true h)

second_of_both : (a b : Bool) → IsTrue (a && b) → IsTrue b
second_of_both true b h = h
second_of_both false b h = absurd (false≢true h)

all_own : (v : Values) (p : Pixel) → IsTrue (keeps_all v) → shuffle_pixel v p ≡ p
all_own v p h =
    let three = first_of_both _ (int_eq (number v 3) (pos 3)) h in
    let two = first_of_both _ (int_eq (number v 2) (pos 2)) three in
    own (number v 0) (number v 1) (number v 2) (number v 3) p
    ((signed_Decides _ (pos 0)).0 (first_of_both _ (int_eq (number v 1) (pos 1)) two))
    ((signed_Decides _ (pos 1)).0 (second_of_both (int_eq (number v 0) (pos 0)) (int_eq (number v 1) (pos 1)) two))
    ((signed_Decides _ (pos 2)).0 (second_of_both _ (int_eq (number v 2) (pos 2)) three))
    ((signed_Decides _ (pos 3)).0 (second_of_both _ (int_eq (number v 3) (pos 3)) h))

pub shuffle_laws : Laws shuffle
shuffle_laws =
    source_laws (codes "shuffle") (depths.Byte ∷ depths.Short ∷ []) (components.Rgba ∷ []) shuffle_params
    (λ v m p. shuffle_pixel v p) keeps_all (shape_is shuffle_shape refl)
    (record {
      zero_stays = λ context v m c lawful. shuffled_clear (number v 0) (number v 1) (number v 2) (number v 3) c;
      of_depth = λ context v depth p lawful supported is.
          shuffled_of_depth depth (number v 0) (number v 1) (number v 2) (number v 3) p is;
      components = λ v m p. shuffled_components (number v 0) (number v 1) (number v 2) (number v 3) p;
      stays = λ v depth p all supported is. all_own v p all;
    })
