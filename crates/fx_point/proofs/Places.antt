-- What the lanes of eight pixels are made of.
use Rattle.std.proofs.Common.{◌≡◌, ◌<◌, ◌≤◌, ℕ, ◌+◌, ◌*◌, ◌/◌, ◌%◌, List, ◌++◌, length, get_or, map, ap, arith, ◌∙◌, w8, Fits}
use Rattle.std.specs.List.{range_with_len}
use Rattle.std.proofs.lemmas.List.FromFn.{get_or-map-range_with_len}
use Rattle.std.proofs.lemmas.List.{get_or_append_left, get_or-append_right}
use Rattle.std.proofs.lemmas.Simd.{map-map, Each1-from_get_or}
use Rattle.std.specs.Simd.Lanes.{Each1, pick_l}
use Rattle.fx_pixel.specs.declared.Depth.TheVariants as depths
use Rattle.fx_pixel.specs.declared.Components.TheVariants as components
use Rattle.fx_effect.specs.Rows.{MakesRow}
use Rattle.fx_point.specs.Colours.{with_colours}
use Rattle.fx_kernel.specs.Lanes.{alpha_place, AreAlphas}
use Rattle.fx_kernel.proofs.ByteLaws.{lane_low}
use Rattle.fx_point.specs.Lanes.{AreMade}

pub alpha_byte : (xs alphas : List ℕ) (j : ℕ) → Each1 (Fits w8) xs → AreAlphas xs alphas → j < 32
    → get_or alphas j 0 ≤ 255
alpha_byte xs alphas j fit is low =
    let small = lane_low xs (alpha_place j) fit in omega (arith, is j low, small)

-- lanes that fit in bytes
pub bytes_fit : (xs : List ℕ) → length xs ≡ 32 → ((j : ℕ) → j < 32 → get_or xs j 0 ≤ 255) → Each1 (Fits w8) xs
bytes_fit xs long small =
    Each1-from_get_or (Fits w8) xs 0
    (λ j low. record { fits = omega (arith, small j (omega (arith, low, long))) })

-- a lane that is picked
pub picked : (xs : List ℕ) (place : ℕ → ℕ) (j : ℕ) → j < 32
    → get_or (pick_l 0 xs (map place (range_with_len 0 32))) j 0 ≡ get_or xs (place j) 0
picked xs place j low =
    ap (λ lanes. get_or lanes j 0) (map-map (λ k. get_or xs k 0) place (range_with_len 0 32))
    ∙ get_or-map-range_with_len (λ k. get_or xs (place k) 0) 0 32 j j 0 low (omega arith)

-- r, g and b are of the lanes that were made, and a of those that were there
abbrev kept_place : ℕ → ℕ
kept_place j = j + 32 * (j % 4 / 3)

abbrev kept : List ℕ → List ℕ → List ℕ
kept xs made = pick_l 0 (made ++ xs) (map kept_place (range_with_len 0 32))

colour_lane : (of : ℕ → ℕ → ℕ) (xs made : List ℕ) (j a : ℕ) → length made ≡ 32 → AreMade of xs made → j < 32
    → kept_place j ≡ j → alpha_place j ≡ a → get_or (kept xs made) j 0 ≡ of (get_or xs a 0) (get_or xs j 0)
colour_lane of xs made j a long is low stays alpha =
    picked (made ++ xs) kept_place j low ∙ ap (λ p. get_or (made ++ xs) p 0) stays
    ∙ get_or_append_left made xs 0 j (omega (arith, long)) ∙ is j low
    ∙ ap (λ p. of (get_or xs p 0) (get_or xs j 0)) alpha

alpha_lane : (xs made : List ℕ) (j : ℕ) → length made ≡ 32 → j < 32 → kept_place j ≡ j + 32
    → get_or (kept xs made) j 0 ≡ get_or xs j 0
alpha_lane xs made j long low other =
    picked (made ++ xs) kept_place j low ∙ ap (λ p. get_or (made ++ xs) p 0) other
    ∙ get_or-append_right made xs 32 (j + 32) 0 long (omega arith) ∙ ap (λ p. get_or xs p 0) (omega arith)

pub recoloured_row : (of : ℕ → ℕ → ℕ) (xs made : List ℕ) → length xs ≡ 32 → length made ≡ 32 → AreMade of xs made
    → MakesRow depths.Byte components.Rgba (with_colours of) xs (kept xs made)
recoloured_row of xs made wide long is i within =
    let few : i < 8 = omega (arith, within, wide) in
    let red = colour_lane of xs made (4 * i) (4 * i + 3) long is (omega arith) (omega arith) (omega arith) in
    let green = colour_lane of xs made (4 * i + 1) (4 * i + 3) long is (omega arith) (omega arith) (omega arith) in
    let blue = colour_lane of xs made (4 * i + 2) (4 * i + 3) long is (omega arith) (omega arith) (omega arith) in
    let alpha = alpha_lane xs made (4 * i + 3) long (omega arith) (omega arith) in
    cc
