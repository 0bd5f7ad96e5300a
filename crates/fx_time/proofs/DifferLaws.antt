-- How far eight pixels and eight others are apart, in 32 lanes.
use Rattle.std.proofs.Common.{◌≡◌, refl, ◌≤◌, ◌<◌, ℕ, zero, suc, ◌+◌, ◌*◌, ◌/◌, ◌%◌, min, max, List, [], ◌∷◌, ◌++◌, map, length, get_or, ap, ◌∙◌, arith, w8, Fits}
use Rattle.std.specs.List.{range_with_len}
use Rattle.std.proofs.lemmas.List.{get_or_append_left, get_or-append_right}
use Rattle.std.proofs.lemmas.List.FromFn.{get_or-map-range_with_len}
use lib.Lanes.{zip2, Each1}
use Rattle.fx_pixel.specs.declared.Depth.TheVariants.{Byte}
use Rattle.fx_pixel.specs.declared.Components.TheVariants as components
use Rattle.fx_pixel.specs.declared.Pixel.TheVariants.{Rgba}
use Rattle.fx_kernel.proofs.ByteLaws.{chosen, less, one_least, one_most, most_at, lane_low}
use Rattle.fx_effect.specs.Rows.{MakesPairs}
use Rattle.fx_time.specs.Framediff.{apart, differed}

-- the greater lanes, and those less the smaller ones
abbrev most : List ℕ → List ℕ → List ℕ
most xs ys = chosen xs ys ys xs

abbrev gaps : List ℕ → List ℕ → List ℕ
gaps xs ys = zip2 less (most xs ys) (chosen xs ys xs ys)

one_gap : (a b : ℕ) → a ≤ 255 → b ≤ 255 → less (max a b) (min a b) ≡ apart a b
one_gap a b few low = omega arith

gap_at : (xs ys : List ℕ) (i : ℕ) → i < length xs → i < length ys → get_or xs i 0 ≤ 255 → get_or ys i 0 ≤ 255
    → get_or (gaps xs ys) i 0 ≡ apart (get_or xs i 0) (get_or ys i 0)
gap_at [] ys i p q few low = absurd (omega arith)
gap_at (x ∷ xs) [] i p q few low = absurd (omega arith)
gap_at (x ∷ xs) (y ∷ ys) zero p q few low = rw (one_most x y, one_least x y) (one_gap x y few low)
gap_at (x ∷ xs) (y ∷ ys) (suc i) p q few low = gap_at xs ys i (omega arith) (omega arith) few low

gaps_long : (n : ℕ) (xs ys : List ℕ) → length xs ≡ n → length ys ≡ n → length (gaps xs ys) ≡ n
gaps_long zero [] ys p q = refl
gaps_long zero (x ∷ xs) ys p q = absurd (omega arith)
gaps_long (suc n) [] ys p q = absurd (omega arith)
gaps_long (suc n) (x ∷ xs) [] p q = absurd (omega arith)
gaps_long (suc n) (x ∷ xs) (y ∷ ys) p q = ap suc (gaps_long n xs ys (omega arith) (omega arith))

-- a is of the greater lanes, and r, g and b are of the others
abbrev place : ℕ → ℕ
place j = j + 32 * (j % 4 / 3)

abbrev pub made : List ℕ → List ℕ → List ℕ
made xs ys = map (λ j. get_or (gaps xs ys ++ most xs ys) (place j) 0) (range_with_len 0 32)

made_at : (xs ys : List ℕ) (j p : ℕ) → j < 32 → place j ≡ p
    → get_or (made xs ys) j 0 ≡ get_or (gaps xs ys ++ most xs ys) p 0
made_at xs ys j p low is =
    get_or-map-range_with_len (λ k. get_or (gaps xs ys ++ most xs ys) (place k) 0) 0 32 j j 0 low (omega arith)
    ∙ ap (λ k. get_or (gaps xs ys ++ most xs ys) k 0) is

pub gap_pixels : (xs ys : List ℕ) → length xs ≡ 32 → length ys ≡ 32 → Each1 (Fits w8) xs → Each1 (Fits w8) ys
    → MakesPairs Byte components.Rgba differed xs ys (made xs ys)
gap_pixels xs ys wide long f g i room =
    let many = gaps_long 32 xs ys wide long in
    let colour : (j : ℕ) → j < 32 → place j ≡ j → get_or (made xs ys) j 0 ≡ apart (get_or xs j 0) (get_or ys j 0) =
    λ j low is. made_at xs ys j j low is ∙ get_or_append_left (gaps xs ys) (most xs ys) 0 j (omega (arith, many))
    ∙ gap_at xs ys j (omega (arith, wide)) (omega (arith, long)) (lane_low xs j f) (lane_low ys j g) in
    let red = colour (4 * i) (omega arith) (omega arith) in
    let green = colour (4 * i + 1) (omega arith) (omega arith) in
    let blue = colour (4 * i + 2) (omega arith) (omega arith) in
    let alpha : get_or (made xs ys) (4 * i + 3) 0 ≡ max (get_or xs (4 * i + 3) 0) (get_or ys (4 * i + 3) 0) =
    made_at xs ys (4 * i + 3) (4 * i + 3 + 32) (omega arith) (omega arith)
    ∙ get_or-append_right (gaps xs ys) (most xs ys) 32 (4 * i + 3 + 32) 0 many (omega arith)
    ∙ ap (λ p. get_or (most xs ys) p 0) (omega arith) ∙ most_at xs ys (4 * i + 3) (omega arith) (omega arith) in
    λ t. Rgba (red t) (green t) (blue t) (alpha t)
