-- Each effect of the program stands once in the list of all, under its number.
use Rattle.std.proofs.Common.{◌≡◌, ◌≢◌, ◌<◌, ◌+◌, ℕ, zero, suc, Bool, true, ◌&&◌, ◌==◌, List, [], ◌∷◌, map, length, slice_index_or, refl, arith}
use Rattle.std.specs.List.{AllPairs, Contains}
use Rattle.std.proofs.lemmas.Bool.{and_parts}
use Rattle.std.proofs.lemmas.Bool.Decides.{nat_tests}
use Rattle.fx_shipped.specs.declared.shipped.Shipped.{Shipped}
use Rattle.fx_shipped.specs.declared.shipped.Shipped.TheVariants as shipped
use Rattle.fx_shipped.specs.Shipped.{all, number_of}

-- their numbers follow one another from n on
abbrev are_numbered : ℕ → List Shipped → Bool
are_numbered n [] = true
are_numbered n (e ∷ es) = (number_of e == n) && are_numbered (suc n) es

number_at : (n k : ℕ) (es : List Shipped) (d : Shipped) → are_numbered n es ≡ true → k < length es → number_of (slice_index_or es k d) ≡ n + k
number_at n k [] d are low = absurd (omega arith)
number_at n zero (e ∷ es) d are low = let here : (number_of e == n) ≡ true = (and_parts (number_of e == n) (are_numbered (suc n) es) are).0 in grind (arith, nat_tests)
number_at n (suc k) (e ∷ es) d are low =
    let rest : number_of (slice_index_or es k d) ≡ suc n + k = number_at (suc n) k es d (and_parts (number_of e == n) (are_numbered (suc n) es) are).1 (omega arith) in
    omega (arith, rest)

pub numbers_differ : AllPairs (λ a b. number_of a ≢ number_of b) all
numbers_differ i j d below low same =
    let a = number_at 0 i all d refl (omega arith) in
    let b = number_at 0 j all d refl low in
    omega (arith, a, b, same)

pub number_among : (e : Shipped) → Contains (map number_of all) (number_of e)
number_among shipped.Solid = (0, omega arith, refl)
number_among shipped.Checker = (1, omega arith, refl)
number_among shipped.Ramp = (2, omega arith, refl)
number_among shipped.Grain = (3, omega arith, refl)
number_among shipped.Invert = (4, omega arith, refl)
number_among shipped.Gain = (5, omega arith, refl)
number_among shipped.Premult = (6, omega arith, refl)
number_among shipped.Unpremult = (7, omega arith, refl)
number_among shipped.Shuffle = (8, omega arith, refl)
number_among shipped.Saturation = (9, omega arith, refl)
number_among shipped.Posterise = (10, omega arith, refl)
number_among shipped.Boxblur = (11, omega arith, refl)
number_among shipped.Erode = (12, omega arith, refl)
number_among shipped.Dilate = (13, omega arith, refl)
number_among shipped.Convolve3 = (14, omega arith, refl)
number_among shipped.Crop = (15, omega arith, refl)
number_among shipped.Translate = (16, omega arith, refl)
number_among shipped.Mirror = (17, omega arith, refl)
number_among shipped.Timeoffset = (18, omega arith, refl)
number_among shipped.Frameblend = (19, omega arith, refl)
number_among shipped.Framediff = (20, omega arith, refl)
number_among shipped.Echo = (21, omega arith, refl)
number_among shipped.Dissolve = (22, omega arith, refl)
number_among shipped.Wipe = (23, omega arith, refl)
number_among shipped.Merge = (24, omega arith, refl)
number_among shipped.Keymix = (25, omega arith, refl)
number_among shipped.Autogain = (26, omega arith, refl)
