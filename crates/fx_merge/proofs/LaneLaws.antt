-- Vector operations lane by lane, on samples of 8 bits.
use Rattle.std.proofs.Common.{◌≡◌, ◌≤◌, ◌<◌, ℕ, zero, suc, ◌+◌, ◌-◌, ◌*◌, ◌%◌, ◌^◌, min, cond, List, [], ◌∷◌, map, length, get_or, ap, ◌∙◌, arith}
use Rattle.std.proofs.lemmas.Simd.{length-zip2, get_or-zip2}
use lib.Lanes.{zip2, top}
use Rattle.fx_pixel.specs.declared.Depth.TheVariants.{Byte}
use Rattle.fx_pixel.specs.declared.Components.TheVariants as components
use Rattle.fx_pixel.specs.declared.Pixel.TheVariants.{Rgba}
use Rattle.fx_kernel.specs.Blends.{product}
use Rattle.fx_kernel.specs.Lanes.{AreAlphas}
use Rattle.fx_kernel.proofs.ByteLaws.{chosen, below, less, one_least, one_most}
use Rattle.fx_effect.specs.Rows.{MakesPairs}
use Rattle.fx_merge.specs.declared.operation.Operation.{Operation}
use Rattle.fx_merge.specs.Merge.{operated, merged}
use Rattle.fx_merge.specs.MergeLaws.{product_below, screen_low}

-- ---- two lanes of bytes

abbrev pub added : ℕ → ℕ → ℕ
added a b = (a + b) % 2 ^ 8

abbrev pub rest : ℕ → ℕ
rest a = 2 ^ 8 - 1 - a

one_sum : (a b : ℕ) → a ≤ 255 → b ≤ 255 → added a (cond (top 7 (below b (rest a))) b (rest a)) ≡ min 255 (a + b)
one_sum a b few low = rw (one_least b (rest a)) (omega arith)

one_excess : (a b : ℕ) → a ≤ 255 → b ≤ 255 → less (cond (top 7 (below a b)) b a) b ≡ a - b
one_excess a b few low = rw (one_most a b) (omega arith)

-- ---- at each lane

pub sum_at : (xs ys : List ℕ) (i : ℕ) → i < length xs → i < length ys → get_or xs i 0 ≤ 255 → get_or ys i 0 ≤ 255
    → get_or (zip2 added xs (chosen ys (map rest xs) ys (map rest xs))) i 0 ≡ min 255 (get_or xs i 0 + get_or ys i 0)
sum_at [] ys i p q few low = absurd (omega arith)
sum_at (x ∷ xs) [] i p q few low = absurd (omega arith)
sum_at (x ∷ xs) (y ∷ ys) zero p q few low = one_sum x y few low
sum_at (x ∷ xs) (y ∷ ys) (suc i) p q few low = sum_at xs ys i (omega arith) (omega arith) few low

pub excess_at : (xs ys : List ℕ) (i : ℕ) → i < length xs → i < length ys → get_or xs i 0 ≤ 255 → get_or ys i 0 ≤ 255
    → get_or (zip2 less (chosen xs ys ys xs) ys) i 0 ≡ get_or xs i 0 - get_or ys i 0
excess_at [] ys i p q few low = absurd (omega arith)
excess_at (x ∷ xs) [] i p q few low = absurd (omega arith)
excess_at (x ∷ xs) (y ∷ ys) zero p q few low = one_excess x y few low
excess_at (x ∷ xs) (y ∷ ys) (suc i) p q few low = excess_at xs ys i (omega arith) (omega arith) few low

-- ---- a sum less a product

one_screen : (a b : ℕ) → a ≤ 255 → b ≤ 255 → added b (less a (product 255 a b)) ≡ a + b - product 255 a b
one_screen a b few low =
    omega (arith, product_below 255 a b (omega arith) low, screen_low 255 a b (omega arith) few low)

pub screen_at : (xs ys ps : List ℕ) (i : ℕ) → length xs ≡ 32 → length ys ≡ 32 → length ps ≡ 32 → i < 32
    → get_or xs i 0 ≤ 255 → get_or ys i 0 ≤ 255 → get_or ps i 0 ≡ product 255 (get_or xs i 0) (get_or ys i 0)
    → get_or (zip2 added ys (zip2 less xs ps)) i 0 ≡ get_or xs i 0 + get_or ys i 0 - product 255 (get_or xs i 0) (get_or ys i 0)
screen_at xs ys ps i p q r inside few low is =
    get_or-zip2 added ys (zip2 less xs ps) i 0 0 0 (omega arith) (omega (arith, length-zip2 less xs ps (omega arith)))
    ∙ ap (added (get_or ys i 0)) (get_or-zip2 less xs ps i 0 0 0 (omega arith) (omega arith) ∙ ap (less (get_or xs i 0)) is)
    ∙ one_screen (get_or xs i 0) (get_or ys i 0) few low

-- ---- eight pixels

pub eight_pixels : (operation : Operation) (alphas a b made : List ℕ) → length a ≡ 32
    → AreAlphas a alphas
    → ((i : ℕ) → i < 32 → get_or made i 0 ≡ operated operation 255 (get_or alphas i 0) (get_or a i 0) (get_or b i 0))
    → MakesPairs Byte components.Rgba (merged operation 255) a b made
eight_pixels operation alphas a b made long shown at i room =
    let sample : (j : ℕ) → 4 * i ≤ j → j < 4 * i + 4
    → get_or made j 0 ≡ operated operation 255 (get_or a (4 * i + 3) 0) (get_or a j 0) (get_or b j 0) =
    λ j from below. at j (omega arith) ∙ ap (λ s. operated operation 255 s (get_or a j 0) (get_or b j 0))
    (shown j (omega arith) ∙ ap (λ k. get_or a k 0) (omega arith)) in
    let r = sample (4 * i) (omega arith) (omega arith) in
    let g = sample (4 * i + 1) (omega arith) (omega arith) in
    let b = sample (4 * i + 2) (omega arith) (omega arith) in
    let last = sample (4 * i + 3) (omega arith) (omega arith) in
    λ t. Rgba (r t) (g t) (b t) (last t)
