-- What holds of pixels that are made sample by sample.
use Rattle.std.specs.Prelude.{◌≡◌, ◌≤◌, ◌<◌, ℕ, ℤ, pos, negsuc, ◌+◌, ◌*◌, ◌/◌, List, [], ◌∷◌, length, All, refl}
use Rattle.std.proofs.Common.{zero, suc, ap, arith, ◌∙◌}
use Rattle.std.proofs.Math.Nat.{div-eq_of_lt}
use Rattle.std.proofs.lemmas.Nat.{div_below}
use Rattle.std.proofs.lemmas.List.Elements.{All-weaker}
use Rattle.std.proofs.lemmas.List.Sums.{sum_by-cons, sum_by-le}
use Rattle.std.proofs.lemmas.List.Elements.{All-head, All-tail}
use Rattle.fx_pixel.specs.declared.Depth.{Depth}
use Rattle.fx_pixel.specs.declared.Components.{Components}
use Rattle.fx_pixel.specs.declared.Components.TheVariants as components
use Rattle.fx_pixel.specs.declared.Pixel.{Pixel}
use Rattle.fx_pixel.specs.declared.Pixel.TheVariants.{Rgba, Alpha}
use Rattle.fx_pixel.specs.Pixel.{greatest, zero as clear, IsOfDepth, components_of}
use Rattle.fx_kernel.specs.Samples.{nth, each, rounded, clamped, sum_of, mean_of}

-- ---- samples

pub clamped_few : (m : ℕ) (z : ℤ) → clamped m z ≤ m
clamped_few m (pos n) = grind arith
clamped_few m (negsuc n) = omega arith

pub nth_bound : (depth : Depth) (p : Pixel) (k : ℕ) → IsOfDepth depth p → nth p k ≤ greatest depth
nth_bound depth (Rgba r g b a) zero of_depth = of_depth.0
nth_bound depth (Rgba r g b a) (suc zero) of_depth = of_depth.1
nth_bound depth (Rgba r g b a) (suc (suc zero)) of_depth = of_depth.2
nth_bound depth (Rgba r g b a) (suc (suc (suc k))) of_depth = of_depth.3
nth_bound depth (Alpha a) k of_depth = of_depth

pub nth_clear : (c : Components) (k : ℕ) → nth (clear c) k ≡ 0
nth_clear components.Rgba zero = refl
nth_clear components.Rgba (suc zero) = refl
nth_clear components.Rgba (suc (suc zero)) = refl
nth_clear components.Rgba (suc (suc (suc k))) = refl
nth_clear components.Alpha k = refl

pub each_same : (c : Components) (f g : ℕ → ℕ) → ((k : ℕ) → f k ≡ g k) → each c f ≡ each c g
each_same components.Rgba f g same = let p = same 0 in let q = same 1 in let r = same 2 in let s = same 3 in cc
each_same components.Alpha f g same = ap Alpha (same 0)

pub each_of : (p : Pixel) → each (components_of p) (nth p) ≡ p
each_of (Rgba r g b a) = refl
each_of (Alpha a) = refl

pub each_clear : (c : Components) → each c (λ k. 0) ≡ clear c
each_clear components.Rgba = refl
each_clear components.Alpha = refl

-- a pixel whose samples are within the depth
pub each_is_pixel : (depth : Depth) (c : Components) (f : ℕ → ℕ) → ((k : ℕ) → f k ≤ greatest depth)
    → IsOfDepth depth (each c f) × (components_of (each c f) ≡ c)
each_is_pixel depth components.Rgba f bound = ((bound 0, bound 1, bound 2, bound 3), refl)
each_is_pixel depth components.Alpha f bound = (bound 0, refl)

-- ---- rounded quotients

pub rounded_bound : (p q m : ℕ) → 0 < q → p ≤ q * m → rounded p q ≤ m
rounded_bound p q m some few =
    let low : 2 * p + q < (m + 1) * (2 * q) = omega arith in
    let h : (2 * p + q) / (2 * q) < m + 1 = div_below (2 * p + q) (2 * q) (m + 1) (omega arith) low in
    omega (arith, h)

pub rounded_zero : (q : ℕ) → 0 < q → rounded 0 q ≡ 0
rounded_zero q some = div-eq_of_lt (omega arith)

pub rounded_one : (p : ℕ) → rounded p 1 ≡ p
rounded_one p = omega arith

-- ---- means

sum_zero : (k : ℕ) (c : Components) (pixels : List Pixel) → All (λ p. p ≡ clear c) pixels → sum_of k pixels ≡ 0
sum_zero k c [] all = refl
sum_zero k c (p ∷ ps) all =
    let here = All-head (λ p. p ≡ clear c) p ps all in
    let rest = sum_zero k c ps (All-tail (λ p. p ≡ clear c) p ps all) in
    let first : nth p k ≡ 0 = ap (λ q. nth q k) here ∙ nth_clear c k in
    omega (arith, sum_by-cons (λ p. nth p k) p ps, first, rest)

-- of zero pixels
pub mean_clear : (c : Components) (n : ℕ) (pixels : List Pixel) → 0 < n → All (λ p. p ≡ clear c) pixels
    → mean_of c n pixels ≡ clear c
mean_clear c n pixels some all =
    each_same c (λ k. rounded (sum_of k pixels) n) (λ k. 0)
    (λ k. ap (λ s. rounded s n) (sum_zero k c pixels all) ∙ rounded_zero n some)
    ∙ each_clear c

add-zero : (n : ℕ) → n + 0 ≡ n
add-zero n = omega arith

-- of one pixel
pub mean_one : (p : Pixel) → mean_of (components_of p) 1 (p ∷ []) ≡ p
mean_one p =
    each_same (components_of p) (λ k. rounded (sum_of k (p ∷ [])) 1) (nth p)
    (λ k. ap (λ s. rounded s 1) (sum_by-cons (λ q. nth q k) p [] ∙ add-zero (nth p k)) ∙ rounded_one (nth p k))
    ∙ each_of p

sum_bound : (depth : Depth) (k : ℕ) (pixels : List Pixel) → All (IsOfDepth depth) pixels
    → sum_of k pixels ≤ length pixels * greatest depth
sum_bound depth k pixels all =
    sum_by-le (λ p. nth p k) (greatest depth) pixels
    (All-weaker (IsOfDepth depth) (λ p. nth p k ≤ greatest depth) (λ p is. nth_bound depth p k is) pixels all)

-- of as many pixels of the depth
pub mean_is_pixel : (depth : Depth) (c : Components) (n : ℕ) (pixels : List Pixel) → 0 < n → length pixels ≡ n
    → All (IsOfDepth depth) pixels → IsOfDepth depth (mean_of c n pixels) × (components_of (mean_of c n pixels) ≡ c)
mean_is_pixel depth c n pixels some many all =
    each_is_pixel depth c (λ k. rounded (sum_of k pixels) n) (λ k.
    rounded_bound (sum_of k pixels) n (greatest depth) some (let h = sum_bound depth k pixels all in rw (← many) h))
