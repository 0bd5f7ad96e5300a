-- A product that is divided, by a product with a reciprocal.
use Rattle.std.proofs.Common.{◌≡◌, ◌≤◌, ◌<◌, ℕ, ◌+◌, ◌-◌, ◌*◌, ◌/◌, ◌%◌, inl, inr, ap, arith, ◌∙◌}
use Rattle.std.proofs.Math.Nat.{mul-le-mul_right}
use Rattle.std.proofs.lemmas.Bool.{cases_lt}
use Rattle.std.proofs.lemmas.Nat.{div-add-mod', mod_below, div-mul-add, mul-le}
use Rattle.fx_time.specs.Echo.{weighed}

cancel_le : (a b d : ℕ) → 0 < d → a * d ≤ b * d → a ≤ b
cancel_le a b d some h =
    elim (cases_lt b a) [
      | inl more ↦ absurd (omega (arith, mul-le-mul_right d more, h, some))
      | inr le ↦ le
    ]

cancel_lt : (a b d : ℕ) → a * d < b * d → a < b
cancel_lt a b d h =
    elim (cases_lt a b) [
      | inl low ↦ low
      | inr le ↦ absurd (omega (arith, mul-le-mul_right d le, h))
    ]

-- the product of s and m lies between q and q + 1 times k
below_is : (s w d m k e q r : ℕ) → m * d ≡ w * k + e → q * d + r ≡ s * w → q * k * d ≤ s * m * d
below_is s w d m k e q r is whole = omega (arith, ap (λ z. s * z) is, ap (λ z. z * k) whole)

above_is : (s w d m k e q r : ℕ) → m * d ≡ w * k + e → q * d + r ≡ s * w → r < d → s * e < k → s * m * d < (q + 1) * k * d
above_is s w d m k e q r is whole low small =
    omega (arith, ap (λ z. s * z) is, ap (λ z. z * k) whole, mul-le-mul_right k low, small)

by_factor : (s w d m k e : ℕ) → 0 < d → m * d ≡ w * k + e → s * e < k → s * m / k ≡ s * w / d
by_factor s w d m k e some is small =
    let q = s * w / d in
    let r = s * w % d in
    let whole : q * d + r ≡ s * w = div-add-mod' (s * w) d in
    let low : r < d = mod_below (s * w) d some in
    let least = cancel_le (q * k) (s * m) d some (below_is s w d m k e q r is whole) in
    let most = cancel_lt (s * m) ((q + 1) * k) d (above_is s w d m k e q r is whole low small) in
    let rest = s * m - q * k in
    let parts : s * m ≡ q * k + rest = omega (arith, least) in
    ap (λ n. n / k) parts ∙ div-mul-add q k rest (omega (arith, least, most))

excess : (d a : ℕ) → 0 < d → (a / d + 1) * d ≡ a + (d - a % d)
excess d a some = omega (arith, div-add-mod' a d, mod_below a d some)

-- the weighed sample
pub weighed_is : (n k s : ℕ) → n ≤ 8 → s ≤ 65535
    → s * ((n + 1 - k) * 4294967296 / (n + 1) + 1) / 4294967296 ≡ weighed n k s
weighed_is n k s few low =
    let d = n + 1 in
    let w = n + 1 - k in
    let a = w * 4294967296 in
    let e = d - a % d in
    let h : s * e ≤ 65535 * 9 = mul-le s e 65535 9 low (omega arith) in
    by_factor s w d (a / d + 1) 4294967296 e (omega arith) (excess d a (omega arith)) (omega (arith, h))

-- no weight is above 1
pub factor_small : (n k : ℕ) → (n + 1 - k) * 4294967296 / (n + 1) + 1 ≤ 4294967297
factor_small n k =
    let d = n + 1 in
    let a = (n + 1 - k) * 4294967296 in
    let whole = div-add-mod' a d in
    let most : a / d ≤ 4294967296 = cancel_le (a / d) 4294967296 d (omega arith) (omega (arith, whole)) in
    omega (arith, most)
