-- Quotients by a product with a reciprocal.
use Rattle.std.proofs.Common.{◌≡◌, ◌≤◌, ◌<◌, ℕ, ◌+◌, ◌-◌, ◌*◌, ◌/◌, ◌%◌, ℤ, pos, negsuc, ◌≤ℤ◌, ◌<ℤ◌, inl, inr, ap, arith, ◌∙◌}
use Rattle.std.specs.Int.RustNames.{unsigned_abs}
use Rattle.std.proofs.Math.Nat.{mul-le-mul_left, mul-le-mul_right}
use Rattle.std.proofs.lemmas.Bool.{cases_lt}
use Rattle.std.proofs.lemmas.Int.{ints}
use Rattle.std.proofs.lemmas.Nat.{div-add-mod', mod_below, div-mul-add, mul-le}
use Rattle.fx_gen.specs.Factor.{HasFactor}
use Rattle.fx_gen.specs.Checker.{square}

rest_low : (p d q r m e k : ℕ) → q * d + r ≡ p → m * d ≡ k + e → r < d → p * e < k → q * e + r * m < k
rest_low p d q r m e k whole is low small =
    let t = q * e + r * m in
    let times : d * t ≡ p * e + r * k = omega (arith, ap (λ z. z * e) whole, ap (λ z. r * z) is) in
    elim (cases_lt t k) [
      | inl h ↦ h
      | inr high ↦ absurd (omega (arith, mul-le-mul_left d high, mul-le-mul_right k low, times))
    ]

-- where the product of m and d is k and an excess, and the excess is small
by_factor : (p d m e k : ℕ) → 0 < d → m * d ≡ k + e → p * e < k → p * m / k ≡ p / d
by_factor p d m e k some is small =
    let q = p / d in
    let r = p % d in
    let whole : q * d + r ≡ p = div-add-mod' p d in
    let split : p * m ≡ q * k + (q * e + r * m) = omega (arith, ap (λ z. z * m) whole, ap (λ z. q * z) is) in
    rw split (div-mul-add q k (q * e + r * m) (rest_low p d q r m e k whole is (mod_below p d some) small))

-- the factor is more than 2^32 over its divisor, by a part of 1
excess : (d k : ℕ) → 0 < d → (k / d + 1) * d ≡ k + (d - k % d)
excess d k some = omega (arith, div-add-mod' k d, mod_below k d some)

small : (p e : ℕ) → p ≤ 8191 → e ≤ 4096 → p * e < 4294967296
small p e few low = omega (arith, mul-le p e 8191 4096 few low)

by_size : (p size : ℕ) → 0 < size → size ≤ 4096 → p ≤ 8191
    → p * (4294967296 / size + 1) / 4294967296 ≡ p / size
by_size p size some few low =
    let rest = size - 4294967296 % size in
    let least : rest ≤ 4096 = omega arith in
    by_factor p size (4294967296 / size + 1) rest 4294967296 some (excess size 4294967296 some) (small p rest low least)

-- the square of a place of a project
pub square_of : (size factor : ℕ) (place : ℤ) → HasFactor size factor → pos 0 ≤ℤ place → place <ℤ pos 8192
    → unsigned_abs place * factor / 4294967296 ≡ square (pos size) place
square_of size factor (pos n) has start end =
    ap (λ f. n * f / 4294967296) has.value ∙ by_size n size has.some has.few (omega (arith, ints))
square_of size factor (negsuc n) has start end = absurd (omega (arith, ints))
