-- Quotients by a product with a reciprocal.
use Rattle.std.proofs.Common.{◌≡◌, ◌≤◌, ◌<◌, ℕ, zero, suc, ◌+◌, ◌-◌, ◌*◌, ◌/◌, ◌%◌, min, ◌==◌, false, if◌then◌else◌, inl, inr, ap, sym, arith, ◌∙◌}
use Rattle.std.proofs.Math.Nat.{mul-le-mul_left, mul-le-mul_right}
use Rattle.std.proofs.lemmas.Bool.{cases_lt}
use Rattle.std.proofs.lemmas.Bool.Decides.{nat_tests}
use Rattle.std.proofs.lemmas.Nat.{div-add-mod', mod_below, div-mul-add, le-div, mul-le}
use Rattle.fx_kernel.specs.SampleLaws.{rounded_bound}
use Rattle.fx_point.specs.Factors.{factor_of}
use Rattle.fx_point.specs.Unpremult.{quotient}

rest_low : (p d q r m e k : ℕ) → q * d + r ≡ p → m * d ≡ k + e → r < d → p * e < k → q * e + r * m < k
rest_low p d q r m e k whole is low small =
    let t = q * e + r * m in
    let times : d * t ≡ p * e + r * k = omega (arith, ap (λ z. z * e) whole, ap (λ z. r * z) is) in
    elim (cases_lt t k) [
      | inl h ↦ h
      | inr high ↦ absurd (omega (arith, mul-le-mul_left d high, mul-le-mul_right k low, times))
    ]

-- where the product of m and d is k and an excess, and the excess is small
pub by_factor : (p d m e k : ℕ) → 0 < d → m * d ≡ k + e → p * e < k → p * m / k ≡ p / d
by_factor p d m e k some is small =
    let q = p / d in
    let r = p % d in
    let whole : q * d + r ≡ p = div-add-mod' p d in
    let split : p * m ≡ q * k + (q * e + r * m) = omega (arith, ap (λ z. z * m) whole, ap (λ z. q * z) is) in
    rw split (div-mul-add q k (q * e + r * m) (rest_low p d q r m e k whole is (mod_below p d some) small))

-- the factor is more than 2^32 over its divisor, by a part of 1
pub excess : (d k : ℕ) → 0 < d → (k / d + 1) * d ≡ k + (d - k % d)
excess d k some = omega (arith, div-add-mod' k d, mod_below k d some)

small : (p e : ℕ) → p ≤ 131071 → e ≤ 510 → p * e < 4294967296
small p e few low = omega (arith, mul-le p e 131071 510 few low)

by_byte : (p a : ℕ) → 0 < a → a ≤ 255 → p ≤ 131071
    → p * (4294967296 / (2 * a) + 1) / 4294967296 ≡ p / (2 * a)
by_byte p a some few low =
    let d = 2 * a in
    let more : 0 < d = omega arith in
    let rest = d - 4294967296 % d in
    let least : rest ≤ 510 = omega arith in
    by_factor p d (4294967296 / d + 1) rest 4294967296 more (excess d 4294967296 more) (small p rest low least)

is_some : (a : ℕ) → 0 < a → (a == 0) ≡ false
is_some a some = grind (arith, nat_tests)

abbrev over : ℕ → ℕ → ℕ
over a n = (2 * (n * 255) + a) / (2 * a)

full_over : (a : ℕ) → 0 < a → over a a ≡ 255
full_over a some =
    let split : 2 * (a * 255) + a ≡ 255 * (2 * a) + a = omega arith in
    rw split (div-mul-add 255 (2 * a) a (omega (arith, some)))

more_over : (a c : ℕ) → 0 < a → a < c → 255 ≤ over a c
more_over a c some above = le-div 255 (2 * (c * 255) + a) (2 * a) (omega (arith, some)) (omega (arith, above))

less_over : (a c : ℕ) → 0 < a → c ≤ a → over a c ≤ 255
less_over a c some below = rounded_bound (c * 255) a 255 some (omega (arith, below))

-- a sample above a stands for a
kept_over : (a c : ℕ) → 0 < a → over a (min c a) ≡ min 255 (over a c)
kept_over a c some =
    elim (cases_lt a c) [
      | inl above ↦
          let kept : min c a ≡ a = omega (arith, above) in
          let least : 255 ≡ min 255 (over a c) = omega (arith, more_over a c some above) in
          ap (over a) kept ∙ full_over a some ∙ least
      | inr below ↦
          let kept : min c a ≡ c = omega (arith, below) in
          let least : over a c ≡ min 255 (over a c) = omega (arith, less_over a c some below) in
          ap (over a) kept ∙ least
    ]

none_over : (factor c : ℕ) → factor ≡ 0 → (min c 0 * 510 + 0) * factor / 4294967296 ≡ 0
none_over factor c is = rw is (omega arith)

some_over : (factor a c : ℕ) → 0 < a → factor ≡ 4294967296 / (2 * a) + 1 → a ≤ 255
    → (min c a * 510 + a) * factor / 4294967296 ≡ min 255 (over a c)
some_over factor a c some is few =
    let p = min c a * 510 + a in
    let same : p ≡ 2 * (min c a * 255) + a = omega arith in
    ap (λ f. p * f / 4294967296) is ∙ by_byte p a some few (omega (arith, few)) ∙ ap (λ n. n / (2 * a)) same
    ∙ kept_over a c some

-- a byte over another
pub quotient_of : (factor a c : ℕ) → factor ≡ factor_of a → a ≤ 255
    → (min c a * 510 + a) * factor / 4294967296 ≡ quotient 255 a c
quotient_of factor zero c is few = none_over factor c is
quotient_of factor (suc a) c is few =
    let some = is_some (suc a) (omega arith) in
    let of : factor ≡ 4294967296 / (2 * suc a) + 1 =
    is ∙ ap (λ none. if none then 0 else 4294967296 / (2 * suc a) + 1) some in
    some_over factor (suc a) c (omega arith) of few
    ∙ ap (λ none. if none then 0 else min 255 (over (suc a) c)) (sym some)

pub quotient_small : (a c : ℕ) → quotient 255 a c ≤ 255
quotient_small zero c = omega arith
quotient_small (suc a) c = rw (is_some (suc a) (omega arith)) (omega arith)
