-- What holds of samples that are blended and multiplied.
use Rattle.std.specs.Prelude.{◌≡◌, ◌≤◌, ◌<◌, ℕ, ◌+◌, ◌-◌, ◌*◌}
use Rattle.std.proofs.Common.{ap, arith, ◌∙◌}
use Rattle.std.proofs.Math.Nat.{mul-le-mul_right, mul-zero}
use Rattle.std.proofs.lemmas.Nat.{mul-le}
use Rattle.fx_kernel.specs.Samples.{rounded}
use Rattle.fx_kernel.specs.SampleLaws.{rounded_bound, rounded_zero}
use Rattle.fx_kernel.specs.Blends.{in_units, blended, product, mixed}

-- two weights together
weights : (m k d t : ℕ) → d + k ≡ t → m * d + m * k ≡ m * t
weights m k d t whole = rw (← whole) (omega arith)

-- ---- blends

pub in_units-bound : (n m : ℕ) → n ≤ m * 65536 → in_units n ≤ m
in_units-bound n m few = omega arith

pub blended_bound : (level from to m : ℕ) → level ≤ 65536 → from ≤ m → to ≤ m → blended level from to ≤ m
blended_bound level from to m low few many =
    let first = mul-le-mul_right (65536 - level) few in
    let second = mul-le-mul_right level many in
    let whole = weights m level (65536 - level) 65536 (omega arith) in
    in_units-bound (from * (65536 - level) + to * level) m (omega arith)

pub blended_zero : (level : ℕ) → blended level 0 0 ≡ 0
blended_zero level = omega arith

pub blended_first : (from to : ℕ) → blended 0 from to ≡ from
blended_first from to = omega arith

pub blended_last : (from to : ℕ) → blended 65536 from to ≡ to
blended_last from to = omega arith

-- ---- products over the greatest sample

product_room : (m a b : ℕ) → a ≤ m → b ≤ m → a * b ≤ m * m
product_room m a b few low = mul-le a b m m few low

pub product_bound : (m a b : ℕ) → 0 < m → a ≤ m → b ≤ m → product m a b ≤ m
product_bound m a b some few low = rounded_bound (a * b) m m some (product_room m a b few low)

pub product_zero : (m a : ℕ) → 0 < m → product m a 0 ≡ 0
product_zero m a some = ap (λ p. rounded p m) (mul-zero a) ∙ rounded_zero m some

pub mixed_room : (m k a b : ℕ) → k ≤ m → a ≤ m → b ≤ m → a * k + b * (m - k) ≤ m * m
mixed_room m k a b low few many =
    let first = mul-le-mul_right k few in
    let second = mul-le-mul_right (m - k) many in
    let whole = weights m k (m - k) m (omega arith) in
    omega arith

pub mixed_bound : (m k a b : ℕ) → 0 < m → k ≤ m → a ≤ m → b ≤ m → mixed m k a b ≤ m
mixed_bound m k a b some low few many = rounded_bound (a * k + b * (m - k)) m m some (mixed_room m k a b low few many)

pub mixed_zero : (m k : ℕ) → 0 < m → mixed m k 0 0 ≡ 0
mixed_zero m k some =
    let none : 0 * k + 0 * (m - k) ≡ 0 = omega arith in
    ap (λ p. rounded p m) none ∙ rounded_zero m some
