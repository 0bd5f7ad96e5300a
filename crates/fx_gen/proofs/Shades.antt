-- Shades by a mean of the places that a side has.
use Rattle.std.proofs.Common.{◌≡◌, ◌≤◌, ◌<◌, ℕ, zero, suc, ◌+◌, ◌-◌, ◌*◌, ◌/◌, ◌==◌, min, max, ℤ, pos, negsuc, if◌then◌else◌, true, false, inl, inr, ap, sym, refl, zero-mul, arith, ◌∙◌}
use Rattle.std.specs.Int.{int_min, int_max}
use Rattle.std.specs.Int.RustNames.{unsigned_abs}
use Rattle.std.proofs.Math.Nat.{mul-le-mul_right}
use Rattle.std.proofs.lemmas.Bool.{cases_lt}
use Rattle.std.proofs.lemmas.Bool.Decides.{nat_tests}
use Rattle.std.proofs.lemmas.Int.{ints, clamps}
use Rattle.std.proofs.lemmas.Nat.{le-div, div-mul-add}
use Rattle.fx_kernel.specs.Samples.{rounded}
use Rattle.fx_kernel.specs.SampleLaws.{rounded_bound, rounded_zero}
use Rattle.fx_gen.specs.Ramp.{shade}

-- the whole side is the greatest sample
whole : (m q : ℕ) → 0 < q → rounded (q * m) q ≡ m
whole m q some =
    let split : 2 * (q * m) + q ≡ m * (2 * q) + q = omega arith in
    rw split (div-mul-add m (2 * q) q (omega arith))

beyond : (m n q : ℕ) → 0 < q → q ≤ n → m ≤ rounded (n * m) q
beyond m n q some far =
    let more = mul-le-mul_right m far in
    le-div m (2 * (n * m) + q) (2 * q) (omega arith) (omega (arith, more))

low_is : (m n q : ℕ) → n ≤ q → min n q ≡ n
low_is m n q low = omega arith

least : (m n : ℕ) → n ≤ m → n ≡ min m n
least m n few = omega arith

most : (m n : ℕ) → m ≤ n → m ≡ min m n
most m n high = omega arith

-- on a side with more places than one
along : (m n q : ℕ) → 0 < q → rounded (min n q * m) q ≡ min m (rounded (n * m) q)
along m n q some =
    elim (cases_lt n q) [
      | inl low ↦
          ap (λ k. rounded (k * m) q) (low_is m n q (omega arith))
          ∙ least m (rounded (n * m) q)
          (rounded_bound (n * m) q m some (let h = mul-le-mul_right m (low_le n q low) in h))
      | inr far ↦
          ap (λ k. rounded (k * m) q) (far_is n q far) ∙ whole m q some
          ∙ most m (rounded (n * m) q) (beyond m n q some far)
    ]
  where
    low_le : (n q : ℕ) → n < q → n ≤ q
    low_le n q low = omega arith

    far_is : (n q : ℕ) → q ≤ n → min n q ≡ q
    far_is n q far = omega arith

one_place : (m n count : ℕ) → count ≡ 1 → rounded (min n 0 * m) count ≡ 0
one_place m n count is =
    let none : min n 0 ≡ 0 = omega arith in
    ap (λ k. rounded (k * m) count) none ∙ ap (λ p. rounded p count) (zero-mul m) ∙ rounded_zero count (omega arith)

is_one : (last : ℕ) → last ≡ 0 → (last + 1 == 1) ≡ true
is_one last is = grind (arith, nat_tests)

not_one : (last : ℕ) → 0 < last → (last + 1 == 1) ≡ false
not_one last some = grind (arith, nat_tests)

place_is : (m n last count : ℕ) → count ≡ max last 1
    → rounded (min n last * m) count ≡ shade m (pos (last + 1)) (pos n)
place_is m n zero count is =
    one_place m n count (is ∙ refl)
    ∙ ap (λ one. if one then 0 else min m (rounded (n * m) (0 + 1 - 1))) (sym (is_one 0 refl))
place_is m n (suc last) count is =
    let more : count ≡ suc last = omega arith in
    let back : suc last ≡ suc last + 1 - 1 = omega arith in
    ap (rounded (min n (suc last) * m)) more ∙ along m n (suc last) (omega arith)
    ∙ ap (λ q. min m (rounded (n * m) q)) back
    ∙ ap (λ one. if one then 0 else min m (rounded (n * m) (suc last + 1 - 1))) (sym (not_one (suc last) (omega arith)))

-- the place is brought into the side before
pub shade_of : (m last count : ℕ) (place near : ℤ) → count ≡ max last 1
    → near ≡ int_max (pos 0) (int_min place (pos last))
    → rounded (unsigned_abs near * m) count ≡ shade m (pos (last + 1)) place
shade_of m last count (pos n) near is near_is =
    let low : near ≡ pos (min n last) = near_is ∙ brought n last in
    ap (λ z. rounded (unsigned_abs z * m) count) low ∙ place_is m n last count is
  where
    brought : (n last : ℕ) → int_max (pos 0) (int_min (pos n) (pos last)) ≡ pos (min n last)
    brought n last = omega (arith, ints, clamps)
shade_of m last count (negsuc n) near is near_is =
    let none : 0 * m ≡ 0 = omega arith in
    ap (λ z. rounded (unsigned_abs z * m) count) near_is ∙ ap (λ p. rounded p count) none
    ∙ rounded_zero count (omega arith)
