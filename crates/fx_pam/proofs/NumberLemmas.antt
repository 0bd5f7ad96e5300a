-- Numbers that are cut at a greatest one on the way.
use Rattle.std.proofs.Common.{◌≡◌, ◌≤◌, ◌<◌, ◌⊎◌, inl, inr, ℕ, ◌+◌, ◌-◌, ◌*◌, min, true, List, [], ◌∷◌, refl, ap, arith}
use Rattle.std.specs.Char.{digit_value, is_ascii_digit}
use Rattle.std.proofs.lemmas.Bool.Decides.{nat_tests}
use Rattle.std.specs.Str.Parse.{digits_value_after}
use Rattle.std.proofs.lemmas.Bool.{cases_lt}

-- more digits make no number smaller
grows : (v : ℕ) (ds : List ℕ) → v ≤ digits_value_after 10 v ds
grows v [] = omega arith
grows v (d ∷ ds) = omega (arith, grows (v * 10 + digit_value d) ds)

capped_by : (cap v : ℕ) (ds : List ℕ) → (v < cap) ⊎ (cap ≤ v) → min (digits_value_after 10 (min v cap) ds) cap ≡ min (digits_value_after 10 v ds) cap
capped_by cap v ds (inl low) = let e : min v cap ≡ v = omega arith in rw e refl
capped_by cap v ds (inr high) = let e : min v cap ≡ cap = omega arith in rw e (omega (arith, grows cap ds, grows v ds))

-- a number that was cut before its last digits is cut as the whole number is
pub capped : (cap v : ℕ) (ds : List ℕ) → min (digits_value_after 10 (min v cap) ds) cap ≡ min (digits_value_after 10 v ds) cap
capped cap v ds = capped_by cap v ds (cases_lt v cap)

-- the value of a digit
digit_value-digit : (b : ℕ) → is_ascii_digit b ≡ true → digit_value b ≡ b - 48
digit_value-digit b is = grind (arith, nat_tests)

pub value-next : (v b : ℕ) (ds : List ℕ) → is_ascii_digit b ≡ true → digits_value_after 10 v (b ∷ ds) ≡ digits_value_after 10 (v * 10 + (b - 48)) ds
value-next v b ds is = ap (λ d. digits_value_after 10 (v * 10 + d) ds) (digit_value-digit b is)
