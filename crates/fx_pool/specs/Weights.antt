-- A weight is two whole numbers, each of them added by itself.
use Rattle.std.specs.Prelude.{ℕ, ◌+◌, List, sum_by}

abbrev pub plus : ℕ × ℕ → ℕ × ℕ → ℕ × ℕ
plus v w = (v.0 + w.0, v.1 + w.1)

-- what these weigh together
abbrev pub weigh : {A : Type 0} → (A → ℕ × ℕ) → List A → ℕ × ℕ
weigh f xs = (sum_by (λ x. (f x).0) xs, sum_by (λ x. (f x).1) xs)
