-- Reciprocals of the samples of byte depth.
use Rattle.std.specs.Prelude.{◌≡◌, ◌<◌, ℕ, ◌+◌, ◌*◌, ◌/◌, ◌==◌, List, slice_index, if◌then◌else◌}

-- just above 2^32 over twice the sample, and nothing for 0
abbrev pub factor_of : ℕ → ℕ
factor_of a = if a == 0 then 0 else 4294967296 / (2 * a) + 1

pub record HasFactors (factors : List ℕ) : Type 0 where
  pub each : (a : ℕ) → a < 256 → slice_index factors a ≡ factor_of a
