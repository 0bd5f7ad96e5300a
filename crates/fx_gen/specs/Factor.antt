-- The reciprocal of a size of squares.
use Rattle.std.specs.Prelude.{◌≡◌, ◌<◌, ◌≤◌, ℕ, ◌+◌, ◌/◌}

-- the factor is just above 2^32 over the size
pub record HasFactor (size factor : ℕ) : Type 0 where
  pub some : 0 < size
  pub few : size ≤ 4096
  pub value : factor ≡ 4294967296 / size + 1
