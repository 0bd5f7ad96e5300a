-- Samples that are blended and multiplied.
use Rattle.std.specs.Prelude.{ℕ, ◌+◌, ◌-◌, ◌*◌, ◌/◌}
use Rattle.fx_kernel.specs.Samples.{rounded}

-- a number of units of 1/65536, to the nearest whole number, halves up
abbrev pub in_units : ℕ → ℕ
in_units n = (n + 32768) / 65536

-- from one sample to another, by a level in units of 1/65536
abbrev pub blended : ℕ → ℕ → ℕ → ℕ
blended level from to = in_units (from * (65536 - level) + to * level)

-- the product of two samples, where m is the greatest and stands for 1
abbrev pub product : ℕ → ℕ → ℕ → ℕ
product m a b = rounded (a * b) m

-- a where k is m, b where it is 0, and between them the mean that k weighs
abbrev pub mixed : ℕ → ℕ → ℕ → ℕ → ℕ
mixed m k a b = rounded (a * k + b * (m - k)) m
