-- Numbers drawn from a number: a linear congruential generator of 32 bits, of which the upper 16 are told.
use Rattle.std.specs.Prelude.{ℕ, zero, suc, ◌+◌, ◌*◌, ◌/◌, ◌%◌, ◌^◌}

abbrev pub next_state : ℕ → ℕ
next_state r = (1664525 * r + 1013904223) % 2 ^ 32

-- the state after k draws
unfoldable pub state : ℕ → ℕ → ℕ
state number zero = number
state number (suc k) = next_state (state number k)

-- the k-th draw, from 1
abbrev pub draw : ℕ → ℕ → ℕ
draw number k = state number k / 65536
