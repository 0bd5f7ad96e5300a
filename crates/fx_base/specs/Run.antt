-- Runs of whole numbers.
use Rattle.std.specs.Prelude.{ℕ, zero, suc, ℤ, pos, ◌+ℤ◌, List, [], ◌∷◌}
use Rattle.std.specs.Int.{int_gap}

-- n whole numbers from a on
abbrev pub int_run : ℤ → ℕ → List ℤ
int_run a zero = []
int_run a (suc n) = a ∷ int_run (a +ℤ pos 1) n

-- the whole numbers from the first up to the end, without it
abbrev pub int_range : ℤ → ℤ → List ℤ
int_range first end = int_run first (int_gap first end)
