-- The fronts of a row's pixels.
use Rattle.std.specs.Prelude.{ℕ, zero, suc, ◌*◌, List, [], ◌++◌, take, drop}

-- the first `kept` bytes of each of the first n runs of `size` bytes
abbrev pub fronts : ℕ → ℕ → List ℕ → ℕ → List ℕ
fronts size kept row zero = []
fronts size kept row (suc n) = fronts size kept row n ++ take kept (drop (n * size) row)
