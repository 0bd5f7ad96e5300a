-- The whole numbers and the places round one.
use Rattle.std.specs.Prelude.{ℕ, ◌+◌, ◌*◌, ℤ, pos, ◌-ℤ◌, List, map}
use Rattle.std.specs.List.{flat_map}
use Rattle.fx_base.specs.Run.{int_run}

-- the whole numbers at most r from a
abbrev pub around : ℤ → ℕ → List ℤ
around a r = int_run (a -ℤ pos r) (2 * r + 1)

-- what stands at the places of column x at most r rows from row y
abbrev pub column : {X : Type 0} → (ℤ → ℤ → X) → ℕ → ℤ → ℤ → List X
column at r y x = map (λ row. at x row) (around y r)

-- what stands at the places at most rx columns and ry rows from a place, column by column
abbrev pub square : {X : Type 0} → (ℤ → ℤ → X) → ℕ → ℕ → ℤ → ℤ → List X
square at rx ry x y = flat_map (column at ry y) (around x rx)
