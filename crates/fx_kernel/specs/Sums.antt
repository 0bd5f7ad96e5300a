-- Sums of terms over whole numbers, a cell for each sum.
use Rattle.std.specs.Prelude.{◌≡◌, ◌≤◌, ◌<◌, ℕ, ℤ, pos, ◌+ℤ◌, ◌≤ℤ◌, ◌<ℤ◌, List, length, slice_index}
use Rattle.std.specs.List.{sum_by}
use Rattle.fx_base.specs.Run.{int_run}

-- each cell has the sum of its terms from a on, of which there are n, and none of these is above m
pub record AreSums (cells : List ℕ) (term : ℕ → ℤ → ℕ) (a : ℤ) (n m : ℕ) : Type 0 where
  pub sums : (s : ℕ) → s < length cells → slice_index cells s ≡ sum_by (term s) (int_run a n)
  pub bound : (s : ℕ) (j : ℤ) → s < length cells → a ≤ℤ j → j <ℤ (a +ℤ pos n) → term s j ≤ m
