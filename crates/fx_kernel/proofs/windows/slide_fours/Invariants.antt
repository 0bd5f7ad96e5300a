use Rattle.std.proofs.Common.{◌≡◌, ◌<◌, ◌+◌, ◌*◌, ℕ, length, slice_index}
use Rattle.fx_kernel.specs.Samples.{rounded}
use Rattle.fx_kernel.specs.Window.{window, strided}
use Rattle.fx_kernel.proofs.windows.slide_fours.Given as goal

abbrev pub invariant-loop-i : goal.invariant-loop-i
invariant-loop-i l =
    record {
      len : length l.sums ≡ 4;
      value : (k : ℕ) → k < 4 → slice_index l.sums k ≡ window (strided l.cells 4 (k + 4 * l.i)) l.more;
      done : (j k : ℕ) → j < l.i → k < 4 → slice_index l.row (k + 4 * j) ≡ rounded (window (strided l.cells 4 (k + 4 * j)) (l.more + 1)) l.mean;
    }
