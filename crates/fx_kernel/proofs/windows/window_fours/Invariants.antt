use Rattle.std.proofs.Common.{◌≡◌, ◌<◌, ℕ, length, slice_index}
use Rattle.fx_kernel.specs.Window.{window, strided}
use Rattle.fx_kernel.proofs.windows.window_fours.Given as goal

abbrev pub invariant-loop-t : goal.invariant-loop-t
invariant-loop-t l =
    record {
      len : length l.sums ≡ 4;
      value : (k : ℕ) → k < 4 → slice_index l.sums k ≡ window (strided l.cells 4 k) l.t;
    }
