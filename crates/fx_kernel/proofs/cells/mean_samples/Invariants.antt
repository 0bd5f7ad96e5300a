use Rattle.std.proofs.Common.{◌≡◌, ◌<◌, ℕ, length, slice_index}
use Rattle.fx_image.specs.Stored.{sample_in}
use Rattle.fx_kernel.specs.Samples.{rounded}
use Rattle.fx_kernel.proofs.cells.mean_samples.Given as goal

abbrev pub invariant-loop-s : goal.invariant-loop-s
invariant-loop-s l =
    record {
      until : l.s-end ≡ length l.cells;
      done : (k : ℕ) → k < l.s → sample_in l.depth l.row k ≡ rounded (slice_index l.cells k) l.mean;
    }
