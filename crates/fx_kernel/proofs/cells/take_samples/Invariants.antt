use Rattle.std.proofs.Common.{◌≡◌, ◌≤◌, ◌<◌, ◌+◌, ℕ, length, slice_index}
use Rattle.fx_image.specs.Stored.{sample_in}
use Rattle.fx_kernel.proofs.cells.take_samples.Given as goal

abbrev pub invariant-loop-s : goal.invariant-loop-s
invariant-loop-s l =
    record {
      until : l.s-end ≡ length l.fn.cells;
      done : (k : ℕ) → k < l.s → slice_index l.cells k + sample_in l.depth l.row k ≡ slice_index l.fn.cells k;
      rest : (k : ℕ) → l.s ≤ k → slice_index l.cells k ≡ slice_index l.fn.cells k;
    }
