use Rattle.std.proofs.Common.{◌≡◌, ◌≤◌, ◌<◌, ◌+◌, ℕ}
use Rattle.fx_image.specs.Stored.{sample_in}
use Rattle.fx_kernel.specs.Samples.{rounded}
use Rattle.fx_time.proofs.three.mean_samples.Given as goal

abbrev pub invariant-loop-s : goal.invariant-loop-s
invariant-loop-s l =
    record {
      done : (k : ℕ) → k < l.s → sample_in l.depth l.row k ≡ rounded (sample_in l.depth l.one k + sample_in l.depth l.two k + sample_in l.depth l.fn.row k) 3;
      rest : (k : ℕ) → l.s ≤ k → sample_in l.depth l.row k ≡ sample_in l.depth l.fn.row k;
    }
