use Rattle.std.proofs.Common.{◌≡◌, ◌≤◌, ◌<◌, ℕ}
use Rattle.fx_image.specs.Stored.{sample_in}
use Rattle.fx_kernel.specs.Blends.{blended}
use Rattle.fx_kernel.proofs.blend.blend_samples.Given as goal

abbrev pub invariant-loop-s : goal.invariant-loop-s
invariant-loop-s l =
    record {
      done : (k : ℕ) → l.first ≤ k → k < l.s → sample_in l.depth l.row k ≡ blended l.level (sample_in l.depth l.fn.row k) (sample_in l.depth l.other k);
      rest : (k : ℕ) → l.s ≤ k → sample_in l.depth l.row k ≡ sample_in l.depth l.fn.row k;
      left : (k : ℕ) → k < l.first → sample_in l.depth l.row k ≡ sample_in l.depth l.fn.row k;
    }
