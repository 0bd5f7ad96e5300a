use Rattle.std.proofs.Common.{◌≡◌, ◌≤◌, ◌<◌, ◌*◌, ℕ, slice_index}
use Rattle.fx_kernel.specs.Blends.{blended}
use Rattle.fx_kernel.proofs.blend.blend_bytes.Given as goal

abbrev pub invariant-loop-block : goal.invariant-loop-block
invariant-loop-block l =
    record {
      done : (k : ℕ) → k < 32 * l.block → slice_index l.row k ≡ blended l.level (slice_index l.fn.row k) (slice_index l.other k);
      left : (k : ℕ) → 32 * l.block ≤ k → slice_index l.row k ≡ slice_index l.fn.row k;
    }
