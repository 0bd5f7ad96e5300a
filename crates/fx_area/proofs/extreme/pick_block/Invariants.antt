use Rattle.std.proofs.Common.{◌≡◌, ◌<◌, ◌+◌, ℕ}
use Rattle.fx_image.specs.Stored.{sample_in}
use Rattle.fx_area.specs.Extreme.{pick}
use Rattle.fx_area.proofs.extreme.pick_block.Given as goal

abbrev pub invariant-loop-k : goal.invariant-loop-k
invariant-loop-k l =
    record {
      done : (j : ℕ) → j < l.k → sample_in l.depth l.block j ≡ pick l.extreme (sample_in l.depth l.bytes (l.first + j)) (sample_in l.depth l.bytes (l.first + j + l.shift));
    }
