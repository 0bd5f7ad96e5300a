use Rattle.std.proofs.Common.{◌≡◌, ◌≤◌, ◌<◌, ◌+◌, ◌*◌, ℕ}
use Rattle.fx_pixel.specs.declared.Depth.TheVariants.{Short}
use Rattle.fx_image.specs.Stored.{sample_in}
use Rattle.fx_area.specs.Extreme.{pick}
use Rattle.fx_area.proofs.extreme.spread_shorts.Given as goal

abbrev pub invariant-loop-block : goal.invariant-loop-block
invariant-loop-block l =
    record {
      done : (k : ℕ) → k < 16 * l.block → sample_in Short l.bytes k ≡ pick l.extreme (sample_in Short l.initial.bytes k) (sample_in Short l.initial.bytes (k + l.shift));
      left : (k : ℕ) → 16 * l.block ≤ k → sample_in Short l.bytes k ≡ sample_in Short l.initial.bytes k;
    }
