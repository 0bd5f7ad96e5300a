use Rattle.std.proofs.Common.{◌≡◌, ◌≤◌, ◌<◌, ◌+◌, ℕ}
use Rattle.fx_pixel.specs.declared.Depth.TheVariants.{Short}
use Rattle.fx_image.specs.Stored.{sample_in}
use Rattle.fx_area.specs.Extreme.{pick}
use Rattle.fx_area.proofs.extreme.spread_each.Given as goal

abbrev pub invariant-loop-s : goal.invariant-loop-s
invariant-loop-s l =
    record {
      done : (k : ℕ) → l.first ≤ k → k < l.s → sample_in Short l.bytes k ≡ pick l.extreme (sample_in Short l.initial.bytes k) (sample_in Short l.initial.bytes (k + l.shift));
      rest : (k : ℕ) → l.s ≤ k → sample_in Short l.bytes k ≡ sample_in Short l.initial.bytes k;
      left : (k : ℕ) → k < l.first → sample_in Short l.bytes k ≡ sample_in Short l.initial.bytes k;
    }
