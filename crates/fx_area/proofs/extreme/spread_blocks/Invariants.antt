use Rattle.std.proofs.Common.{◌≡◌, ◌≤◌, ◌<◌, ◌+◌, ◌-◌, ℕ}
use Rattle.fx_image.specs.Stored.{sample_in}
use Rattle.fx_area.specs.Extreme.{pick}
use Rattle.fx_area.proofs.extreme.spread_blocks.Given as goal

abbrev pub invariant-loop-first : goal.invariant-loop-first
invariant-loop-first l =
    record {
      end_is : l.end ≡ l.count - l.shift;
      most : l.first ≤ l.end;
      done : (k : ℕ) → k < l.first → sample_in l.depth l.bytes k ≡ pick l.extreme (sample_in l.depth l.initial.bytes k) (sample_in l.depth l.initial.bytes (k + l.shift));
      rest : (k : ℕ) → l.first ≤ k → sample_in l.depth l.bytes k ≡ sample_in l.depth l.initial.bytes k;
    }

abbrev pub decreases-loop-first : goal.decreases-loop-first
decreases-loop-first l = l.end - l.first
