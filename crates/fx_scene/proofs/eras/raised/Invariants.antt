use Rattle.std.proofs.Common.{◌≡◌, ◌<◌, ◌+◌, ℕ, length, false, slice_index_or, cond}
use Rattle.fx_scene.specs.Scripts.{era_in}
use Rattle.fx_scene.proofs.eras.raised.Given as goal

abbrev pub invariant-loop-n : goal.invariant-loop-n
invariant-loop-n l =
    record {
      long : length l.new.items ≡ l.n;
      eras : (k : ℕ) → k < l.n → era_in l.new.items k ≡ era_in l.eras k + cond (slice_index_or l.touched k false) 1 0;
    }
