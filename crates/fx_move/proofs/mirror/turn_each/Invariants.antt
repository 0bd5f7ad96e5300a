use Rattle.std.proofs.Common.{◌≡◌, ◌≤◌, ◌<◌, ◌-◌, ℕ}
use Rattle.fx_image.specs.Stored.{pixel_in}
use Rattle.fx_move.proofs.mirror.turn_each.Given as goal

abbrev pub invariant-loop-i : goal.invariant-loop-i
invariant-loop-i l =
    record {
      done : (k : ℕ) → k < l.i → l.first ≤ k → pixel_in l.depth l.components l.row k ≡ pixel_in l.depth l.components l.source ((l.count - 1) - k);
      left : (k : ℕ) → k < l.first → pixel_in l.depth l.components l.row k ≡ pixel_in l.depth l.components l.fn.row k;
    }
