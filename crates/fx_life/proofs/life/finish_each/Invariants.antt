use Rattle.std.proofs.Common.{◌≡◌, ◌≤◌, ◌+◌, length}
use Rattle.std.specs.Vec.{vec_capacity}
use Rattle.fx_life.specs.Posts.{handed}
use Rattle.fx_life.proofs.life.finish_each.Given as goal

abbrev pub invariant-loop-run : goal.invariant-loop-run
invariant-loop-run g l =
    record {
      room : length l.running.items + length l.effects.items ≤ vec_capacity l.effects;
      handed : handed l.effects.items l.running.items ≡ handed l.initial.effects.items l.initial.running.items;
    }

abbrev pub decreases-loop-run : goal.decreases-loop-run
decreases-loop-run g l = goal.left-loop-run g l
