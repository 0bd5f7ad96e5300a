use Rattle.std.proofs.Common.{◌≡◌, ◌≤◌, ◌+◌, length}
use Rattle.std.specs.Vec.{vec_capacity}
use Rattle.fx_life.specs.Running.{members}
use Rattle.fx_life.proofs.running.end_each.Given as goal

abbrev pub invariant-loop-sequence : goal.invariant-loop-sequence
invariant-loop-sequence g l =
    record {
      same : members l.idle.items l.in_sequence.items ≡ members l.fn.idle.items l.fn.in_sequence.items;
      room : length l.idle.items + length l.in_sequence.items ≤ vec_capacity l.idle;
    }

abbrev pub decreases-loop-sequence : goal.decreases-loop-sequence
decreases-loop-sequence g l = goal.left-loop-sequence g l
