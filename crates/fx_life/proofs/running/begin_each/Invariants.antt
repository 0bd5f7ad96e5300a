use Rattle.std.proofs.Common.{◌≡◌, ◌≤◌, ◌+◌, length}
use Rattle.std.specs.Vec.{vec_capacity}
use Rattle.fx_life.specs.Running.{members, planned}
use Rattle.fx_life.proofs.running.begin_each.Given as goal

abbrev pub invariant-loop-instance : goal.invariant-loop-instance
invariant-loop-instance g l =
    record {
      same : members l.idle.items l.in_sequence.items ≡ members l.fn.idle.items l.fn.in_sequence.items;
      planned : planned l.first l.last l.idle.items l.in_sequence.items
          ≡ planned l.first l.last l.fn.idle.items l.fn.in_sequence.items;
      room : length l.idle.items + length l.in_sequence.items ≤ vec_capacity l.idle;
      sequence_room : length l.idle.items + length l.in_sequence.items ≤ vec_capacity l.in_sequence;
    }

abbrev pub decreases-loop-instance : goal.decreases-loop-instance
decreases-loop-instance g l = length l.idle.items
