use Rattle.std.proofs.Common.{◌≡◌, vec_len}
use Rattle.fx_pool.specs.Weights.{plus, weigh}
use Rattle.fx_tile.specs.Moments.{seat_weight}
use Rattle.fx_tile.specs.Seats.{AreAll}
use Rattle.fx_tile.proofs.share.Shared.join.Given as goal

abbrev pub invariant-loop-seat : goal.invariant-loop-seat
invariant-loop-seat g l =
    record {
      all : AreAll l.self l.first l.seats.items;
      made : plus (seat_weight l.first) (weigh seat_weight l.seats.items) ≡ plus (seat_weight l.fn.first) (weigh seat_weight l.fn.seats.items);
    }

abbrev pub decreases-loop-seat : goal.decreases-loop-seat
decreases-loop-seat g l = vec_len l.seats
