use Rattle.std.proofs.Common.{◌≡◌, vec_len, vec_capacity, ◌≤◌}
use Rattle.fx_pool.specs.Weights.{weigh}
use Rattle.fx_tile.specs.Moments.{seat_weight}
use Rattle.fx_tile.specs.Seats.{AreAll}
use Rattle.fx_tile.proofs.share.Shared.split.Given as goal

abbrev pub invariant-loop : goal.invariant-loop
invariant-loop g l =
    record {
      count : vec_len l.seats ≡ l.counter;
      room : l.workers ≤ vec_capacity l.seats;
      all : AreAll l.self l.first l.seats.items;
      nothing : weigh seat_weight l.seats.items ≡ (0, 0);
      made : seat_weight l.first ≡ seat_weight l.fn.first;
    }
