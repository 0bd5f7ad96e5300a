use Rattle.std.proofs.Common.{◌≡◌, ◌+◌, ◌≤◌, ◌++◌, All, reverse, vec_capacity, vec_len}
use Rattle.fx_pool.specs.Working.{IsFresh, seats_of}
use Rattle.fx_pool.proofs.worker.set_up.Given as goal

abbrev pub invariant-loop-seat : goal.invariant-loop-seat
invariant-loop-seat g l = record {
  draw : l.all.draw ≡ l.draw;
  past : l.all.past ≡ l.initial.all.past;
  drawn : l.all.drawn ≡ l.initial.all.drawn;
  parts : l.all.parts + vec_len l.workers ≡ l.initial.all.parts;
  count : vec_len l.workers + vec_len l.seats ≡ vec_len l.initial.seats;
  kept : vec_capacity l.seats ≡ vec_capacity l.initial.seats;
  room : vec_len l.initial.seats ≤ vec_capacity l.workers;
  seats : seats_of l.workers.items ++ reverse l.seats.items ≡ reverse l.initial.seats.items;
  fresh : All (IsFresh l.draw) l.workers.items;
}

abbrev pub decreases-loop-seat : goal.decreases-loop-seat
decreases-loop-seat g l = vec_len l.seats
