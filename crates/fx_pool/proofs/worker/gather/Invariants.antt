use Rattle.std.proofs.Common.{◌≡◌, ◌+◌, ◌<◌, ◌≤◌, ◌++◌, All, false, length, reverse, vec_capacity, vec_len}
use Rattle.fx_pool.specs.Draws.{HasAll, all_parts}
use Rattle.fx_pool.specs.Working.{HasEnded, numbers_of, outs_of, seats_of}
use Rattle.fx_pool.proofs.worker.gather.Given as goal

abbrev pub invariant-loop-worker : goal.invariant-loop-worker
invariant-loop-worker g l = record {
  draw : l.all.draw ≡ l.draw;
  parts : l.all.parts + vec_len l.workers ≡ all_parts;
  all : l.all.parts ≡ all_parts → HasAll l.draw.count l.all.drawn l.all.past;
  count : vec_len l.seats + vec_len l.workers ≡ vec_len l.initial.workers;
  room : vec_len l.initial.workers ≤ vec_capacity l.seats;
  ended : All (HasEnded l.draw) l.workers.items;
  seats : l.seats.items ++ reverse (seats_of l.workers.items) ≡ reverse (seats_of l.initial.workers.items);
  works : l.gathered.failed ≡ false → All (λ w. w.failed ≡ false) l.workers.items → All (λ w. w.failed ≡ false) l.initial.workers.items;
  told : l.gathered.failed ≡ false → 0 < vec_len l.seats → 0 < length l.all.past;
  numbers : l.gathered.failed ≡ false → l.all.drawn ≡ numbers_of l.gathered.outs.items;
  outs : l.gathered.failed ≡ false → l.gathered.outs.items ++ outs_of (reverse l.workers.items) ≡ outs_of (reverse l.initial.workers.items);
}

abbrev pub decreases-loop-worker : goal.decreases-loop-worker
decreases-loop-worker g l = vec_len l.workers
