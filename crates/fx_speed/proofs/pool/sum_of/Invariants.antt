use Rattle.std.proofs.Common.{◌≡◌, []}
use Rattle.fx_speed.proofs.pool.sum_of.Given as goal

abbrev pub invariant-loop : goal.invariant-loop
invariant-loop l = (l.seat.draw ≡ l.draw) × (l.seat.past ≡ [])
