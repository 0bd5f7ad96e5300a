use Rattle.std.proofs.Common.{◌≡◌, []}
use Rattle.fx_units.proofs.pool.draw_out.Given as goal

abbrev pub invariant-loop : goal.invariant-loop
invariant-loop l = (l.seat.draw ≡ l.draw) × (l.seat.past ≡ [])
