use Rattle.std.proofs.Common.{◌≡◌, None}
use Rattle.fx_speed.proofs.turns.add.Given as goal

abbrev pub invariant-loop : goal.invariant-loop
invariant-loop g l = (l.seat.row ≡ l.turns) × (l.seat.turn ≡ None)
