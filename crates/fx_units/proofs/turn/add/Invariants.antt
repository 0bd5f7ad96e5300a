use Rattle.std.proofs.Common.{◌≡◌, None}
use Rattle.fx_units.proofs.turn.add.Given as goal

abbrev pub invariant-loop : goal.invariant-loop
invariant-loop g l = (l.seat.row ≡ l.turns) × (l.seat.turn ≡ None) × (l.seat.parts ≡ l.initial.seat.parts)
