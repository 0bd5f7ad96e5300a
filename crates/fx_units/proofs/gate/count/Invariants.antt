use Rattle.std.proofs.Common.{◌≡◌, None}
use Rattle.fx_units.proofs.gate.count.Given as goal

abbrev pub invariant-loop-round : goal.invariant-loop-round
invariant-loop-round g l = (l.seat.row ≡ l.gates) × (l.seat.turn ≡ None) × (l.seat.parts ≡ l.initial.seat.parts)
