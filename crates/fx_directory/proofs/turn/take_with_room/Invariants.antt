use Rattle.std.proofs.Common.{◌≡◌}
use Rattle.fx_directory.proofs.turn.take_with_room.Given as goal

abbrev pub invariant-loop : goal.invariant-loop
invariant-loop g l = l.seat ≡ l.fn.seat
