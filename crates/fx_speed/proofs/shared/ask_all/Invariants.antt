use Rattle.std.proofs.Common.{◌≡◌, []}
use Rattle.fx_speed.proofs.shared.ask_all.Given as goal

abbrev pub invariant-loop : goal.invariant-loop
invariant-loop g l = record { row : l.seat.row ≡ l.numbers; idle : l.seat.aloft ≡ [] }
