use Rattle.std.proofs.Common.{◌≡◌, []}
use Rattle.fx_speed.proofs.shared.fill.Given as goal

abbrev pub invariant-loop-key : goal.invariant-loop-key
invariant-loop-key g l = record { row : l.seat.row ≡ l.numbers; idle : l.seat.aloft ≡ []; parts : l.seat.parts ≡ l.fn.seat.parts }
