use Rattle.std.proofs.Common.{◌≡◌, ◌+◌, None, All}
use Rattle.fx_speed.proofs.turns.split_off.Given as goal

abbrev pub invariant-loop : goal.invariant-loop
invariant-loop l = (l.first.row ≡ l.turns) × (l.first.turn ≡ None) × (l.first.parts + l.counter ≡ l.fn.first.parts) × All (λ s. (s.row ≡ l.turns) × (s.turn ≡ None)) l.seats.items
