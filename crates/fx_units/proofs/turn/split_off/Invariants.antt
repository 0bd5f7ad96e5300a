use Rattle.std.proofs.Common.{◌≡◌, ◌+◌, None, All, vec_len}
use Rattle.fx_units.proofs.turn.split_off.Given as goal

abbrev pub invariant-loop : goal.invariant-loop
invariant-loop l = (l.first.row ≡ l.turns) × (l.first.turn ≡ None) × (l.first.parts + l.counter ≡ l.fn.first.parts) × (vec_len l.seats ≡ l.counter) × All (λ s. (s.row ≡ l.turns) × (s.turn ≡ None) × (s.parts ≡ 1)) l.seats.items
