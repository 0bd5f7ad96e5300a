use Rattle.std.proofs.Common.{◌≡◌, ◌+◌, None, All, vec_len}
use Rattle.fx_units.proofs.turn.join_all.Given as goal

abbrev pub invariant-loop-seat : goal.invariant-loop-seat
invariant-loop-seat l = (l.first.row ≡ l.turns) × (l.first.turn ≡ None) × (l.first.parts + vec_len l.seats ≡ l.fn.first.parts + vec_len l.initial.seats) × All (λ s. (s.row ≡ l.turns) × (s.turn ≡ None) × (s.parts ≡ 1)) l.seats.items

abbrev pub decreases-loop-seat : goal.decreases-loop-seat
decreases-loop-seat l = vec_len l.seats
