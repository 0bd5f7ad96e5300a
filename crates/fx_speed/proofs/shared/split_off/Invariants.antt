use Rattle.std.proofs.Common.{◌≡◌, ◌+◌, [], All}
use Rattle.fx_speed.proofs.shared.split_off.Given as goal

abbrev pub invariant-loop : goal.invariant-loop
invariant-loop l = (l.first.row ≡ l.numbers) × (l.first.parts + l.counter ≡ l.fn.first.parts) × All (λ s. (s.row ≡ l.numbers) × (s.aloft ≡ [])) l.seats.items
