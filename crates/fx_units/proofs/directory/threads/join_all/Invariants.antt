use Rattle.std.proofs.Common.{◌≡◌, ◌+◌, All, vec_len}
use Rattle.fx_units.specs.DirectoryAskers.{IsIdle}
use Rattle.fx_units.proofs.directory.threads.join_all.Given as goal

abbrev pub invariant-loop-seat : goal.invariant-loop-seat
invariant-loop-seat l = IsIdle l.doubles l.first × (l.first.parts + vec_len l.askers ≡ l.fn.first.parts + vec_len l.initial.askers) × All (λ a. IsIdle l.doubles a.seat × (a.seat.parts ≡ 1)) l.askers.items

abbrev pub decreases-loop-seat : goal.decreases-loop-seat
decreases-loop-seat l = vec_len l.askers
