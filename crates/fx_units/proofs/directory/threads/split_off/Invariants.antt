use Rattle.std.proofs.Common.{◌≡◌, ◌+◌, All, vec_len}
use Rattle.fx_units.specs.DirectoryAskers.{IsIdle}
use Rattle.fx_units.proofs.directory.threads.split_off.Given as goal

abbrev pub invariant-loop-random : goal.invariant-loop-random
invariant-loop-random l = IsIdle l.doubles l.first × (l.first.parts + l.random ≡ l.fn.first.parts) × (vec_len l.askers ≡ l.random) × All (λ a. IsIdle l.doubles a.seat × (a.seat.parts ≡ 1)) l.askers.items
