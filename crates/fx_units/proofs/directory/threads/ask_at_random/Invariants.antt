use Rattle.std.proofs.Common.{◌≡◌}
use Rattle.fx_units.specs.DirectoryAskers.{IsIdle}
use Rattle.fx_units.proofs.directory.threads.ask_at_random.Given as goal

abbrev pub invariant-loop : goal.invariant-loop
invariant-loop g l = IsIdle l.doubles l.asker.seat × (l.asker.seat.parts ≡ l.fn.asker.seat.parts)
