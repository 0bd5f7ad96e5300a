use Rattle.std.proofs.Common.{◌≡◌, []}
use Rattle.fx_speed.proofs.kept.ask_all.Given as goal

abbrev pub invariant-loop : goal.invariant-loop
invariant-loop l = l.core.flying ≡ []
