use Rattle.std.proofs.Common.{◌≡◌, []}
use Rattle.fx_speed.proofs.kept.fill.Given as goal

abbrev pub invariant-loop-key : goal.invariant-loop-key
invariant-loop-key l = l.core.flying ≡ []
