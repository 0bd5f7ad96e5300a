use Rattle.std.proofs.Common.{◌≡◌}
use Rattle.fx_scene.proofs.moments.listed.Given as goal

abbrev pub invariant-loop-used : goal.invariant-loop-used
invariant-loop-used l = l.uses.items ≡ l.yielded
