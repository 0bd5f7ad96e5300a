use Rattle.std.proofs.Common.{◌≡◌, None, drop}
use Rattle.fx_actions.proofs.HullLemmas.{hull_of}
use Rattle.fx_actions.proofs.region.hull_of_required.Given as goal

abbrev pub invariant-loop-clip : goal.invariant-loop-clip
invariant-loop-clip l = hull_of l.hull (drop l.clip l.optional) (drop l.clip l.connected) (drop l.clip l.regions) ≡ hull_of None l.optional l.connected l.regions
