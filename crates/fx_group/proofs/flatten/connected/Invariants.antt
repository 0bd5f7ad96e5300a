use Rattle.std.proofs.Common.{◌≡◌, take}
use Rattle.fx_group.specs.Expansion.{meant, connected}
use Rattle.fx_group.proofs.flatten.connected.Given as goal

abbrev pub invariant-loop-clip : goal.invariant-loop-clip
invariant-loop-clip l = l.targets.items ≡ connected (take l.clip-index l.clips) (meant l.others l.prefix)
