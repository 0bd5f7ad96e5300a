use Rattle.std.proofs.Common.{◌≡◌, is_some, map, take}
use Rattle.fx_scene.proofs.values.connected_of.Given as goal

abbrev pub invariant-loop-clip : goal.invariant-loop-clip
invariant-loop-clip l = l.flags.items ≡ map is_some (take l.clip-index l.clips)
