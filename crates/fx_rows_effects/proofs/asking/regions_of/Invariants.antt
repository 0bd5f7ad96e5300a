use Rattle.std.proofs.Common.{◌≡◌, is_some, map, take}
use Rattle.fx_rows_effects.specs.Asked.{source_region}
use Rattle.fx_rows_effects.proofs.asking.regions_of.Given as goal

abbrev pub invariant-loop-clip : goal.invariant-loop-clip
invariant-loop-clip l = l.regions.items ≡ map source_region (map is_some (take l.clip-index l.clips))
