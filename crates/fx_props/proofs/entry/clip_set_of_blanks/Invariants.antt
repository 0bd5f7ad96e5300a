use Rattle.std.proofs.Common.{◌≡◌, map, take}
use Rattle.fx_props.proofs.EntryLaws.{blank_named}
use Rattle.fx_props.proofs.entry.clip_set_of_blanks.Given as goal

abbrev pub invariant-loop-clip : goal.invariant-loop-clip
invariant-loop-clip l = l.properties.items ≡ map (blank_named l.prefix l.kind) (take l.clip-index l.clip-items)
