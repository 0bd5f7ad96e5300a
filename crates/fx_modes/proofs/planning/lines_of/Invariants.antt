use Rattle.std.proofs.Common.{◌≡◌, map, take}
use Rattle.fx_modes.specs.Plans.{line_of}
use Rattle.fx_modes.proofs.planning.lines_of.Given as goal

abbrev pub invariant-loop-entry : goal.invariant-loop-entry
invariant-loop-entry l = l.lines.items ≡ map line_of (take l.entry-index l.entries)
