use Rattle.std.proofs.Common.{take}
use Rattle.fx_props.specs.Entries.{Wrote}
use Rattle.fx_props.proofs.write.write_entries.Given as goal

abbrev pub invariant-loop-entry : goal.invariant-loop-entry
invariant-loop-entry l = Wrote (take l.entry-index l.entries) l.initial.set l.set
