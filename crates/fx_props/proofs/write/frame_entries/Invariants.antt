use Rattle.std.proofs.Common.{◌≡◌, take}
use Rattle.fx_props.specs.Entries.{frame_ranges}
use Rattle.fx_props.specs.Entries.{texts_of, spans_of}
use Rattle.fx_props.proofs.write.frame_entries.Given as goal

abbrev pub invariant-loop-k : goal.invariant-loop-k
invariant-loop-k l = l.entries.items ≡ frame_ranges (texts_of (take l.k l.clips)) (spans_of l.spans)
