use Rattle.std.proofs.Common.{◌≡◌, take}
use Rattle.fx_props.proofs.EntryLaws.{Begun}
use Rattle.fx_props.proofs.write.write_entry.Given as goal

abbrev pub invariant-loop-value : goal.invariant-loop-value
invariant-loop-value l =
    record {
      place : l.index ≡ l.value-index;
      begun : Begun l.entry.name l.entry.kind (take l.value-index l.entry.values) l.initial.set l.set;
    }
