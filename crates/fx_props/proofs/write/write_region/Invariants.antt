use Rattle.std.proofs.Common.{◌≡◌, take}
use Rattle.fx_props.specs.declared.value.PropKind.TheVariants as kind
use Rattle.fx_props.specs.Entries.{region_values}
use Rattle.fx_props.proofs.EntryLaws.{Begun}
use Rattle.fx_props.proofs.write.write_region.Given as goal

abbrev pub invariant-loop-bound : goal.invariant-loop-bound
invariant-loop-bound l =
    record {
      place : l.index ≡ l.bound-index;
      begun : Begun l.name kind.Fix (take l.bound-index (region_values l.fn.region)) l.initial.out_args l.out_args;
    }
