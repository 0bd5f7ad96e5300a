use Rattle.std.proofs.Common.{◌≡◌, take, All}
use Rattle.fx_props.specs.Value.{kind_of}
use Rattle.fx_props.specs.declared.value.PropKind.TheVariants as kind
use Rattle.fx_props.specs.Entries.{range_values}
use Rattle.fx_props.proofs.write.range_list.Given as goal

abbrev pub invariant-loop-first : goal.invariant-loop-first
invariant-loop-first l =
    record {
      same : l.values.items ≡ range_values (take l.first-index l.spans);
      of_kind : All (λ v. kind_of v ≡ kind.Fix) l.values.items;
    }
