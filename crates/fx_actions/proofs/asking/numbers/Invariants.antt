use Rattle.std.proofs.Common.{◌≡◌, take, All}
use Rattle.fx_props.specs.Value.{kind_of}
use Rattle.fx_actions.specs.Asking.{numbers}
use Rattle.fx_actions.proofs.asking.numbers.Given as goal

abbrev pub invariant-loop-n : goal.invariant-loop-n
invariant-loop-n l =
    record {
      values : l.values.items ≡ numbers l.kind (take l.n-index l.list);
      kinds : All (λ v. kind_of v ≡ l.kind) l.values.items;
    }
