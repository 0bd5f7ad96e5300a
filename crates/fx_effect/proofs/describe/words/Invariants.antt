use Rattle.std.proofs.Common.{◌≡◌, map, take, All}
use Rattle.fx_props.specs.Value.{kind_of}
use Rattle.fx_props.specs.declared.value.PropKind.TheVariants as kind
use Rattle.fx_props.specs.declared.value.PropValue.TheVariants as value
use Rattle.fx_effect.proofs.describe.words.Given as goal

abbrev pub invariant-loop-word : goal.invariant-loop-word
invariant-loop-word g l =
    record {
      same : l.values.items ≡ map (λ w. value.Text (g.W.Word.spelling w)) (take l.word-index l.words);
      of_kind : All (λ v. kind_of v ≡ kind.Text) l.values.items;
    }
