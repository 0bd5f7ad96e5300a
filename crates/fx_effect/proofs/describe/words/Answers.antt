use Rattle.std.proofs.Common.{◌≡◌, ◌∙◌, map, take, ap, sym, arith}
use Rattle.std.proofs.lemmas.List.{take_all}
use Rattle.std.proofs.lemmas.Simd.{map-map}
use Rattle.fx_props.specs.declared.value.PropKind.TheVariants as kind
use Rattle.fx_props.specs.declared.value.PropValue.TheVariants as value
use Rattle.fx_props.specs.Entries.{texts}
use Rattle.fx_props.proofs.EntryLaws.{if_ok, entry_is}
use Rattle.fx_effect.proofs.describe.words.Goals as goal

pub returns : goal.returns
returns g c =
    let words = c.args.words.now in
    let all : take c.loop-word.word-index words ≡ words = take_all c.loop-word.word-index words (omega (arith, c.loop-word-test.false)) in
    let same : c.loop-word.values.items ≡ texts (map g.W.Word.spelling words) =
    c.loop-word.invariant.same ∙ ap (map (λ w. value.Text (g.W.Word.spelling w))) all ∙ sym (map-map value.Text g.W.Word.spelling words) in
    if_ok c.new.result _ _ (λ e is. entry_is e kind.Text c.in_ok-name_of-2.field-0 c.args.name.now c.loop-word.values.items (texts (map g.W.Word.spelling words)) is c.in_ok-name_of-2.ensures same) c.new.ensures
