use Rattle.std.proofs.Common.{◌≡◌, ◌<◌, ◌∙◌, length, take, ap, sym, arith}
use Rattle.std.proofs.lemmas.List.{length-map}
use Rattle.std.proofs.Math.Seq.{take-length}
use Rattle.fx_props.specs.declared.value.PropKind.TheVariants as kind
use Rattle.fx_props.specs.declared.value.PropValue.TheVariants as value
use Rattle.fx_props.specs.Value.{as_value}
use Rattle.fx_props.specs.Entries.{texts}
use Rattle.fx_props.proofs.ReadLemmas.{read_at, count_of, text_at, text_of, take-text}
use Rattle.fx_props.proofs.read.texts_at.Goals as goal

pub loop-k-preserved : goal.loop-k-preserved
loop-k-preserved c = λ items there.
    let set = c.args.set.now in
    let name = c.args.name.now in
    let k = c.loop-k.k in
    let count : c.unwrap-k-end.result ≡ length (texts items) = count_of set kind.Text name (texts items) c.unwrap-k-end.result there (sym c.dimension.ensures.count ∙ c.unwrap-k-end.ensures) in
    let long : length (texts items) ≡ length items = length-map items value.Text in
    let within : k < length items = omega (arith, count, long, c.loop-k-test.true) in
    let read = sym c.get_text.ensures ∙ ap (as_value (λ text. value.Text text.now)) c.unwrap.ensures in
    take-text items _ _ k _ c.unwrap.result.now within c.in_ok-push.ensures.items (c.loop-k.invariant items there) c.in_ok-name_of.ensures
    (text_of _ _ _ read (read_at set kind.Text name (texts items) k _ there (text_at items k within)))

pub returns : goal.returns
returns c = λ items there.
    let count : c.unwrap-k-end.result ≡ length (texts items) = count_of c.args.set.now kind.Text c.args.name.now (texts items) c.unwrap-k-end.result there (sym c.dimension.ensures.count ∙ c.unwrap-k-end.ensures) in
    let long : length (texts items) ≡ length items = length-map items value.Text in
    let all : c.loop-k.k ≡ length items = omega (arith, count, long, c.loop-k-test.false, c.loop-k.auto) in
    c.of.ensures ∙ c.loop-k.invariant items there ∙ ap (λ k. take k items) all ∙ take-length items
