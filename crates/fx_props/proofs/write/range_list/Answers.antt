use Rattle.std.proofs.Common.{◌≡◌, ◌<◌, ℤ, pos, length, get_or, w64, ◌∙◌, ap}
use Rattle.std.proofs.lemmas.Int.{to_z-of_z}
use Rattle.std.proofs.lemmas.List.Elements.{All-push}
use Rattle.fx_props.specs.declared.value.PropKind.TheVariants as kind
use Rattle.fx_props.specs.Value.{kind_of}
use Rattle.fx_props.specs.Entries.{whole}
use Rattle.fx_props.specs.Entries.{AreModerate}
use Rattle.fx_props.proofs.EntryLaws.{ranges_more, moderate_fits}
use Rattle.fx_props.proofs.write.range_list.Goals as goal

pub loop-first-preserved : goal.loop-first-preserved
loop-first-preserved c =
    let d : ℤ × ℤ = (pos 0, pos 0) in
    let i = c.loop-first.first-index in
    let inside : i < length c.args.spans.now = c.loop-first-test.true in
    let span = get_or c.args.spans.now i d in
    let near : AreModerate span = c.requires i d inside in
    let first : c.whole.result ≡ whole span.0 = c.whole.ensures.value ∙ ap whole (to_z-of_z w64 span.0 (moderate_fits span.0 near.0)) in
    let last : c.whole-in-loop-first.result ≡ whole span.1 = c.whole-in-loop-first.ensures.value ∙ ap whole (to_z-of_z w64 span.1 (moderate_fits span.1 near.1)) in
    record {
      same = ranges_more c.args.spans.now i d c.loop-first.values.items c.push.new.self.items c.push-in-loop-first.new.self.items c.whole.result c.whole-in-loop-first.result
          inside c.loop-first.invariant.same c.in_ok-push.ensures.items c.in_ok-push-2.ensures.items first last;
      of_kind = rw (c.in_ok-push-2.ensures.items, c.in_ok-push.ensures.items)
          (All-push (λ v. kind_of v ≡ kind.Fix) _ _ (All-push (λ v. kind_of v ≡ kind.Fix) _ _ c.loop-first.invariant.of_kind c.whole.ensures.of_kind) c.whole-in-loop-first.ensures.of_kind);
    }
