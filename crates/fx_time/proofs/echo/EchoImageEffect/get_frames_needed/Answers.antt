use Rattle.std.proofs.Common.{◌≡◌, ℤ, List, [], ◌∷◌, codes, subst, ◌∙◌, w64, to_z, of_z, FitsSigned, rules}
use Rattle.std.specs.Prelude.{All}
use Rattle.std.proofs.lemmas.Int.{to_z-of_z}
use Rattle.std.proofs.lemmas.List.Elements.{All-cons, All-nil}
use Rattle.fx_props.specs.Entries.{AreModerate, Wrote, frame_ranges}
use Rattle.fx_effect.specs.AnswerLaws.{spans_fit}
use Rattle.fx_time.specs.Echo.{echo, count, gap}
use Rattle.fx_time.specs.EchoLaws.{echo_laws}
use Rattle.fx_time.proofs.EchoRowLaws.{spans_are}
use Rattle.fx_time.proofs.echo.EchoImageEffect.get_frames_needed.Goals as goal

pub write_frames-requires-clause-near : goal.write_frames-requires-clause-near
write_frames-requires-clause-near c =
    let v = c.args.values.now in
    let frame : FitsSigned w64 v.frame = search rules in
    let at : to_z w64 (of_z w64 v.frame) ≡ v.frame = to_z-of_z w64 v.frame frame in
    let items = spans_are c.as_slice.result.now (to_z w64 (of_z w64 v.frame)) v.frame c.gap.result (gap v) c.count.result (count v)
    (c.as_slice.ensures.value ∙ c.in_ok-spans.ensures) at c.gap.ensures.value c.count.ensures.value in
    let lawful = c.requires.asked.lawful in
    All-cons (λ s. All AreModerate s.now) _ []
    (rw items (spans_fit echo lawful.context v 0 echo_laws lawful.there c.requires.asked.frame))
    (All-nil (λ s. All AreModerate s.now))

pub returns : goal.returns
returns c context lawful =
    let v = c.args.values.now in
    let frame : FitsSigned w64 v.frame = search rules in
    let at : to_z w64 (of_z w64 v.frame) ≡ v.frame = to_z-of_z w64 v.frame frame in
    let items = spans_are c.as_slice.result.now (to_z w64 (of_z w64 v.frame)) v.frame c.gap.result (gap v) c.count.result (count v)
    (c.as_slice.ensures.value ∙ c.in_ok-spans.ensures) at c.gap.ensures.value c.count.ensures.value in
    subst (λ (spans : List (ℤ × ℤ)). Wrote (frame_ranges (codes "Source" ∷ []) (λ clip. spans)) c.args.out_args.now c.write_frames.new.out_args) items c.in_ok-write_frames.ensures.written
