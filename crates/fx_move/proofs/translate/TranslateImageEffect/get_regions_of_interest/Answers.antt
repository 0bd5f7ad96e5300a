use Rattle.std.proofs.Common.{◌∙◌, ◌∷◌, [], codes, ap, subst}
use Rattle.fx_base.specs.Bounds.{Bounds}
use Rattle.fx_props.specs.Entries.{Wrote, interest, region_of}
use Rattle.fx_move.specs.Translate.{translate, across, upward, moved_from}
use Rattle.fx_move.specs.TranslateLaws.{translate_laws}
use Rattle.fx_move.proofs.AnswerLaws.{interest_fits}
use Rattle.fx_move.proofs.translate.TranslateImageEffect.get_regions_of_interest.Goals as goal

pub write_interest-requires-clause-near : goal.write_interest-requires-clause-near
write_interest-requires-clause-near c =
    let v = c.args.values.now in
    let r = c.asked_region.result in
    interest_fits translate v r _ c.moved_from-region.result translate_laws c.requires.asked c.asked_region.ensures.window
    (c.moved_from-region.ensures ∙ ap (λ a. moved_from a c.upward.result r) c.across.ensures.value ∙ ap (λ b. moved_from (across v) b r) c.upward.ensures.value)

pub returns : goal.returns
returns c = λ context region lawful window there.
    let v = c.args.values.now in
    let r = c.asked_region.result in
    let is = c.moved_from-region.ensures ∙ ap (λ a. moved_from a c.upward.result r) c.across.ensures.value ∙ ap (λ b. moved_from (across v) b r) c.upward.ensures.value ∙ ap (moved_from (across v) (upward v)) (c.asked_region.ensures.value region window.bounds there) in
    subst (λ (r : Bounds). Wrote (interest (codes "Source" ∷ []) (region_of (r ∷ []))) c.args.out_args.now c.write_interest.new.out_args) is c.in_ok-write_interest.ensures.written
