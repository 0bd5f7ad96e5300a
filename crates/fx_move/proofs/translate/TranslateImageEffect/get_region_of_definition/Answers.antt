use Rattle.std.proofs.Common.{◌∙◌, ap}
use Rattle.fx_move.specs.Translate.{translate, across, upward, moved_to}
use Rattle.fx_move.specs.TranslateLaws.{translate_laws}
use Rattle.fx_move.proofs.AnswerLaws.{region_fits}
use Rattle.fx_move.proofs.translate.TranslateImageEffect.get_region_of_definition.Goals as goal

pub write_region-requires-clause-near : goal.write_region-requires-clause-near
write_region-requires-clause-near c =
    let v = c.args.values.now in
    region_fits translate v c.args.regions.now _ c.moved_to-region.result translate_laws c.requires.asked c.requires.regions
    (λ context. c.moved_to-region.ensures ∙ ap (λ a. moved_to a c.upward.result c.region_of.result) c.across.ensures.value ∙ ap (λ b. moved_to (across v) b c.region_of.result) c.upward.ensures.value ∙ ap (moved_to (across v) (upward v)) c.region_of.ensures)
