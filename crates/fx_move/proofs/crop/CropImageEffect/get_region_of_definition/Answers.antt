use Rattle.std.proofs.Common.{◌∙◌, ap}
use Rattle.fx_base.specs.Rect.{meet}
use Rattle.fx_move.specs.Crop.{crop}
use Rattle.fx_move.specs.CropLaws.{crop_laws}
use Rattle.fx_move.proofs.AnswerLaws.{region_fits}
use Rattle.fx_move.proofs.crop.CropImageEffect.get_region_of_definition.Goals as goal

pub write_region-requires-clause-near : goal.write_region-requires-clause-near
write_region-requires-clause-near c =
    let v = c.args.values.now in
    region_fits crop v c.args.regions.now _ c.meet-region.result crop_laws c.requires.asked c.requires.regions
    (λ context. c.meet-region.ensures.bounds ∙ ap (λ r. meet r c.crop_rect.result) c.region_of.ensures ∙ ap (meet _) c.crop_rect.ensures)
