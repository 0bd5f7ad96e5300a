use Rattle.std.proofs.Common.{◌∙◌, ◌∷◌, [], codes, ap, subst}
use Rattle.fx_base.specs.Bounds.{Bounds}
use Rattle.fx_base.specs.Rect.{meet}
use Rattle.fx_props.specs.Entries.{Wrote, interest, region_of}
use Rattle.fx_move.specs.Crop.{crop}
use Rattle.fx_move.specs.CropLaws.{crop_laws}
use Rattle.fx_move.proofs.AnswerLaws.{interest_fits}
use Rattle.fx_move.proofs.crop.CropImageEffect.get_regions_of_interest.Goals as goal

pub write_interest-requires-clause-near : goal.write_interest-requires-clause-near
write_interest-requires-clause-near c =
    let v = c.args.values.now in
    interest_fits crop v c.asked_region.result _ c.meet-region.result crop_laws c.requires.asked c.asked_region.ensures.window
    (c.meet-region.ensures.bounds ∙ ap (meet c.asked_region.result) c.crop_rect.ensures)

pub returns : goal.returns
returns c = λ context region lawful window there.
    let is = c.meet-region.ensures.bounds ∙ ap (λ r. meet r c.crop_rect.result) (c.asked_region.ensures.value region window.bounds there) ∙ ap (meet region) c.crop_rect.ensures in
    subst (λ (r : Bounds). Wrote (interest (codes "Source" ∷ []) (region_of (r ∷ []))) c.args.out_args.now c.write_interest.new.out_args) is c.in_ok-write_interest.ensures.written
