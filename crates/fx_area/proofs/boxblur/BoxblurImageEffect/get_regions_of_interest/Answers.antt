use Rattle.fx_area.specs.Boxblur.{boxblur, rx, ry}
use Rattle.fx_area.specs.BoxblurLaws.{boxblur_laws}
use Rattle.fx_area.proofs.AnswerLaws.{interest_fits, grown_by, wrote_interest}
use Rattle.std.proofs.Common.{refl}
use Rattle.fx_area.proofs.boxblur.BoxblurImageEffect.get_regions_of_interest.Goals as goal

pub write_interest-requires-clause-near : goal.write_interest-requires-clause-near
write_interest-requires-clause-near c =
    let v = c.args.values.now in
    let r = c.asked_region.result in
    interest_fits boxblur v r _ c.grow-region.result boxblur_laws c.requires.asked c.asked_region.ensures.window
    (grown_by c.grow-region.result r r c.rx.result c.ry.result (rx v) (ry v) c.grow-region.ensures.bounds refl c.rx.ensures.value c.ry.ensures.value c.rx.ensures.few c.ry.ensures.few)

pub returns : goal.returns
returns c = λ context region lawful window there.
    let v = c.args.values.now in
    let is = grown_by c.grow-region.result c.asked_region.result region c.rx.result c.ry.result (rx v) (ry v) c.grow-region.ensures.bounds (c.asked_region.ensures.value region window.bounds there) c.rx.ensures.value c.ry.ensures.value c.rx.ensures.few c.ry.ensures.few in
    wrote_interest c.grow-region.result _ c.args.out_args.now c.write_interest.new.out_args is c.in_ok-write_interest.ensures.written
