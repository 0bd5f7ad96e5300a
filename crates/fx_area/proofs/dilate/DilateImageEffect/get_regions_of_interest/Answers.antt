use Rattle.std.proofs.Common.{◌≤◌, codes, refl, arith}
use Rattle.fx_area.specs.Erode.{radius}
use Rattle.fx_area.specs.ErodeLaws.{radius_few}
use Rattle.fx_area.specs.Dilate.{dilate}
use Rattle.fx_area.specs.DilateLaws.{dilate_laws}
use Rattle.fx_area.proofs.AnswerLaws.{interest_fits, grown_by, wrote_interest}
use Rattle.fx_area.proofs.dilate.DilateImageEffect.get_regions_of_interest.Goals as goal

pub radius-radius-requires : goal.radius-radius-requires
radius-radius-requires c =
    radius_few (codes "dilate") c.requires.asked.lawful.context c.args.values.now c.requires.asked.lawful.there

pub write_interest-requires-clause-near : goal.write_interest-requires-clause-near
write_interest-requires-clause-near c =
    let v = c.args.values.now in
    let r = c.asked_region.result in
    let n = c.radius-radius.result in
    let few : n ≤ 64 = omega (arith, c.radius-radius.ensures.few) in
    interest_fits dilate v r _ c.grow-region.result dilate_laws c.requires.asked c.asked_region.ensures.window
    (grown_by c.grow-region.result r r n n (radius v) (radius v) c.grow-region.ensures.bounds refl
    c.radius-radius.ensures.value c.radius-radius.ensures.value few few)

pub returns : goal.returns
returns c = λ context region lawful window there.
    let v = c.args.values.now in
    let n = c.radius-radius.result in
    let few : n ≤ 64 = omega (arith, c.radius-radius.ensures.few) in
    let is =
    grown_by c.grow-region.result c.asked_region.result region n n (radius v) (radius v) c.grow-region.ensures.bounds
    (c.asked_region.ensures.value region window.bounds there) c.radius-radius.ensures.value c.radius-radius.ensures.value few few in
    wrote_interest c.grow-region.result _ c.args.out_args.now c.write_interest.new.out_args is
    c.in_ok-write_interest.ensures.written
