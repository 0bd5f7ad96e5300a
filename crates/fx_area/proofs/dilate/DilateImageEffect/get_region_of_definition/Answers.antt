use Rattle.std.proofs.Common.{◌≤◌, codes, arith, subst, sym}
use Rattle.fx_base.specs.Rect.{IsNear}
use Rattle.fx_props.specs.Entries.{region_of}
use Rattle.fx_area.specs.Erode.{radius}
use Rattle.fx_area.specs.ErodeLaws.{radius_few}
use Rattle.fx_area.specs.Dilate.{dilate}
use Rattle.fx_area.specs.DilateLaws.{dilate_laws}
use Rattle.fx_area.proofs.AnswerLaws.{region_fits, grown_by, region_window, wrote_region}
use Rattle.fx_area.proofs.dilate.DilateImageEffect.get_region_of_definition.Goals as goal

pub radius-radius-requires : goal.radius-radius-requires
radius-radius-requires c =
    radius_few (codes "dilate") c.requires.asked.lawful.context c.args.values.now c.requires.asked.lawful.there

pub grow-region-requires-clause-near : goal.grow-region-requires-clause-near
grow-region-requires-clause-near c =
    subst IsNear (sym c.region_of.ensures) (region_window c.args.values.now c.args.regions.now c.requires.regions).near

pub write_region-requires-clause-near : goal.write_region-requires-clause-near
write_region-requires-clause-near c =
    let v = c.args.values.now in
    let regions = c.args.regions.now in
    let n = c.radius-radius.result in
    let few : n ≤ 64 = omega (arith, c.radius-radius.ensures.few) in
    region_fits dilate v regions _ c.grow-region.result dilate_laws c.requires.asked c.requires.regions
    (λ context. grown_by c.grow-region.result c.region_of.result (region_of regions 0) n n (radius v) (radius v)
    c.grow-region.ensures.bounds c.region_of.ensures c.radius-radius.ensures.value c.radius-radius.ensures.value few few)

pub returns : goal.returns
returns c = λ context lawful.
    let v = c.args.values.now in
    let regions = c.args.regions.now in
    let n = c.radius-radius.result in
    let few : n ≤ 64 = omega (arith, c.radius-radius.ensures.few) in
    let is =
    grown_by c.grow-region.result c.region_of.result (region_of regions 0) n n (radius v) (radius v)
    c.grow-region.ensures.bounds c.region_of.ensures c.radius-radius.ensures.value c.radius-radius.ensures.value few few in
    wrote_region c.grow-region.result _ c.args.out_args.now c.write_region.new.out_args is
    c.in_ok-write_region.ensures.written
