use Rattle.std.proofs.Common.{subst, sym}
use Rattle.fx_base.specs.Rect.{IsNear}
use Rattle.fx_props.specs.Entries.{region_of}
use Rattle.fx_area.specs.Boxblur.{boxblur, rx, ry}
use Rattle.fx_area.specs.BoxblurLaws.{boxblur_laws}
use Rattle.fx_area.proofs.AnswerLaws.{region_fits, grown_by, region_window, wrote_region}
use Rattle.fx_area.proofs.boxblur.BoxblurImageEffect.get_region_of_definition.Goals as goal

pub grow-region-requires-clause-near : goal.grow-region-requires-clause-near
grow-region-requires-clause-near c = subst IsNear (sym c.region_of.ensures) (region_window c.args.values.now c.args.regions.now c.requires.regions).near

pub write_region-requires-clause-near : goal.write_region-requires-clause-near
write_region-requires-clause-near c =
    let v = c.args.values.now in
    let regions = c.args.regions.now in
    region_fits boxblur v regions _ c.grow-region.result boxblur_laws c.requires.asked c.requires.regions
    (λ context. grown_by c.grow-region.result c.region_of.result (region_of regions 0) c.rx.result c.ry.result (rx v) (ry v) c.grow-region.ensures.bounds c.region_of.ensures c.rx.ensures.value c.ry.ensures.value c.rx.ensures.few c.ry.ensures.few)

pub returns : goal.returns
returns c = λ context lawful.
    let v = c.args.values.now in
    let regions = c.args.regions.now in
    let is = grown_by c.grow-region.result c.region_of.result (region_of regions 0) c.rx.result c.ry.result (rx v) (ry v) c.grow-region.ensures.bounds c.region_of.ensures c.rx.ensures.value c.ry.ensures.value c.rx.ensures.few c.ry.ensures.few in
    wrote_region c.grow-region.result _ c.args.out_args.now c.write_region.new.out_args is c.in_ok-write_region.ensures.written
