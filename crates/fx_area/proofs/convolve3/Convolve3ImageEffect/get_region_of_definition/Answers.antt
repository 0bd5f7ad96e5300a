use Rattle.std.proofs.Common.{◌≤◌, refl, arith, subst, sym}
use Rattle.fx_base.specs.Rect.{IsNear}
use Rattle.fx_props.specs.Entries.{region_of}
use Rattle.fx_area.specs.Convolve3.{convolve3}
use Rattle.fx_area.specs.Convolve3Laws.{convolve3_laws}
use Rattle.fx_area.proofs.AnswerLaws.{region_fits, grown_by, region_window, wrote_region}
use Rattle.fx_area.proofs.convolve3.Convolve3ImageEffect.get_region_of_definition.Goals as goal

few : 1 ≤ 64
few = omega arith

pub grow-region-requires-clause-near : goal.grow-region-requires-clause-near
grow-region-requires-clause-near c =
    subst IsNear (sym c.region_of.ensures) (region_window c.args._values.now c.args.regions.now c.requires.regions).near

pub write_region-requires-clause-near : goal.write_region-requires-clause-near
write_region-requires-clause-near c =
    let regions = c.args.regions.now in
    region_fits convolve3 c.args._values.now regions _ c.grow-region.result convolve3_laws c.requires.asked
    c.requires.regions
    (λ context. grown_by c.grow-region.result c.region_of.result (region_of regions 0) 1 1 1 1
    c.grow-region.ensures.bounds c.region_of.ensures refl refl few few)

pub returns : goal.returns
returns c = λ context lawful.
    let regions = c.args.regions.now in
    let is =
    grown_by c.grow-region.result c.region_of.result (region_of regions 0) 1 1 1 1 c.grow-region.ensures.bounds
    c.region_of.ensures refl refl few few in
    wrote_region c.grow-region.result _ c.args.out_args.now c.write_region.new.out_args is
    c.in_ok-write_region.ensures.written
